use Rattle.std.specs.Str.{chars}
use Rattle.text_cut.specs.Runs.{size}
use Rattle.text_cut.specs.Seen.{seen}
use Rattle.fmt_parse.proofs.AsmSoFar.{AsmSoFar}
use Rattle.fmt_parse.proofs.asm.parse_asm.Given as goal

abbrev pub invariant-loop-piece : goal.invariant-loop-piece
invariant-loop-piece l = AsmSoFar l.fn.curarg (chars l.fn.text) l.pieces.items l.counter (seen l.here)

abbrev pub decreases-loop-piece : goal.decreases-loop-piece
decreases-loop-piece l = size (seen l.here).left
