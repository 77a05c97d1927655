use Rattle.std.specs.Str.{chars}
use Rattle.text_cut.specs.Runs.{size}
use Rattle.text_cut.specs.Seen.{seen}
use Rattle.fmt_parse.proofs.PiecesSoFar.{PiecesSoFar}
use Rattle.fmt_parse.proofs.format.parse_format.Given as goal

abbrev pub invariant-loop-piece : goal.invariant-loop-piece
invariant-loop-piece l = PiecesSoFar (chars l.fn.text) l.pieces.items l.number (seen l.here)

abbrev pub decreases-loop-piece : goal.decreases-loop-piece
decreases-loop-piece l = size (seen l.here).left
