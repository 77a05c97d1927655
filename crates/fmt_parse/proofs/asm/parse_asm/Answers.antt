use Rattle.std.proofs.Common.{sym}
use Rattle.text_cut.specs.Seen.{seen}
use Rattle.fmt_parse.proofs.AsmSoFar.{asm_more, asm_smaller, asm_ends}
use Rattle.fmt_parse.proofs.Ranges.{asm_pieces_within}
use Rattle.fmt_parse.proofs.asm.parse_asm.Goals as goal

pub loop-piece-smaller : goal.loop-piece-smaller
loop-piece-smaller c = asm_smaller _ _ _ _ (seen c.loop-piece.here) _ (seen c.in-Some.behind) c.loop-piece.invariant c.in-Some.ensures.value

pub loop-piece-preserved : goal.loop-piece-preserved
loop-piece-preserved c =
    asm_more _ _ _ _ _ _ _ (seen c.loop-piece.here) _ (seen c.in-Some.behind) c.loop-piece.invariant c.in-Some.ensures.value c.in_ok-add.ensures c.takes.ensures c.saturating_add-counter.ensures

pub returns-clause-read : goal.returns-clause-read
returns-clause-read c = asm_ends _ _ _ (seen c.loop-piece.here) c.loop-piece.invariant (sym c.in_default.ensures.value) c.is_at_end.ensures

pub returns-clause-ranges : goal.returns-clause-ranges
returns-clause-ranges c = asm_pieces_within _ _ _ c.utf8.text (returns-clause-read c)
