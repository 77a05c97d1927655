use Rattle.std.proofs.Common.{◌∙◌}
use Rattle.hir_lower.proofs.Pieces.{literal_is_none}
use Rattle.hir_lower.proofs.format_args.has_placeholder.Goals as goal

pub loop-piece-preserved : goal.loop-piece-preserved
loop-piece-preserved c = c.loop-piece.invariant ∙ literal_is_none _ _ _ c.loop-piece-test.true c.piece-item.is _ c.in-Literal.is
