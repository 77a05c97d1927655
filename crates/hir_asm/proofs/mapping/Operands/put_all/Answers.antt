use Rattle.std.proofs.Common.{◌∙◌}
use Rattle.hir_asm.proofs.Places.{places_next}
use Rattle.hir_asm.proofs.mapping.Operands.put_all.Goals as goal

pub loop-piece-preserved : goal.loop-piece-preserved
loop-piece-preserved c = c.in_ok-put_piece.ensures ∙ places_next _ _ c.args.pieces.now c.loop-piece.piece-index _ c.loop-piece.places c.loop-piece-test.true c.loop-piece.invariant
