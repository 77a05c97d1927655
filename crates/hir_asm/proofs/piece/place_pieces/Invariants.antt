use Rattle.std.specs.Prelude.{◌≡◌, ◌*◌, take}
use Rattle.hir_build.specs.Building.{Builds}
use Rattle.hir_asm.specs.Operands.{operands_written, bits_written}
use Rattle.hir_asm.specs.Placing.{AreOperands}
use Rattle.hir_asm.proofs.piece.place_pieces.Given as goal

abbrev pub invariant-loop-piece : goal.invariant-loop-piece
invariant-loop-piece l = record {
  operands : AreOperands l.builder.store l.fn.builder.file (operands_written l.opts (take l.piece-index l.pieces)) l.said.operands;
  options : l.said.options.0 ≡ bits_written l.opts (take l.piece-index l.pieces);
  builds : Builds l.fn.builder l.builder (2 * l.piece-index) 0;
}
