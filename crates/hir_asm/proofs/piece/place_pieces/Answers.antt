use Rattle.std.proofs.Common.{arith}
use Rattle.hir_build.proofs.Builds.{builds_then, builds_within}
use Rattle.hir_asm.proofs.Parts.{operands_next, options_next}
use Rattle.hir_asm.proofs.piece.place_pieces.Goals as goal

pub loop-piece-preserved : goal.loop-piece-preserved
loop-piece-preserved c = record {
  operands = operands_next c.args.opts.now c.args.pieces.now c.loop-piece.piece-index c.piece-item.result c.loop-piece-test.true c.piece-item.is c.loop-piece.invariant.builds c.in_ok-add_gated.ensures.builds c.loop-piece.said c.add_gated.new.self c.in_ok-add_gated.ensures.adds c.loop-piece.invariant.operands;
  options = options_next c.args.opts.now c.args.pieces.now c.loop-piece.piece-index c.piece-item.result c.loop-piece-test.true c.piece-item.is c.loop-piece.invariant.builds c.in_ok-add_gated.ensures.builds c.loop-piece.said c.add_gated.new.self c.in_ok-add_gated.ensures.adds c.loop-piece.invariant.options;
  builds = builds_within (builds_then c.loop-piece.invariant.builds c.in_ok-add_gated.ensures.builds) (omega arith) (omega arith);
}
