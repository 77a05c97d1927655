use Rattle.std.specs.Prelude.{take}
use Rattle.hir_store.specs.Unfolding.{tree_at}
use Rattle.hir_build.specs.Origins.{origins_at}
use Rattle.hir_build.specs.Placed.{AllPlaced, reference_trees, reference_origins}
use Rattle.hir_build.specs.Building.{Builds, SameCaptures}
use Rattle.hir_build.proofs.builder.Builder.references.Given as goal

abbrev pub invariant-loop-id : goal.invariant-loop-id
invariant-loop-id l = record {
  placed : AllPlaced l.self.store l.references.items (reference_trees (tree_at l.fn.self.store) (take l.id-index l.ids)) (reference_origins (origins_at l.fn.self.store) (take l.id-index l.ids));
  builds : Builds l.fn.self l.self l.id-index 0;
  captures : SameCaptures l.initial.self.store l.self.store;
}
