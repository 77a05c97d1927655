use Rattle.hir_store.proofs.Entered.{no_dangling_mapped}
use Rattle.hir_build.proofs.builder.Builder.note_mapping.Goals as goal

pub invariant_of-self-2 : goal.invariant_of-self-2
invariant_of-self-2 c = rw c.in_ok-insert.ensures.entered (record {
  no_dangling = no_dangling_mapped _ _ _ (rw (← c.self.view_is) at c.requires.within) c.self.invariant.no_dangling;
  defined = record { each = c.self.invariant.defined.each };
  bound = c.self.invariant.bound;
})
