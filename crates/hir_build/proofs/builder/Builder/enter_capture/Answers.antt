use Rattle.std.proofs.Common.{refl}
use Rattle.hir_store.proofs.Entered.{no_dangling_captured}
use Rattle.hir_build.proofs.builder.Builder.enter_capture.Goals as goal

pub invariant_of-self-2 : goal.invariant_of-self-2
invariant_of-self-2 c = rw c.in_ok-insert.ensures.entered (record {
  no_dangling = no_dangling_captured _ _ _ (rw (← c.self.view_is) at c.requires.within) c.self.invariant.no_dangling;
  defined = record { each = c.self.invariant.defined.each };
  bound = c.self.invariant.bound;
})

pub returns-clause-enters : goal.returns-clause-enters
returns-clause-enters c = rw (c.in_ok-insert.ensures.entered, ← c.self.view_is) refl
