use Rattle.std.proofs.Common.{refl}
use Rattle.hir_store.proofs.Entered.{no_dangling_entered}
use Rattle.hir_build.proofs.builder.Builder.note_captures.Goals as goal

pub invariant_of-self-2 : goal.invariant_of-self-2
invariant_of-self-2 c = rw c.in_ok-insert.ensures.entered (record {
  no_dangling = no_dangling_entered _ _ _ (rw (← c.self.view_is) at c.requires.within) c.self.invariant.no_dangling;
  defined = record { each = c.self.invariant.defined.each };
  bound = c.self.invariant.bound;
})

pub returns-clause-notes : goal.returns-clause-notes
returns-clause-notes c = rw (c.in_ok-insert.ensures.entered, ← c.self.view_is) refl
