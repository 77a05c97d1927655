use Rattle.std.proofs.Common.{subst, sym}
use Rattle.std.specs.List.Sorted.{IsStrictlySortedBy}
use Rattle.ra_cfg.specs.Options.{atom_cmp}
use Rattle.cfg_dnf.specs.ReasonText.{IsReason}
use Rattle.cfg_dnf.specs.declared.inactive_reason.ReasonAtoms.{ReasonAtoms}
use Rattle.cfg_dnf.proofs.InOrder.{sorted_in_order}
use Rattle.cfg_dnf.proofs.inactive_reason.InactiveReason.new.Goals as goal

pub invariant_of-result : goal.invariant_of-result
invariant_of-result c = subst (λ (a : ReasonAtoms). IsReason (record { enabled = a.enabled.items; disabled = a.disabled.items })) (sym c.in_ok-atoms.ensures) (record {
  enabled = subst (IsStrictlySortedBy atom_cmp) (sym c.sorted-enabled.ensures) (sorted_in_order c.args.enabled.items);
  disabled = subst (IsStrictlySortedBy atom_cmp) (sym c.sorted-disabled.ensures) (sorted_in_order c.args.disabled.items);
})
