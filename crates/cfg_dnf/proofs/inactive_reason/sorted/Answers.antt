use Rattle.std.proofs.Common.{◌∙◌, sym, ap, subst}
use Rattle.std.specs.List.Sorted.{IsStrictlySortedBy}
use Rattle.std.specs.Ordering.{eq_by_cmp}
use Rattle.std.proofs.lemmas.List.Filters.{dedup_is}
use Rattle.std.proofs.lemmas.List.Kept.{IsStrictlySortedBy-dedup}
use Rattle.std.proofs.lemmas.List.Sorted.{list_any-IsPermutation}
use Rattle.ra_cfg.specs.contracts.cfg_expr.CfgAtomPartialEq.TheImpl as atom_eq
use Rattle.ra_cfg.specs.contracts.cfg_expr.CfgAtomOrd.TheImpl.Laws as order_laws
use Rattle.ra_cfg.specs.AtomOrder.{atom_total}
use Rattle.ra_cfg.specs.Options.{atom_cmp}
use Rattle.ra_cfg.specs.Diff.{stands_in}
use Rattle.ra_cfg.proofs.Walking.{stands_in-dedup}
use Rattle.cfg_dnf.proofs.InOrder.{is_in_order}
use Rattle.cfg_dnf.proofs.inactive_reason.sorted.Goals as goal

pub returns : goal.returns
returns c =
    is_in_order _ _
    (subst (IsStrictlySortedBy atom_cmp) (sym (dedup_is (atom_eq.ghosts).eq _ _ c.dedup.ensures.filtered)) (IsStrictlySortedBy-dedup atom_total order_laws.matches_eq-law _ c.sort_unstable.ensures.sorted))
    (λ a. ap (stands_in a) (dedup_is (atom_eq.ghosts).eq _ _ c.dedup.ensures.filtered) ∙ stands_in-dedup a _ ∙ sym (list_any-IsPermutation (eq_by_cmp atom_cmp a) _ _ c.sort_unstable.ensures.permutation))
