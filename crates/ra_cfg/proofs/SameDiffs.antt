-- A diff is known from the atoms that stand in its lists.
use Rattle.std.proofs.Common.{◌≡◌, Bool, true, false, not, ◌&&◌, ◌||◌, ◌+◌, List, [], ◌∷◌, length, refl, sym, ap, ◌∙◌, codes}
use Rattle.std.specs.List.Sorted.{IsStrictlySortedBy}
use Rattle.std.specs.Ordering.{eq_by_cmp}
use Rattle.std.specs.Cmp.{Equal-is}
use Rattle.ra_cfg.specs.declared.cfg_expr.CfgAtom.{CfgAtom}
use Rattle.ra_cfg.specs.declared.cfg_expr.CfgAtom.TheVariants.{Flag}
use Rattle.ra_cfg.specs.AtomOrder.{atom_total, same_atom}
use Rattle.ra_cfg.specs.Diff.{Diff, HasOnly, IsDiff, stands_in}
use Rattle.ra_cfg.specs.Options.{atom_cmp}
use Rattle.ra_cfg.proofs.Kept.{same_sorted}

-- diffs in whose lists the same atoms stand are equal
pub same_diffs : (diff other : Diff) → IsDiff diff → IsDiff other → ((a : CfgAtom) → stands_in a diff.enabled ≡ stands_in a other.enabled) → ((a : CfgAtom) → stands_in a diff.disabled ≡ stands_in a other.disabled) → diff ≡ other
same_diffs diff other is so on off i = record {
  enabled = same_sorted atom_total same_atom diff.enabled other.enabled is.enabled so.enabled on i;
  disabled = same_sorted atom_total same_atom diff.disabled other.disabled is.disabled so.disabled off i;
}

flag_a : CfgAtom
flag_a = Flag (codes "a")

flag_b : CfgAtom
flag_b = Flag (codes "b")

only_a : Diff
only_a = record { enabled = flag_a ∷ []; disabled = [] }

only_a-is_diff : IsDiff only_a
unfolding only_a IsStrictlySortedBy
only_a-is_diff = record { enabled = (tt, tt); disabled = tt; apart = λ a e. refl }

-- no atom is both
not_both : (q : CfgAtom) → eq_by_cmp atom_cmp q flag_b ≡ true → eq_by_cmp atom_cmp q flag_a ≡ false
unfolding flag_a flag_b
not_both q e = ap (λ atom. eq_by_cmp atom_cmp atom flag_a) (same_atom q flag_b ((Equal-is (atom_cmp q flag_b)).0 e))

first_alone : (b a : Bool) → (b ≡ true → a ≡ false) → ((b || (a || (b || false))) && not (b || false)) ≡ (a || false)
first_alone true a apart = ap (λ x. x || false) (sym (apart refl))
first_alone false true apart = refl
first_alone false false apart = refl

second_gone : (b a : Bool) → ((b || false) && not (b || (a || (b || false)))) ≡ false
second_gone true a = refl
second_gone false a = refl

-- the diff that enables `b`, `a` and `b` and disables `b` changes one atom
pub one_is_left : (diff : Diff) (enable disable : List CfgAtom) → enable ≡ Flag (codes "b") ∷ Flag (codes "a") ∷ Flag (codes "b") ∷ [] → disable ≡ Flag (codes "b") ∷ [] →
    IsDiff diff → HasOnly enable disable diff.enabled → HasOnly disable enable diff.disabled → length diff.enabled + length diff.disabled ≡ 1
unfolding flag_a flag_b only_a
one_is_left diff enable disable enable_is disable_is is on off =
    ap (λ (d : Diff). length d.enabled + length d.disabled) (same_diffs diff only_a is only_a-is_diff
    (λ q. on q ∙ (λ i. stands_in q (enable_is i) && not (stands_in q (disable_is i))) ∙ first_alone (eq_by_cmp atom_cmp q flag_b) (eq_by_cmp atom_cmp q flag_a) (not_both q))
    (λ q. off q ∙ (λ i. stands_in q (disable_is i) && not (stands_in q (enable_is i))) ∙ second_gone (eq_by_cmp atom_cmp q flag_b) (eq_by_cmp atom_cmp q flag_a)))
