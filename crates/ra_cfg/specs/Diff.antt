-- A diff names atoms to enable and atoms to disable.
use Rattle.std.specs.Prelude.{◌≡◌, Bool, true, false, not, ◌&&◌, List, [], ◌∷◌, refl}
use Rattle.std.proofs.Common.{ap}
use Rattle.std.specs.Bool.{Decides}
use Rattle.std.specs.Cmp.{IsEquivalence, decided}
use Rattle.std.specs.Cmp.Lexicographic.{pointwise, pointwise_decides}
use Rattle.std.specs.List.{list_any}
use Rattle.std.specs.List.Sorted.{IsStrictlySortedBy}
use Rattle.std.specs.Ordering.{eq_by_cmp, match_ordering}
use Rattle.std.specs.Coded.{Coded, code_by, coded×, coded_list}
use Rattle.ra_cfg.specs.contracts.cfg_expr.CfgAtom as atom
use Rattle.ra_cfg.specs.contracts.cfg_expr.CfgAtomPartialEq.TheImpl as atom_eq
use Rattle.ra_cfg.specs.declared.cfg_expr.CfgAtom.{CfgAtom}
use Rattle.ra_cfg.specs.AtomOrder.{atom_eq_is}
use Rattle.ra_cfg.specs.SameOptions.{both_decided}
use Rattle.ra_cfg.specs.Options.{OptionSet, atom_cmp, with_all, without_all}

-- the atoms to enable and those to disable
pub record Diff : Type 0 where
  pub enabled : List CfgAtom
  pub disabled : List CfgAtom

-- a diff is stored as the pair of its lists
abbrev pub diff_code : Coded Diff
diff_code =
    code_by (List CfgAtom × List CfgAtom) (coded× (coded_list atom.the_row.coded) (coded_list atom.the_row.coded)) (λ d. (d.enabled, d.disabled)) (λ p. record { enabled = p.0; disabled = p.1 }) (λ _. refl)

-- what a diff makes of options: the atoms to enable are put in, and those to disable are taken out
abbrev pub with_diff : OptionSet → Diff → OptionSet
with_diff o diff = without_all (with_all o diff.enabled) diff.disabled

-- whether an atom stands in a list
abbrev pub stands_in : CfgAtom → List CfgAtom → Bool
stands_in a atoms = list_any (eq_by_cmp atom_cmp a) atoms

-- a list has exactly the atoms that stand in `first` and not in `second`
abbrev pub HasOnly : List CfgAtom → List CfgAtom → List CfgAtom → Type 0
HasOnly first second atoms = (a : CfgAtom) → stands_in a atoms ≡ (stands_in a first && not (stands_in a second))

-- a diff has its atoms in order, each once, and none in both lists
pub record IsDiff (diff : Diff) : Type 0 where
  pub enabled : IsStrictlySortedBy atom_cmp diff.enabled
  pub disabled : IsStrictlySortedBy atom_cmp diff.disabled
  pub apart : (a : CfgAtom) → stands_in a diff.enabled ≡ true → stands_in a diff.disabled ≡ false

module _ (x : CfgAtom) (xs : List CfgAtom) (only_of_xs : List CfgAtom → List CfgAtom) where
  -- of x and then xs, those that do not stand in a list, where both are in order
  abbrev pub only_from : List CfgAtom → List CfgAtom
  only_from [] = x ∷ xs
  only_from (y ∷ ys) = match_ordering (atom_cmp x y) (x ∷ only_of_xs (y ∷ ys)) (only_of_xs ys) (only_from ys)

-- the atoms of the first list that do not stand in the second, where both are in order
abbrev pub only : List CfgAtom → List CfgAtom → List CfgAtom
only [] ys = []
only (x ∷ xs) ys = only_from x xs (only xs) ys

-- whether two diffs are equal
abbrev pub same_diff : Diff → Diff → Bool
same_diff d e = pointwise (atom_eq.ghosts).eq d.enabled e.enabled && pointwise (atom_eq.ghosts).eq d.disabled e.disabled

pub same_diff_is : (d e : Diff) → Decides (same_diff d e) (d ≡ e)
same_diff_is d e =
    let parts = both_decided (pointwise (atom_eq.ghosts).eq d.enabled e.enabled) (pointwise (atom_eq.ghosts).eq d.disabled e.disabled) (pointwise_decides atom_eq_is d.enabled e.enabled) (pointwise_decides atom_eq_is d.disabled e.disabled) in
    (λ h i. record { enabled = (parts.0 h).0 i; disabled = (parts.0 h).1 i }, λ h. parts.1 (ap (λ (k : Diff). k.enabled) h, ap (λ (k : Diff). k.disabled) h))

pub same_diff_equiv : IsEquivalence same_diff
same_diff_equiv = decided same_diff same_diff_is
