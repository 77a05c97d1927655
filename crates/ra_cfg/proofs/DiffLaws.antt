-- What a diff makes of a set of options, atom by atom.
use Rattle.std.proofs.Common.{◌≡◌, Bool, true, false, not, ◌&&◌, ◌||◌, if◌then◌else◌, List, [], ◌∷◌, refl, sym, ap, ◌∙◌}
use Rattle.std.specs.Ordering.{eq_by_cmp}
use Rattle.std.specs.Cmp.{Equal-is}
use Rattle.std.specs.FinSet as set
use Rattle.ra_cfg.specs.declared.cfg_expr.CfgAtom.{CfgAtom}
use Rattle.ra_cfg.specs.AtomOrder.{atom_total, same_atom}
use Rattle.ra_cfg.specs.Options.{OptionSet, atom_cmp, is_reserved, name_of, with_atom, with_free, with_all, without_free, without_all}
use Rattle.ra_cfg.specs.Diff.{Diff, IsDiff, stands_in, with_diff}
use Rattle.ra_cfg.proofs.OptionSets.{options}

-- whether an atom is one that can be changed, and that one
hits : CfgAtom → CfgAtom → Bool
hits q a = not (is_reserved (name_of a)) && eq_by_cmp atom_cmp q a

contains-with_free : (o : OptionSet) (a q : CfgAtom) → set.contains (with_free o a).atoms q ≡ (hits q a || set.contains o.atoms q)
unfolding hits
contains-with_free o a q =
    elim (is_reserved (name_of a)) as (λ b. set.contains (if b then o else with_atom o a).atoms q ≡ ((not b && eq_by_cmp atom_cmp q a) || set.contains o.atoms q)) [
      | true ↦ refl
      | false ↦ set.contains-insert atom_total o.atoms a q
    ]

contains-without_free : (o : OptionSet) (a q : CfgAtom) → set.contains (without_free o a).atoms q ≡ (not (hits q a) && set.contains o.atoms q)
unfolding hits
contains-without_free o a q =
    elim (is_reserved (name_of a)) as (λ b. set.contains (if b then o else options (set.remove o.atoms a) o.versions).atoms q ≡ (not (not b && eq_by_cmp atom_cmp q a) && set.contains o.atoms q)) [
      | true ↦ refl
      | false ↦ set.contains-remove atom_total o.atoms a q
    ]

and_no : (b : Bool) → (b && false) ≡ false
and_no true = refl
and_no false = refl

-- a reserved atom is never hit
missed : (q a : CfgAtom) → is_reserved (name_of q) ≡ true → hits q a ≡ false
unfolding hits
missed q a reserved =
    elim (eq_by_cmp atom_cmp q a) as (λ b. eq_by_cmp atom_cmp q a ≡ b → (not (is_reserved (name_of a)) && b) ≡ false) [
      | true ↦ λ e. ap (λ r. not r && true) (ap (λ p. is_reserved (name_of p)) (sym (same_atom q a ((Equal-is (atom_cmp q a)).0 e))) ∙ reserved)
      | false ↦ λ e. and_no (not (is_reserved (name_of a)))
    ] refl

-- another one is hit where it is the one
hit : (q a : CfgAtom) → is_reserved (name_of q) ≡ false → hits q a ≡ eq_by_cmp atom_cmp q a
unfolding hits
hit q a free =
    elim (eq_by_cmp atom_cmp q a) as (λ b. eq_by_cmp atom_cmp q a ≡ b → (not (is_reserved (name_of a)) && b) ≡ b) [
      | true ↦ λ e. ap (λ r. not r && true) (ap (λ p. is_reserved (name_of p)) (sym (same_atom q a ((Equal-is (atom_cmp q a)).0 e))) ∙ free)
      | false ↦ λ e. and_no (not (is_reserved (name_of a)))
    ] refl

moved_or : (a b c : Bool) → (b || (a || c)) ≡ ((a || b) || c)
moved_or true true c = refl
moved_or true false c = refl
moved_or false true c = refl
moved_or false false c = refl

moved_and : (a b c : Bool) → (not b && (not a && c)) ≡ (not (a || b) && c)
moved_and true true c = refl
moved_and true false c = refl
moved_and false true c = refl
moved_and false false c = refl

with_all_free : (o : OptionSet) (atoms : List CfgAtom) (q : CfgAtom) → is_reserved (name_of q) ≡ false → set.contains (with_all o atoms).atoms q ≡ (stands_in q atoms || set.contains o.atoms q)
with_all_free o [] q free = refl
with_all_free o (a ∷ rest) q free =
    with_all_free (with_free o a) rest q free
    ∙ ap (λ b. stands_in q rest || b) (contains-with_free o a q ∙ ap (λ b. b || set.contains o.atoms q) (hit q a free))
    ∙ moved_or (eq_by_cmp atom_cmp q a) (stands_in q rest) (set.contains o.atoms q)

without_all_free : (o : OptionSet) (atoms : List CfgAtom) (q : CfgAtom) → is_reserved (name_of q) ≡ false → set.contains (without_all o atoms).atoms q ≡ (not (stands_in q atoms) && set.contains o.atoms q)
without_all_free o [] q free = refl
without_all_free o (a ∷ rest) q free =
    without_all_free (without_free o a) rest q free
    ∙ ap (λ b. not (stands_in q rest) && b) (contains-without_free o a q ∙ ap (λ b. not b && set.contains o.atoms q) (hit q a free))
    ∙ moved_and (eq_by_cmp atom_cmp q a) (stands_in q rest) (set.contains o.atoms q)

with_all_reserved : (o : OptionSet) (atoms : List CfgAtom) (q : CfgAtom) → is_reserved (name_of q) ≡ true → set.contains (with_all o atoms).atoms q ≡ set.contains o.atoms q
with_all_reserved o [] q reserved = refl
with_all_reserved o (a ∷ rest) q reserved = with_all_reserved (with_free o a) rest q reserved ∙ contains-with_free o a q ∙ ap (λ b. b || set.contains o.atoms q) (missed q a reserved)

without_all_reserved : (o : OptionSet) (atoms : List CfgAtom) (q : CfgAtom) → is_reserved (name_of q) ≡ true → set.contains (without_all o atoms).atoms q ≡ set.contains o.atoms q
without_all_reserved o [] q reserved = refl
without_all_reserved o (a ∷ rest) q reserved = without_all_reserved (without_free o a) rest q reserved ∙ contains-without_free o a q ∙ ap (λ b. not b && set.contains o.atoms q) (missed q a reserved)

with_all_versions : (o : OptionSet) (atoms : List CfgAtom) → (with_all o atoms).versions ≡ o.versions
with_all_versions o [] = refl
with_all_versions o (a ∷ rest) =
    with_all_versions (with_free o a) rest
    ∙ elim (is_reserved (name_of a)) as (λ b. (if b then o else with_atom o a).versions ≡ o.versions) [ true ↦ refl | false ↦ refl ]

without_all_versions : (o : OptionSet) (atoms : List CfgAtom) → (without_all o atoms).versions ≡ o.versions
without_all_versions o [] = refl
without_all_versions o (a ∷ rest) =
    without_all_versions (without_free o a) rest
    ∙ elim (is_reserved (name_of a)) as (λ b. (if b then o else options (set.remove o.atoms a) o.versions).versions ≡ o.versions) [ true ↦ refl | false ↦ refl ]

in_one : (enabled disabled set_before : Bool) → (enabled ≡ true → disabled ≡ false) → (not disabled && (enabled || set_before)) ≡ (enabled || (set_before && not disabled))
in_one true d s apart = ap (λ b. not b && true) (apart refl)
in_one false true true apart = refl
in_one false true false apart = refl
in_one false false true apart = refl
in_one false false false apart = refl

-- an atom whose name or key is not reserved
pub diff_of_free : (o : OptionSet) (diff : Diff) (a : CfgAtom) → IsDiff diff → is_reserved (name_of a) ≡ false →
    set.contains (with_diff o diff).atoms a ≡ (stands_in a diff.enabled || (set.contains o.atoms a && not (stands_in a diff.disabled)))
diff_of_free o diff a is free =
    without_all_free (with_all o diff.enabled) diff.disabled a free
    ∙ ap (λ b. not (stands_in a diff.disabled) && b) (with_all_free o diff.enabled a free)
    ∙ in_one (stands_in a diff.enabled) (stands_in a diff.disabled) (set.contains o.atoms a) (is.apart a)

-- any other stays as it was
pub diff_of_reserved : (o : OptionSet) (diff : Diff) (a : CfgAtom) → is_reserved (name_of a) ≡ true → set.contains (with_diff o diff).atoms a ≡ set.contains o.atoms a
diff_of_reserved o diff a reserved = without_all_reserved (with_all o diff.enabled) diff.disabled a reserved ∙ with_all_reserved o diff.enabled a reserved

-- the answers stay
pub diff_of_versions : (o : OptionSet) (diff : Diff) → (with_diff o diff).versions ≡ o.versions
diff_of_versions o diff = without_all_versions (with_all o diff.enabled) diff.disabled ∙ with_all_versions o diff.enabled
