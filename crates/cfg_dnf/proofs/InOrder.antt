-- Atoms in order, each once.
use Rattle.std.proofs.Common.{◌≡◌, Bool, true, false, ◌||◌, List, [], ◌∷◌, refl, sym, ap, ◌∙◌}
use Rattle.std.specs.List.{list_any, AllByRecursion}
use Rattle.std.specs.List.Sorted.{IsStrictlySortedBy}
use Rattle.std.specs.Ordering.{eq_by_cmp, match_ordering, ordering_reverse}
use Rattle.std.specs.declared.cmp.Ordering.TheVariants.{Less, Equal, Greater}
use Rattle.ra_cfg.specs.declared.cfg_expr.CfgAtom.{CfgAtom}
use Rattle.ra_cfg.specs.AtomOrder.{atom_total, same_atom}
use Rattle.ra_cfg.specs.Options.{atom_cmp}
use Rattle.ra_cfg.proofs.Kept.{same_sorted}
use Rattle.cfg_dnf.specs.Hints.{put, in_order, is_among}

-- what is below an atom is below all of those that are above it
above : (a b : CfgAtom) (bs : List CfgAtom) → atom_cmp a b ≡ Less → AllByRecursion (λ y. atom_cmp b y ≡ Less) bs → AllByRecursion (λ y. atom_cmp a y ≡ Less) bs
above a b [] less all = tt
above a b (c ∷ cs) less all = (atom_total.trans a b c less all.0, above a b cs less all.1)

below_put : (b a : CfgAtom) (bs : List CfgAtom) → atom_cmp b a ≡ Less → AllByRecursion (λ y. atom_cmp b y ≡ Less) bs → AllByRecursion (λ y. atom_cmp b y ≡ Less) (put a bs)
below_put b a [] less all = (less, tt)
below_put b a (c ∷ cs) less all =
    elim (atom_cmp a c) as (λ o. AllByRecursion (λ y. atom_cmp b y ≡ Less) (match_ordering o (a ∷ c ∷ cs) (c ∷ cs) (c ∷ put a cs))) [
      | Less ↦ (less, all)
      | Equal ↦ all
      | Greater ↦ (all.0, below_put b a cs less all.1)
    ]

sorted_put : (a : CfgAtom) (bs : List CfgAtom) → IsStrictlySortedBy atom_cmp bs → IsStrictlySortedBy atom_cmp (put a bs)
unfolding IsStrictlySortedBy
sorted_put a [] is = (tt, tt)
sorted_put a (b ∷ bs) is =
    elim (atom_cmp a b) as (λ o. atom_cmp a b ≡ o → IsStrictlySortedBy atom_cmp (match_ordering o (a ∷ b ∷ bs) (b ∷ bs) (b ∷ put a bs))) [
      | Less ↦ λ e. ((e, above a b bs e is.0), is)
      | Equal ↦ λ e. is
      | Greater ↦ λ e. (below_put b a bs (atom_total.antisymm b a ∙ ap ordering_reverse e) is.0, sorted_put a bs is.1)
    ] refl

or_twice : (a r : Bool) → (a || r) ≡ (a || (a || r))
or_twice true r = refl
or_twice false r = refl

or_turned : (a b r : Bool) → (b || (a || r)) ≡ (a || (b || r))
or_turned true true r = refl
or_turned true false r = refl
or_turned false b r = refl

among_put : (q a : CfgAtom) (bs : List CfgAtom) → list_any (eq_by_cmp atom_cmp q) (put a bs) ≡ (eq_by_cmp atom_cmp q a || list_any (eq_by_cmp atom_cmp q) bs)
among_put q a [] = refl
among_put q a (b ∷ bs) =
    elim (atom_cmp a b) as (λ o. atom_cmp a b ≡ o → list_any (eq_by_cmp atom_cmp q) (match_ordering o (a ∷ b ∷ bs) (b ∷ bs) (b ∷ put a bs)) ≡ (eq_by_cmp atom_cmp q a || (eq_by_cmp atom_cmp q b || list_any (eq_by_cmp atom_cmp q) bs))) [
      | Less ↦ λ e. refl
      | Equal ↦ λ e. or_twice (eq_by_cmp atom_cmp q b) (list_any (eq_by_cmp atom_cmp q) bs) ∙ ap (λ x. eq_by_cmp atom_cmp q x || (eq_by_cmp atom_cmp q b || list_any (eq_by_cmp atom_cmp q) bs)) (sym (same_atom a b e))
      | Greater ↦ λ e. ap (λ r. eq_by_cmp atom_cmp q b || r) (among_put q a bs) ∙ or_turned (eq_by_cmp atom_cmp q a) (eq_by_cmp atom_cmp q b) (list_any (eq_by_cmp atom_cmp q) bs)
    ] refl

-- they are in order
pub sorted_in_order : (atoms : List CfgAtom) → IsStrictlySortedBy atom_cmp (in_order atoms)
unfolding IsStrictlySortedBy
sorted_in_order [] = tt
sorted_in_order (a ∷ rest) = sorted_put a (in_order rest) (sorted_in_order rest)

-- they are the same atoms
pub among_in_order : (q : CfgAtom) (atoms : List CfgAtom) → is_among (in_order atoms) q ≡ is_among atoms q
among_in_order q [] = refl
among_in_order q (a ∷ rest) = among_put q a (in_order rest) ∙ ap (λ r. eq_by_cmp atom_cmp q a || r) (among_in_order q rest)

-- sorted atoms are those of a list where they are the same atoms
pub is_in_order : (sorted atoms : List CfgAtom) → IsStrictlySortedBy atom_cmp sorted → ((q : CfgAtom) → is_among sorted q ≡ is_among atoms q) → sorted ≡ in_order atoms
is_in_order sorted atoms is same = same_sorted atom_total same_atom sorted (in_order atoms) is (sorted_in_order atoms) (λ q. same q ∙ sym (among_in_order q atoms))

-- lists with the same atoms are the same in order
pub same_in_order : (xs ys : List CfgAtom) → ((q : CfgAtom) → is_among xs q ≡ is_among ys q) → in_order xs ≡ in_order ys
same_in_order xs ys same = is_in_order (in_order xs) ys (sorted_in_order xs) (λ q. among_in_order q xs ∙ same q)
