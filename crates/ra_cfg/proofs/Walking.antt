-- The walk over two lists in order that keeps what stands in one of them alone.
use Rattle.std.proofs.Common.{◌≡◌, ℕ, Bool, true, false, cond, not, ◌&&◌, ◌||◌, ◌+◌, ◌<◌, ◌≤◌, List, [], ◌∷◌, ◌++◌, length, take, drop, slice_index_or, refl, sym, ap, subst, ◌∙◌, arith}
use Rattle.std.specs.List.{AllByRecursion, list_any, filter, dedup, dedup_from}
use Rattle.std.specs.List.Sorted.{IsStrictlySortedBy}
use Rattle.std.specs.Ordering.{is_eq, eq_by_cmp, match_ordering, ordering_reverse}
use Rattle.std.specs.declared.cmp.Ordering.{Ordering}
use Rattle.std.specs.declared.cmp.Ordering.TheVariants.{Less, Equal, Greater}
use Rattle.std.specs.Cmp.{Equal-is}
use Rattle.std.proofs.lemmas.List.{drop_more, drop_all, append_assoc}
use Rattle.std.proofs.lemmas.List.Kept.{IsStrictlySortedBy-filter}
use Rattle.ra_cfg.specs.contracts.cfg_expr.CfgAtomPartialEq.TheImpl as atom_eq
use Rattle.ra_cfg.specs.declared.cfg_expr.CfgAtom.{CfgAtom}
use Rattle.ra_cfg.specs.AtomOrder.{atom_total, same_atom, atom_eq_is}
use Rattle.ra_cfg.specs.Options.{atom_cmp, true_flag}
use Rattle.ra_cfg.specs.Diff.{only, stands_in, IsDiff}

or_same : (a b c : Bool) → a ≡ b → (a || c) ≡ (a || (b || c))
or_same true b c e = refl
or_same false true c e = absurd cc
or_same false false c e = refl

-- dropping repeats keeps what stands in a list
any_dedup_from : (p : CfgAtom → Bool) (x : CfgAtom) (xs : List CfgAtom) → list_any p (dedup_from (atom_eq.ghosts).eq x xs) ≡ (p x || list_any p xs)
any_dedup_from p x [] = refl
any_dedup_from p x (y ∷ ys) =
    elim ((atom_eq.ghosts).eq y x) as (λ b. (atom_eq.ghosts).eq y x ≡ b → list_any p (cond b (dedup_from (atom_eq.ghosts).eq x ys) (x ∷ dedup_from (atom_eq.ghosts).eq y ys)) ≡ (p x || (p y || list_any p ys))) [
      | true ↦ λ e. any_dedup_from p x ys ∙ or_same (p x) (p y) (list_any p ys) (ap p (sym ((atom_eq_is y x).0 e)))
      | false ↦ λ e. ap (λ b. p x || b) (any_dedup_from p y ys)
    ] refl

pub stands_in-dedup : (a : CfgAtom) (xs : List CfgAtom) → stands_in a (dedup (atom_eq.ghosts).eq xs) ≡ stands_in a xs
stands_in-dedup a [] = refl
stands_in-dedup a (x ∷ xs) = any_dedup_from (eq_by_cmp atom_cmp a) x xs

-- nothing stands in an empty list
pub only_none : (xs : List CfgAtom) → only xs [] ≡ xs
only_none [] = refl
only_none (x ∷ xs) = refl

only_less : (x y : CfgAtom) (xs ys : List CfgAtom) → atom_cmp x y ≡ Less → only (x ∷ xs) (y ∷ ys) ≡ x ∷ only xs (y ∷ ys)
only_less x y xs ys e = ap (λ o. match_ordering o (x ∷ only xs (y ∷ ys)) (only xs ys) (only (x ∷ xs) ys)) e

only_equal : (x y : CfgAtom) (xs ys : List CfgAtom) → atom_cmp x y ≡ Equal → only (x ∷ xs) (y ∷ ys) ≡ only xs ys
only_equal x y xs ys e = ap (λ o. match_ordering o (x ∷ only xs (y ∷ ys)) (only xs ys) (only (x ∷ xs) ys)) e

only_greater : (x y : CfgAtom) (xs ys : List CfgAtom) → atom_cmp x y ≡ Greater → only (x ∷ xs) (y ∷ ys) ≡ only (x ∷ xs) ys
only_greater x y xs ys e = ap (λ o. match_ordering o (x ∷ only xs (y ∷ ys)) (only xs ys) (only (x ∷ xs) ys)) e

-- the order turned round
turned : (x y : CfgAtom) (o : Ordering) → atom_cmp x y ≡ o → atom_cmp y x ≡ ordering_reverse o
turned x y o e = atom_total.antisymm y x ∙ ap ordering_reverse e

-- one element more at the end of what is kept, and one less in front of the rest
kept_on : (front more rest less whole : List CfgAtom) (x : CfgAtom) → more ≡ front ++ x ∷ [] → rest ≡ x ∷ less → front ++ rest ≡ whole → more ++ less ≡ whole
kept_on front more rest less whole x e f g = ap (λ t. t ++ less) e ∙ append_assoc front (x ∷ []) less ∙ ap (λ t. front ++ t) (sym f) ∙ g

-- an element moved behind what is kept, with the rest behind it
pub moved : (old new : List CfgAtom) (kept next : ℕ) → next < length old → ((d : CfgAtom) → take (kept + 1) new ≡ take kept old ++ slice_index_or old next d ∷ []) → drop (next + 1) new ≡ drop (next + 1) old →
    take (kept + 1) new ++ drop (next + 1) new ≡ take kept old ++ drop next old
moved old new kept next within front rest =
    kept_on _ _ _ (drop (next + 1) new) _ (slice_index_or old next true_flag) (front true_flag) (drop_more old next true_flag within ∙ ap (λ t. slice_index_or old next true_flag ∷ t) (sym rest)) refl

-- how far a walk over both lists has come: what is kept of each list, and what the rest adds to it
pub record IsWalked (first second left right : List CfgAtom) (kept_left i kept_right j : ℕ) : Type 0 where
  pub behind_left : kept_left ≤ i
  pub within_left : i ≤ length left
  pub behind_right : kept_right ≤ j
  pub within_right : j ≤ length right
  pub of_first : take kept_left left ++ only (drop i left) (drop j right) ≡ only first second
  pub of_second : take kept_right right ++ only (drop j right) (drop i left) ≡ only second first

module _ {first second left right : List CfgAtom} {kept_left i kept_right j : ℕ} (x y : CfgAtom)
    (walked : IsWalked first second left right kept_left i kept_right j) (within_left : i < length left) (within_right : j < length right)
    (x_is : x ≡ slice_index_or left i x) (y_is : y ≡ slice_index_or right j y) where
  left_at : drop i left ≡ x ∷ drop (i + 1) left
  left_at = drop_more left i x within_left ∙ ap (λ a. a ∷ drop (i + 1) left) (sym x_is)

  right_at : drop j right ≡ y ∷ drop (j + 1) right
  right_at = drop_more right j y within_right ∙ ap (λ a. a ∷ drop (j + 1) right) (sym y_is)

  -- the left atom is below the right one, and is kept
  pub walked_less : atom_cmp x y ≡ Less → (new : List CfgAtom) →
      ((d : CfgAtom) → take (kept_left + 1) new ≡ take kept_left left ++ slice_index_or left i d ∷ []) → drop (i + 1) new ≡ drop (i + 1) left → length new ≡ length left →
      IsWalked first second new right (kept_left + 1) (i + 1) kept_right j
  walked_less less new front rest same = record {
    behind_left = omega (arith, walked.behind_left);
    within_left = omega (arith, within_left, same);
    behind_right = walked.behind_right;
    within_right = walked.within_right;
    of_first = kept_on _ _ _ _ _ x (front x ∙ ap (λ a. take kept_left left ++ a ∷ []) (sym x_is))
        ((λ k. only (left_at k) (right_at k)) ∙ only_less x y _ _ less ∙ (λ k. x ∷ only (sym rest k) (sym right_at k))) walked.of_first;
    of_second = ap (λ t. take kept_right right ++ t)
        ((λ k. only (right_at k) (rest k)) ∙ sym (only_greater y x _ _ (turned x y Less less)) ∙ (λ k. only (sym right_at k) (sym left_at k))) ∙ walked.of_second;
  }

  -- both atoms are the same, and neither is kept
  pub walked_equal : atom_cmp x y ≡ Equal → IsWalked first second left right kept_left (i + 1) kept_right (j + 1)
  walked_equal equal = record {
    behind_left = omega (arith, walked.behind_left);
    within_left = omega (arith, within_left);
    behind_right = omega (arith, walked.behind_right);
    within_right = omega (arith, within_right);
    of_first = ap (λ t. take kept_left left ++ t) (sym (only_equal x y _ _ equal) ∙ (λ k. only (sym left_at k) (sym right_at k))) ∙ walked.of_first;
    of_second = ap (λ t. take kept_right right ++ t) (sym (only_equal y x _ _ (turned x y Equal equal)) ∙ (λ k. only (sym right_at k) (sym left_at k))) ∙ walked.of_second;
  }

  -- the right atom is below the left one, and is kept
  pub walked_greater : atom_cmp x y ≡ Greater → (new : List CfgAtom) →
      ((d : CfgAtom) → take (kept_right + 1) new ≡ take kept_right right ++ slice_index_or right j d ∷ []) → drop (j + 1) new ≡ drop (j + 1) right → length new ≡ length right →
      IsWalked first second left new kept_left i (kept_right + 1) (j + 1)
  walked_greater greater new front rest same = record {
    behind_left = walked.behind_left;
    within_left = walked.within_left;
    behind_right = omega (arith, walked.behind_right);
    within_right = omega (arith, within_right, same);
    of_first = ap (λ t. take kept_left left ++ t)
        ((λ k. only (left_at k) (rest k)) ∙ sym (only_greater x y _ _ greater) ∙ (λ k. only (sym left_at k) (sym right_at k))) ∙ walked.of_first;
    of_second = kept_on _ _ _ _ _ y (front y ∙ ap (λ a. take kept_right right ++ a ∷ []) (sym y_is))
        ((λ k. only (right_at k) (left_at k)) ∙ only_less y x _ _ (turned x y Greater greater) ∙ (λ k. y ∷ only (sym rest k) (sym left_at k))) walked.of_second;
  }

-- where one list is at its end, what is left of the other is kept
module _ {first second left right : List CfgAtom} {kept_left i kept_right j : ℕ} (walked : IsWalked first second left right kept_left i kept_right j) where
  pub left_ends : length left ≤ i → (take kept_left left ++ drop i left ≡ only first second) × (take kept_right right ++ drop j right ≡ only second first)
  left_ends done =
      let none = drop_all i left done in (
        ap (λ t. take kept_left left ++ t) (none ∙ (λ k. only (sym none k) (drop j right))) ∙ walked.of_first,
        ap (λ t. take kept_right right ++ t) (sym (only_none (drop j right)) ∙ (λ k. only (drop j right) (sym none k))) ∙ walked.of_second,
      )

  pub right_ends : length right ≤ j → (take kept_left left ++ drop i left ≡ only first second) × (take kept_right right ++ drop j right ≡ only second first)
  right_ends done =
      let none = drop_all j right done in (
        ap (λ t. take kept_left left ++ t) (sym (only_none (drop i left)) ∙ (λ k. only (drop i left) (sym none k))) ∙ walked.of_first,
        ap (λ t. take kept_right right ++ t) (none ∙ (λ k. only (sym none k) (drop i left))) ∙ walked.of_second,
      )

-- an atom below all of a list does not stand in it
not_above : (x : CfgAtom) (ys : List CfgAtom) → AllByRecursion (λ y. atom_cmp x y ≡ Less) ys → stands_in x ys ≡ false
not_above x [] all = refl
not_above x (y ∷ ys) all = ap (λ o. is_eq o || stands_in x ys) all.0 ∙ not_above x ys all.1

below_all : (x y : CfgAtom) (ys : List CfgAtom) → atom_cmp x y ≡ Less → AllByRecursion (λ z. atom_cmp y z ≡ Less) ys → AllByRecursion (λ z. atom_cmp x z ≡ Less) ys
below_all x y [] less all = tt
below_all x y (z ∷ zs) less all = (atom_total.trans x y z less all.0, below_all x y zs less all.1)

below_tied : (x y : CfgAtom) (ys : List CfgAtom) → atom_cmp x y ≡ Equal → AllByRecursion (λ z. atom_cmp y z ≡ Less) ys → AllByRecursion (λ z. atom_cmp x z ≡ Less) ys
below_tied x y [] equal all = tt
below_tied x y (z ∷ zs) equal all = (atom_total.congr x y z equal ∙ all.0, below_tied x y zs equal all.1)

-- the atoms of a list that do not stand in another
without : List CfgAtom → List CfgAtom → List CfgAtom
without xs ys = filter (λ a. not (stands_in a ys)) xs

-- an atom below all of a list takes nothing out of it
unhurt : (y : CfgAtom) (xs ys : List CfgAtom) → AllByRecursion (λ x. atom_cmp y x ≡ Less) xs → without xs (y ∷ ys) ≡ without xs ys
unfolding without
unhurt y [] ys all = refl
unhurt y (x ∷ xs) ys all =
    (λ k. cond (not (is_eq (turned y x Less all.0 k) || stands_in x ys)) (x ∷ without xs (y ∷ ys)) (without xs (y ∷ ys)))
    ∙ ap (λ t. cond (not (stands_in x ys)) (x ∷ t) t) (unhurt y xs ys all.1)

all_kept : (xs : List CfgAtom) → without xs [] ≡ xs
unfolding without
all_kept [] = refl
all_kept (x ∷ xs) = ap (λ t. x ∷ t) (all_kept xs)

without_more : (x : CfgAtom) (xs ys : List CfgAtom) → without (x ∷ xs) ys ≡ cond (not (stands_in x ys)) (x ∷ without xs ys) (without xs ys)
unfolding without
without_more x xs ys = refl

-- the walk from one atom on, where the walk over those behind it keeps what it should
only_from_is : (x : CfgAtom) (xs : List CfgAtom) → AllByRecursion (λ z. atom_cmp x z ≡ Less) xs → ((ys : List CfgAtom) → IsStrictlySortedBy atom_cmp ys → only xs ys ≡ without xs ys) →
    (ys : List CfgAtom) → IsStrictlySortedBy atom_cmp ys → only (x ∷ xs) ys ≡ without (x ∷ xs) ys
unfolding IsStrictlySortedBy
only_from_is x xs all behind [] so = sym (all_kept (x ∷ xs))
only_from_is x xs all behind (y ∷ ys) so =
    elim (atom_cmp x y) as (λ o. atom_cmp x y ≡ o → match_ordering o (x ∷ only xs (y ∷ ys)) (only xs ys) (only (x ∷ xs) ys)
    ≡ cond (not (is_eq o || stands_in x ys)) (x ∷ without xs (y ∷ ys)) (without xs (y ∷ ys))) [
      | Less ↦ λ e. ap (λ t. x ∷ t) (behind (y ∷ ys) so)
          ∙ ap (λ b. cond (not b) (x ∷ without xs (y ∷ ys)) (without xs (y ∷ ys))) (sym (not_above x ys (below_all x y ys e so.0)))
      | Equal ↦ λ e. behind ys so.1 ∙ sym (unhurt y xs ys (below_tied y x xs (turned x y Equal e) all))
      | Greater ↦ λ e. only_from_is x xs all behind ys so.1 ∙ without_more x xs ys
          ∙ ap (λ t. cond (not (stands_in x ys)) (x ∷ t) t) (sym (unhurt y xs ys (below_all y x xs (turned x y Greater e) all)))
    ] refl
    ∙ sym (without_more x xs (y ∷ ys))

-- in order, the walk keeps what does not stand in the other list
only_is : (xs ys : List CfgAtom) → IsStrictlySortedBy atom_cmp xs → IsStrictlySortedBy atom_cmp ys → only xs ys ≡ without xs ys
unfolding IsStrictlySortedBy without
only_is [] ys is so = refl
only_is (x ∷ xs) ys is so = only_from_is x xs is.0 (λ zs. only_is xs zs is.1) ys so

and_no : (a : Bool) → (a && false) ≡ false
and_no true = refl
and_no false = refl

-- what stands in the first list and not in the second is what is left of it
stands_in-without : (a : CfgAtom) (xs ys : List CfgAtom) → stands_in a (without xs ys) ≡ (stands_in a xs && not (stands_in a ys))
unfolding without
stands_in-without a [] ys = refl
stands_in-without a (x ∷ xs) ys =
    elim (eq_by_cmp atom_cmp a x) as (λ b. eq_by_cmp atom_cmp a x ≡ b → stands_in a (cond (not (stands_in x ys)) (x ∷ without xs ys) (without xs ys)) ≡ ((b || stands_in a xs) && not (stands_in a ys))) [
      | true ↦ λ e.
          let same : stands_in a ys ≡ stands_in x ys = ap (λ q. stands_in q ys) (same_atom a x ((Equal-is (atom_cmp a x)).0 e)) in
          elim (stands_in x ys) as (λ b. stands_in a ys ≡ b → stands_in a (cond (not b) (x ∷ without xs ys) (without xs ys)) ≡ not (stands_in a ys)) [
            | true ↦ λ f. stands_in-without a xs ys ∙ ap (λ b. stands_in a xs && not b) f ∙ and_no (stands_in a xs) ∙ ap not (sym f)
            | false ↦ λ f. ap (λ b. b || stands_in a (without xs ys)) e ∙ ap not (sym f)
          ] same
      | false ↦ λ e.
          elim (stands_in x ys) as (λ b. stands_in a (cond (not b) (x ∷ without xs ys) (without xs ys)) ≡ stands_in a (without xs ys)) [
            | true ↦ refl
            | false ↦ ap (λ b. b || stands_in a (without xs ys)) e
          ] ∙ stands_in-without a xs ys
    ] refl

module _ (xs ys : List CfgAtom) (is : IsStrictlySortedBy atom_cmp xs) (so : IsStrictlySortedBy atom_cmp ys) where
  pub stands_in-only : (a : CfgAtom) → stands_in a (only xs ys) ≡ (stands_in a xs && not (stands_in a ys))
  stands_in-only a = ap (stands_in a) (only_is xs ys is so) ∙ stands_in-without a xs ys

  pub sorted_only : IsStrictlySortedBy atom_cmp (only xs ys)
  unfolding without
  sorted_only = subst (IsStrictlySortedBy atom_cmp) (sym (only_is xs ys is so)) (IsStrictlySortedBy-filter atom_cmp (λ a. not (stands_in a ys)) xs is)

not_both : (a b : Bool) → (a && not b) ≡ true → (b && not a) ≡ false
not_both true true e = refl
not_both true false e = refl
not_both false true e = absurd cc
not_both false false e = refl

-- what is left of both lists makes a diff
apart_is_diff : (xs ys : List CfgAtom) → IsStrictlySortedBy atom_cmp xs → IsStrictlySortedBy atom_cmp ys → IsDiff (record { enabled = only xs ys; disabled = only ys xs })
apart_is_diff xs ys is so = record {
  enabled = sorted_only xs ys is so;
  disabled = sorted_only ys xs so is;
  apart = λ a e. stands_in-only ys xs so is a ∙ not_both (stands_in a xs) (stands_in a ys) (sym (stands_in-only xs ys is so a) ∙ e);
}

pub left_is_diff : (xs ys enabled disabled : List CfgAtom) → IsStrictlySortedBy atom_cmp xs → IsStrictlySortedBy atom_cmp ys → enabled ≡ only xs ys → disabled ≡ only ys xs → IsDiff (record { enabled = enabled; disabled = disabled })
left_is_diff xs ys enabled disabled is so on off = subst IsDiff (λ i. record { enabled = sym on i; disabled = sym off i }) (apart_is_diff xs ys is so)
