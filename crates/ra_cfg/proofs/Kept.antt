-- What is kept in order is the list of the set's items, and of the map's entries.
use Rattle.std.proofs.Common.{◌≡◌, ℕ, Bool, true, false, cond, T, ◌&&◌, ◌||◌, List, [], ◌∷◌, Some, None, refl, sym, ap, subst, ◌∙◌}
use Rattle.std.specs.List.{AllByRecursion, IsDistinct, list_any}
use Rattle.std.proofs.lemmas.Map.Keys.{IsDistinct-from_sorted}
use Rattle.std.specs.List.Sorted.{IsStrictlySortedBy}
use Rattle.std.specs.Map.{keys_of}
use Rattle.std.specs.Ordering.{is_lt, eq_by_cmp, nat_cmp}
use Rattle.std.specs.declared.cmp.Ordering.{Ordering}
use Rattle.std.specs.declared.cmp.Ordering.TheVariants.{Less}
use Rattle.std.specs.Cmp.{IsTotalOrder}
use Rattle.std.specs.Cmp.Lexicographic.{slice_cmp, nat_list_cmp_total}
use Rattle.std.specs.FinSet as set
use Rattle.std.specs.FinMap as finite
use Rattle.std.specs.FinMap.Entries.{below_all, same_entries}
use Rattle.ra_cfg.specs.declared.cfg_expr.CfgAtom.{CfgAtom}
use Rattle.ra_cfg.specs.Options.{OptionSet, atom_cmp, Lists}
use Rattle.ra_cfg.specs.AtomOrder.{atom_total, same_atom, same_text}

both : (a b : Bool) → T a → T b → T (a && b)
both true b p q = q
both false b p q = absurd p

below_first : {K X : Type 0} (R : K → K → Ordering) (x : K) (es : List (K × X)) → AllByRecursion (λ y. R x y ≡ Less) (keys_of es) → T (below_all R x es)
below_first R x [] all = tt
below_first R x (e ∷ es) all = both _ _ (subst (λ r. T (is_lt r)) (sym all.0) tt) (below_first R x es all.1)

pub sorted_entries : {K X : Type 0} (R : K → K → Ordering) (es : List (K × X)) → IsStrictlySortedBy R (keys_of es) → T (finite.is_sorted R es)
unfolding IsStrictlySortedBy
sorted_entries R [] is = tt
sorted_entries R (e ∷ es) is = both _ _ (below_first R e.0 es is.0) (sorted_entries R es is.1)

-- entries in order are those of their map
pub entries_kept : {K X : Type 0} {R : K → K → Ordering} → IsTotalOrder R → finite.IsAntisymmetric R → (es : List (K × X)) → IsStrictlySortedBy R (keys_of es) → finite.entries (finite.from_entries {R = R} es) ≡ es
entries_kept {R = R} total same es is =
    let sorted = sorted_entries R es is in
    ap finite.entries (finite.same_map total same (finite.from_entries es) (finite.from_sorted es) (λ q. finite.get-from_entries total es q ∙ sym (finite.get-from_sorted R es q sorted)))
    ∙ finite.entries-from_sorted R es sorted

-- keys, as entries with nothing at them
marked : {K : Type 0} → List K → List (K × Unit {0})
marked [] = []
marked (k ∷ ks) = (k, tt) ∷ marked ks

find-marked : {K : Type 0} (R : K → K → Ordering) (q : K) (ks : List K) → finite.find R q (marked ks) ≡ cond (list_any (eq_by_cmp R q) ks) (Some tt) None
unfolding marked
find-marked R q [] = refl
find-marked R q (k ∷ ks) = elim (eq_by_cmp R q k) as (λ b. cond b (Some tt) (finite.find R q (marked ks)) ≡ cond (b || list_any (eq_by_cmp R q) ks) (Some tt) None) [ true ↦ refl | false ↦ find-marked R q ks ]

keys-marked : {K : Type 0} (ks : List K) → keys_of (marked ks) ≡ ks
unfolding marked
keys-marked [] = refl
keys-marked (k ∷ ks) = ap (λ rest. k ∷ rest) (keys-marked ks)

sorted_marked : {K : Type 0} (R : K → K → Ordering) (ks : List K) → IsStrictlySortedBy R ks → T (finite.is_sorted R (marked ks))
sorted_marked R ks is = sorted_entries R (marked ks) (subst (IsStrictlySortedBy R) (sym (keys-marked ks)) is)

-- two lists in order with the same members are equal
pub same_sorted : {K : Type 0} {R : K → K → Ordering} → IsTotalOrder R → finite.IsAntisymmetric R → (ks ls : List K) → IsStrictlySortedBy R ks → IsStrictlySortedBy R ls →
    ((q : K) → list_any (eq_by_cmp R q) ks ≡ list_any (eq_by_cmp R q) ls) → ks ≡ ls
same_sorted {R = R} total same ks ls is so alike =
    sym (keys-marked ks)
    ∙ ap keys_of (same_entries R total same (marked ks) (marked ls) (sorted_marked R ks is) (sorted_marked R ls so)
    (λ q. find-marked R q ks ∙ ap (λ b. cond b (Some tt) None) (alike q) ∙ sym (find-marked R q ls)))
    ∙ keys-marked ls

-- atoms in order whose sets are equal are equal
pub same_kept : (ks ls : List CfgAtom) → IsStrictlySortedBy atom_cmp ks → IsStrictlySortedBy atom_cmp ls → set.from_list {R = atom_cmp} ks ≡ set.from_list ls → ks ≡ ls
same_kept ks ls is so e =
    same_sorted atom_total same_atom ks ls is so (λ q. sym (set.contains-from_list atom_total ks q) ∙ ap (λ s. set.contains s q) e ∙ set.contains-from_list atom_total ls q)

pub answers_kept : (answers : List (List ℕ × Bool)) → IsStrictlySortedBy (slice_cmp nat_cmp) (keys_of answers) → finite.entries (finite.from_entries {R = slice_cmp nat_cmp} answers) ≡ answers
answers_kept = entries_kept nat_list_cmp_total same_text

-- atoms in order are each once in their set
pub lists_kept : (keys items : List CfgAtom) (o : OptionSet) → IsStrictlySortedBy atom_cmp keys → items ≡ keys → set.from_list keys ≡ o.atoms → Lists o.atoms items
lists_kept keys items o is same seen = record {
  each = ap (λ atoms. set.from_list {R = atom_cmp} atoms) same ∙ seen;
  once = subst (IsDistinct (eq_by_cmp atom_cmp)) (sym same) (IsDistinct-from_sorted atom_cmp keys is);
}
