-- The set of the code keeps pairs as the definitions do.
use Rattle.std.proofs.Common.{◌≡◌, ℕ, suc, ◌+◌, Bool, true, false, not, ◌||◌, cond, List, [], ◌∷◌, ◌++◌, refl, sym, ◌∙◌, ap, ap₂, one-add, rules}
use Rattle.std.proofs.lemmas.List.{map-append}
use Rattle.std.specs.List.{list_any, position_or_len}
use Rattle.indexmap.specs.IndexSet.{insert_key}
use Rattle.template_bytes.specs.declared.pair.Pair.{Pair as PairCode}
use Rattle.template_bytes.specs.contracts.pair.PairPartialEq.TheImpl.{eq-value}
use Rattle.template_bytes.specs.Pairs.{Pair, is_same_pair, is_among, added, place_among}
use Rattle.template_bytes.specs.ShownPairs.{shown_pair, shown_pairs}
use Rattle.template_bytes.proofs.PairLaws.{same_pair_either_way, place_added}

-- the code's equality is the definitions' test
pub eq_is : (a b : PairCode) → eq-value.it a b ≡ is_same_pair (shown_pair a) (shown_pair b)
eq_is a b = search rules

-- the code's equality with a pair, where the definitions ask the other way round
eq_with : (k x : PairCode) → eq-value.it k x ≡ is_same_pair (shown_pair x) (shown_pair k)
eq_with k x = eq_is k x ∙ same_pair_either_way (shown_pair k) (shown_pair x)

-- a key of the set is a pair among its pairs
any_among : (ks : List PairCode) (k : PairCode) → list_any (eq-value.it k) ks ≡ is_among (shown_pairs ks) (shown_pair k)
any_among [] k = refl
any_among (x ∷ ks) k = ap₂ (λ a b. a || b) (eq_with k x) (any_among ks k)

-- a key that is inserted is a pair that is added
shown_inserted : (ks : List PairCode) (k : PairCode) → shown_pairs (insert_key eq-value.it ks k) ≡ added (shown_pairs ks) (shown_pair k)
shown_inserted ks k = by (list_any (eq-value.it k) ks) ∙ ap (λ b. cond b (shown_pairs ks) (shown_pairs ks ++ shown_pair k ∷ [])) (any_among ks k)
  where
    by : (b : Bool) → shown_pairs (cond b ks (ks ++ k ∷ [])) ≡ cond b (shown_pairs ks) (shown_pairs ks ++ shown_pair k ∷ [])
    by true = refl
    by false = map-append shown_pair ks (k ∷ [])

-- the place of a key is the place of its pair
shown_place : (ks : List PairCode) (k : PairCode) → position_or_len (eq-value.it k) ks ≡ place_among (shown_pairs ks) (shown_pair k)
shown_place [] k = refl
shown_place (x ∷ ks) k = by (eq-value.it k x) (shown_place ks k) ∙ ap (λ b. cond b 0 (suc (place_among (shown_pairs ks) (shown_pair k)))) (eq_with k x)
  where
    by : (b : Bool) → position_or_len (eq-value.it k) ks ≡ place_among (shown_pairs ks) (shown_pair k)
        → cond (not b) (1 + position_or_len (eq-value.it k) ks) 0 ≡ cond b 0 (suc (place_among (shown_pairs ks) (shown_pair k)))
    by true e = refl
    by false e = one-add (position_or_len (eq-value.it k) ks) ∙ ap suc e

-- the keys behind an insertion show one pair more
pub inserted : (ks news : List PairCode) (k : PairCode) (pairs : List Pair) → news ≡ insert_key eq-value.it ks k → shown_pairs ks ≡ pairs
    → shown_pairs news ≡ added pairs (shown_pair k)
inserted ks news k pairs are shown = ap shown_pairs are ∙ shown_inserted ks k ∙ ap (λ l. added l (shown_pair k)) shown

-- the index of an insertion is the place of its pair, whatever comes behind
pub inserted_place : (ks news : List PairCode) (k : PairCode) (place : ℕ) (more : List Pair) → news ≡ insert_key eq-value.it ks k → place ≡ position_or_len (eq-value.it k) ks
    → place_among (shown_pairs news ++ more) (shown_pair k) ≡ place
inserted_place ks news k place more are is =
    ap (λ l. place_among (l ++ more) (shown_pair k)) (inserted ks news k (shown_pairs ks) are refl)
    ∙ place_added (shown_pairs ks) more (shown_pair k)
    ∙ sym (shown_place ks k)
    ∙ sym is
