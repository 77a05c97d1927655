-- What a search finds among entries in rising order, and what an entry put at that place makes of them.
use Rattle.std.proofs.Common.{◌≡◌, ◌≢◌, ℕ, zero, suc, ◌+◌, ◌-◌, ◌<◌, ◌≤◌, ◌⊎◌, inl, inr, Bool, true, false, cond, if◌then◌else◌, nat_eq, nat_lt, List, [], ◌∷◌, ◌++◌, length, get_or, set, slice_get, is_some, Option, Some, None, Bor, refl, sym, ap, subst, ◌∙◌, arith, eq-eqb, ne_eqb, eqb-true}
use mathlib.Core.Bool.{false≢true}
use Rattle.std.specs.List.{All, AllPairs, AllWithin, insert}
use Rattle.std.specs.List.Sorted.{IsNonDecreasingBy, IsPartitionPoint}
use Rattle.std.specs.Option.{option_copied}
use Rattle.std.proofs.lemmas.Bool.{cases_eq}
use Rattle.std.proofs.lemmas.Option.{get_or_from_slice_get}
use Rattle.std.proofs.lemmas.Bool.Decides.{nat_tests}
use Rattle.std.proofs.lemmas.List.Elements.{All-cons, All-head, All-tail, All-weaker}
use Rattle.std.proofs.lemmas.List.Kept.{AllPairs-cons}
use Rattle.std.proofs.lemmas.List.Edits.{insert_end}
use Rattle.hir_store.specs.declared.ids.ExprId.{ExprId}
use Rattle.hir_store.specs.Unfolding.{place_of}
use Rattle.hir_store.specs.Entries.{has_number, place_in, IsRising, IsPlaceFor, in_entry, entry_at, with_entry}

module _ {A : Type 0} where
  -- one entry is for an earlier expression than another
  abbrev pub earlier : ExprId × A → ExprId × A → Type 0
  earlier entry later = place_in entry < place_in later

  -- of entries in rising order, the first is for a smaller place than the others, and those rise too
  first_smaller : (entry : ExprId × A) (entries : List (ExprId × A)) → IsRising (entry ∷ entries) → All (λ later. place_in entry < place_in later) entries
  first_smaller entry entries rising k d lt = rising 0 (suc k) d (omega arith) (omega (arith, lt))

  rest_rising : (entry : ExprId × A) (entries : List (ExprId × A)) → IsRising (entry ∷ entries) → IsRising entries
  rest_rising entry entries rising i j d lt within = rising (suc i) (suc j) d (omega (arith, lt)) (omega (arith, within))

  -- places in rising order do not fall
  pub no_place_falls : (entries : List (ExprId × A)) → IsRising entries → IsNonDecreasingBy place_in entries
  no_place_falls entries rising i j d le within = decide (cases_eq i j) where
    decide : (i ≡ j) ⊎ (i ≢ j) → place_in (get_or entries i d) ≤ place_in (get_or entries j d)
    decide (inl same) = omega (arith, ap (λ k. place_in (get_or entries k d)) same)
    decide (inr differs) = omega (arith, rising i j d (omega (arith, le, differs)) within)

  -- where a search by halving comes to is the place for a number
  pub place_from_point : (entries : List (ExprId × A)) (number place : ℕ) → place ≤ length entries →
      IsPartitionPoint (λ entry. nat_lt (place_in entry) number ≡ true) (λ entry. nat_lt (place_in entry) number ≡ false) entries place → IsPlaceFor entries number place
  place_from_point entries number place within point = record {
    within = within;
    smaller = λ k d low lt. let is = point.0 k d low lt in grind (arith, nat_tests, is);
    others = λ k d low lt. let is = point.1 k d low lt in grind (arith, nat_tests, is);
  }

  -- of entries in rising order, all are for smaller numbers where the last is
  pub all_smaller : (entries : List (ExprId × A)) (last : ExprId × A) (number : ℕ) → IsRising entries → slice_get entries (length entries - 1) ≡ Some last → place_in last < number →
      All (λ entry. place_in entry < number) entries
  all_smaller entries last number rising is lt k d within =
      let ends : get_or entries (length entries - 1) d ≡ last = get_or_from_slice_get entries (length entries - 1) last d is in
      omega (arith, lt, ap place_in ends, no_place_falls entries rising k (length entries - 1) d (omega (arith, within)) (omega (arith, within)))

  -- entries for greater numbers alone have nothing at this one
  none_smaller : (entries : List (ExprId × A)) (number : ℕ) → All (λ entry. number < place_in entry) entries → entry_at entries number ≡ None
  none_smaller [] number greater = refl
  none_smaller (e ∷ entries) number greater =
      let other : nat_eq number (place_in e) ≡ false = ne_eqb number (place_in e) (λ same. omega (arith, same, greater 0 e (omega arith))) in
      ap (λ b. cond b (Some e.1) (entry_at entries number)) other ∙ none_smaller entries number (All-tail (λ entry. number < place_in entry) e entries greater)

  rest_place : (entry : ExprId × A) (entries : List (ExprId × A)) (number place : ℕ) → IsPlaceFor (entry ∷ entries) number (suc place) → IsPlaceFor entries number place
  rest_place entry entries number place stands = record {
    within = omega (arith, stands.within);
    smaller = λ k d low lt. stands.smaller (suc k) d (omega arith) (omega (arith, lt));
    others = λ k d low lt. stands.others (suc k) d (omega (arith, low)) (omega (arith, lt));
  }

  -- where an entry has something, it is one of the entries
  pub within_entries : (entries : List (ExprId × A)) (number place : ℕ) → is_some (in_entry number (slice_get entries place)) ≡ true → place < length entries
  within_entries [] number place has = absurd (false≢true has)
  within_entries (e ∷ entries) number zero has = omega arith
  within_entries (e ∷ entries) number (suc place) has = omega (arith, within_entries entries number place has)

  -- a value that is lent is there
  pub lent_is_some : (lent : Option (Bor A)) (there : Option A) → option_copied lent ≡ there → is_some there ≡ is_some lent
  lent_is_some None there is = ap is_some (sym is)
  lent_is_some (Some value) there is = ap is_some (sym is)

  -- what entries in rising order have at a number is in the entry at its place
  pub entry_at_place : (entries : List (ExprId × A)) (number place : ℕ) → IsRising entries → IsPlaceFor entries number place → entry_at entries number ≡ in_entry number (slice_get entries place)
  entry_at_place [] number place rising stands = refl
  entry_at_place (e ∷ entries) number (suc place) rising stands =
      let other : nat_eq number (place_in e) ≡ false = ne_eqb number (place_in e) (λ same. omega (arith, same, stands.smaller 0 e (omega arith) (omega arith))) in
      ap (λ b. cond b (Some e.1) (entry_at entries number)) other ∙ entry_at_place entries number place (rest_rising e entries rising) (rest_place e entries number place stands)
  entry_at_place (e ∷ entries) number zero rising stands = decide (nat_eq number (place_in e)) refl where
    decide : (here : Bool) → nat_eq number (place_in e) ≡ here → cond here (Some e.1) (entry_at entries number) ≡ cond here (Some e.1) None
    decide true is = refl
    decide false is =
        let smaller : number ≤ place_in e = stands.others 0 e (omega arith) (omega arith) in
        let below : number < place_in e = grind (arith, nat_tests, is, smaller) in
        none_smaller entries number (λ k d lt. omega (arith, below, first_smaller e entries rising k d lt))

  module _ (id : ExprId) (value : A) where
    with_earlier : (entry : ExprId × A) (entries : List (ExprId × A)) → place_in entry < place_of id → with_entry (entry ∷ entries) id value ≡ entry ∷ with_entry entries id value
    with_earlier entry entries lt = grind (arith, nat_tests, lt)

    with_same : (entry : ExprId × A) (entries : List (ExprId × A)) → place_of id ≡ place_in entry → with_entry (entry ∷ entries) id value ≡ (id, value) ∷ entries
    with_same entry entries same = grind (arith, nat_tests, same)

    with_later : (entry : ExprId × A) (entries : List (ExprId × A)) → place_of id < place_in entry → with_entry (entry ∷ entries) id value ≡ (id, value) ∷ entry ∷ entries
    with_later entry entries lt = grind (arith, nat_tests, lt)

    -- an entry for the expression is written over
    pub with_entry_written : (entries : List (ExprId × A)) (place : ℕ) → IsPlaceFor entries (place_of id) place → is_some (in_entry (place_of id) (slice_get entries place)) ≡ true →
        with_entry entries id value ≡ set entries place (id, value)
    with_entry_written [] place stands has = absurd (false≢true has)
    with_entry_written (e ∷ entries) zero stands has = with_same e entries (decide (nat_eq (place_of id) (place_in e)) refl has) where
      decide : (same : Bool) → nat_eq (place_of id) (place_in e) ≡ same → is_some (cond same (Some e.1) None) ≡ true → place_of id ≡ place_in e
      decide true is has = eqb-true (place_of id) (place_in e) is
      decide false is has = absurd (false≢true has)
    with_entry_written (e ∷ entries) (suc place) stands has =
        with_earlier e entries (stands.smaller 0 e (omega arith) (omega arith)) ∙ ap (λ es. e ∷ es) (with_entry_written entries place (rest_place e entries (place_of id) place stands) has)

    -- where there is none, one is put in front of those for later expressions
    pub with_entry_put : (entries : List (ExprId × A)) (place : ℕ) → IsPlaceFor entries (place_of id) place → is_some (in_entry (place_of id) (slice_get entries place)) ≡ false →
        with_entry entries id value ≡ insert entries place (id, value)
    with_entry_put [] zero stands free = refl
    with_entry_put [] (suc place) stands free = absurd (omega (arith, stands.within))
    with_entry_put (e ∷ entries) zero stands free = with_later e entries (decide (nat_eq (place_of id) (place_in e)) refl free (stands.others 0 e (omega arith) (omega arith))) where
      decide : (same : Bool) → nat_eq (place_of id) (place_in e) ≡ same → is_some (cond same (Some e.1) None) ≡ false → place_of id ≤ place_in e → place_of id < place_in e
      decide true is free le = absurd (false≢true (sym free))
      decide false is free le = grind (arith, nat_tests, is, le)
    with_entry_put (e ∷ entries) (suc place) stands free =
        with_earlier e entries (stands.smaller 0 e (omega arith) (omega arith)) ∙ ap (λ es. e ∷ es) (with_entry_put entries place (rest_place e entries (place_of id) place stands) free)

    past : (entries : List (ExprId × A)) (place : ℕ) → length entries ≤ place → is_some (in_entry (place_of id) (slice_get entries place)) ≡ false
    past [] place le = refl
    past (e ∷ entries) zero le = absurd (omega (arith, le))
    past (e ∷ entries) (suc place) le = past entries place (omega (arith, le))

    -- behind all others an entry goes last
    pub with_entry_last : (entries : List (ExprId × A)) → All (λ entry. place_in entry < place_of id) entries → with_entry entries id value ≡ entries ++ (id, value) ∷ []
    with_entry_last entries behind = with_entry_put entries (length entries) stands (past entries (length entries) (omega arith)) ∙ insert_end entries (id, value) where
      stands : IsPlaceFor entries (place_of id) (length entries)
      stands = record {
        within = omega arith;
        smaller = λ k d low lt. behind k d lt;
        others = λ k d low lt. absurd (omega (arith, low, lt));
      }

    -- what holds of the entry and of all others holds of all
    all_with : (P : ExprId × A → Type 0) (entries : List (ExprId × A)) → P (id, value) → All P entries → All P (with_entry entries id value)
    all_with P [] new others = All-cons P (id, value) [] new others
    all_with P (e ∷ entries) new others = decide (nat_lt (place_of id) (place_in e)) (nat_eq (place_of id) (place_in e)) (all_with P entries new (All-tail P e entries others)) where
      decide : (lt same : Bool) → All P (with_entry entries id value) → All P (if lt then (id, value) ∷ e ∷ entries else if same then (id, value) ∷ entries else e ∷ with_entry entries id value)
      decide true same rest = All-cons P (id, value) (e ∷ entries) new others
      decide false true rest = All-cons P (id, value) entries new (All-tail P e entries others)
      decide false false rest = All-cons P e (with_entry entries id value) (All-head P e entries others) rest

    -- the order stays
    pub rising_with : (entries : List (ExprId × A)) → IsRising entries → IsRising (with_entry entries id value)
    rising_with [] rising = AllPairs-cons earlier (id, value) [] (λ k d lt. absurd (omega (arith, lt))) rising
    rising_with (e ∷ entries) rising = decide (nat_lt (place_of id) (place_in e)) (nat_eq (place_of id) (place_in e)) refl refl (rising_with entries (rest_rising e entries rising)) where
      decide : (lt same : Bool) → nat_lt (place_of id) (place_in e) ≡ lt → nat_eq (place_of id) (place_in e) ≡ same → IsRising (with_entry entries id value) →
          IsRising (if lt then (id, value) ∷ e ∷ entries else if same then (id, value) ∷ entries else e ∷ with_entry entries id value)
      decide true same is are rest =
          let below : place_of id < place_in e = grind (arith, nat_tests, is) in
          AllPairs-cons earlier (id, value) (e ∷ entries) (All-cons (λ later. place_of id < place_in later) e entries below (All-weaker (λ later. place_in e < place_in later) (λ later. place_of id < place_in later) (λ later lt. omega (arith, below, lt)) entries (first_smaller e entries rising))) rising
      decide false true is are rest =
          let here : place_of id ≡ place_in e = eqb-true (place_of id) (place_in e) are in
          AllPairs-cons earlier (id, value) entries (All-weaker (λ later. place_in e < place_in later) (λ later. place_of id < place_in later) (λ later lt. omega (arith, here, lt)) entries (first_smaller e entries rising)) (rest_rising e entries rising)
      decide false false is are rest =
          let above : place_in e < place_of id = grind (arith, nat_tests, is, are) in
          AllPairs-cons earlier e (with_entry entries id value) (all_with (λ later. place_in e < place_in later) entries above (first_smaller e entries rising)) rest
