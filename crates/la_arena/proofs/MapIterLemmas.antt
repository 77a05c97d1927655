-- What the slots that are left give, from the front and from the back.
use Rattle.std.proofs.Common.{◌≡◌, ℕ, suc, ◌+◌, ◌<◌, ◌≤◌, List, [], ◌∷◌, ◌++◌, length, reverse, Option, Some, None, sym, ap, ◌∙◌, arith, add-zero}
use Rattle.std.proofs.lemmas.List.{reverse-append, reverse-reverse, append-nil, length_push}
use Rattle.std.proofs.lemmas.List.Elements.{filter_map-append}
use Rattle.la_arena.specs.SlotsLeft.{SlotsLeft, pairs_from, pairs_left, values, behind_first, before_last, HasIndexes}
use Rattle.la_arena.specs.MapIter.{LeavesBeforeLast}

module _ {V : Type 0} where
  -- there are no more pairs than slots
  pub length-pairs_from : (first : ℕ) (slots : List (Option V)) → length (pairs_from first slots) ≤ length slots
  length-pairs_from first [] = omega arith
  length-pairs_from first (None ∷ rest) = omega (arith, length-pairs_from (first + 1) rest)
  length-pairs_from first (Some value ∷ rest) = omega (arith, length-pairs_from (first + 1) rest)

  pub length-pairs_left : (left : SlotsLeft V) → length (pairs_left left) ≤ length left.1
  length-pairs_left left = length-pairs_from left.0 left.1

  -- there are no more values than slots
  pub length-values : (slots : List (Option V)) → length (values slots) ≤ length slots
  length-values [] = omega arith
  length-values (None ∷ rest) = omega (arith, length-values rest)
  length-values (Some value ∷ rest) = omega (arith, length-values rest)

  pairs_from-append : (first : ℕ) (front back : List (Option V)) → pairs_from first (front ++ back) ≡ pairs_from first front ++ pairs_from (first + length front) back
  pairs_from-append first [] back = rw add-zero
  pairs_from-append first (None ∷ rest) back =
      let shift : first + 1 + length rest ≡ first + suc (length rest) = omega arith in
      rw (pairs_from-append (first + 1) rest back, shift)
  pairs_from-append first (Some value ∷ rest) back =
      let shift : first + 1 + length rest ≡ first + suc (length rest) = omega arith in
      rw (pairs_from-append (first + 1) rest back, shift)

  before_last-push : (slots : List (Option V)) (slot : Option V) → before_last (slots ++ slot ∷ []) ≡ reverse (behind_first (slot ∷ reverse slots))
  before_last-push slots slot = ap (λ s. reverse (behind_first s)) (reverse-append slots (slot ∷ []))

  pub before_last-push_empty : (slots : List (Option V)) → before_last (slots ++ None ∷ []) ≡ before_last slots
  before_last-push_empty slots = before_last-push slots None

  pub before_last-push_held : (slots : List (Option V)) (value : V) → before_last (slots ++ Some value ∷ []) ≡ slots
  before_last-push_held slots value = before_last-push slots (Some value) ∙ reverse-reverse slots

  -- what `next_back` keeps while it passes over empty slots
  pub record SkipsBack (start now : SlotsLeft V) : Type 0 where
    pub pairs : pairs_left now ≡ pairs_left start
    pub slots : before_last now.1 ≡ before_last start.1
    pub first : now.0 ≡ start.0
    pub fits : HasIndexes now

  -- one more empty slot is passed over
  pub SkipsBack-empty : (start : SlotsLeft V) (first : ℕ) (slots rest : List (Option V)) → slots ≡ rest ++ None ∷ [] → SkipsBack start (first, slots) → SkipsBack start (first, rest)
  SkipsBack-empty start first slots rest split kept =
      let shorter = ap length split ∙ length_push rest None in
      record {
        pairs = sym (ap (pairs_from first) split ∙ pairs_from-append first rest (None ∷ []) ∙ append-nil _) ∙ kept.pairs;
        slots = sym (ap before_last split ∙ before_last-push_empty rest) ∙ kept.slots;
        first = kept.first;
        fits = omega (arith, kept.fits);
      }

  -- what holds once `next_back` found a value in front of which these slots are left
  pub record FoundLast (start : SlotsLeft V) (first : ℕ) (rest : List (Option V)) (value : V) : Type 0 where
    pub pairs : pairs_left start ≡ pairs_from first rest ++ (first + length rest, value) ∷ []
    pub leaves : LeavesBeforeLast start (first, rest)
    pub number : first + length rest < 4_294_967_296
    pub fits : HasIndexes (first, rest)
    pub fewer : length (pairs_from first rest) < length (pairs_left start)

  pub SkipsBack-held : (start : SlotsLeft V) (first : ℕ) (slots rest : List (Option V)) (value : V) → slots ≡ rest ++ Some value ∷ [] → SkipsBack start (first, slots) → FoundLast start first rest value
  SkipsBack-held start first slots rest value split kept =
      let shorter = ap length split ∙ length_push rest (Some value) in
      let pairs : pairs_left start ≡ pairs_from first rest ++ (first + length rest, value) ∷ [] =
      sym kept.pairs ∙ ap (pairs_from first) split ∙ pairs_from-append first rest (Some value ∷ []) in
      let longer = ap length pairs ∙ length_push (pairs_from first rest) (first + length rest, value) in
      record {
        pairs = pairs;
        leaves = record { slots = sym (sym kept.slots ∙ ap before_last split ∙ before_last-push_held rest value); first = kept.first };
        number = omega (arith, kept.fits);
        fits = omega (arith, kept.fits);
        fewer = omega arith;
      }

  -- the same of values alone
  pub record SkipsValuesBack (start now : List (Option V)) : Type 0 where
    pub same : values now ≡ values start
    pub slots : before_last now ≡ before_last start

  pub SkipsValuesBack-empty : (start slots rest : List (Option V)) → slots ≡ rest ++ None ∷ [] → SkipsValuesBack start slots → SkipsValuesBack start rest
  SkipsValuesBack-empty start slots rest split kept =
      record {
        same = sym (ap values split ∙ filter_map-append (λ slot. slot) rest (None ∷ []) ∙ append-nil _) ∙ kept.same;
        slots = sym (ap before_last split ∙ before_last-push_empty rest) ∙ kept.slots;
      }

  pub record FoundLastValue (start rest : List (Option V)) (value : V) : Type 0 where
    pub all : values start ≡ values rest ++ value ∷ []
    pub leaves : rest ≡ before_last start
    pub fewer : length (values rest) < length (values start)

  pub SkipsValuesBack-held : (start slots rest : List (Option V)) (value : V) → slots ≡ rest ++ Some value ∷ [] → SkipsValuesBack start slots → FoundLastValue start rest value
  SkipsValuesBack-held start slots rest value split kept =
      let all : values start ≡ values rest ++ value ∷ [] =
      sym kept.same ∙ ap values split ∙ filter_map-append (λ slot. slot) rest (Some value ∷ []) in
      let longer = ap length all ∙ length_push (values rest) value in
      record {
        all = all;
        leaves = sym (sym kept.slots ∙ ap before_last split ∙ before_last-push_held rest value);
        fewer = omega arith;
      }

pub ruleset hints = (length-pairs_left, length-values)
