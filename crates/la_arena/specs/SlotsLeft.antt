-- What the iterators of a map have left.
use Rattle.std.specs.Prelude.{ℕ, ◌+◌, ◌^◌, ◌≤◌, List, [], ◌∷◌, length, reverse, Option, Some, None, filter_map}

-- the number of the first slot that is left, and the slots that are left
abbrev pub SlotsLeft : Type 0 → Type 0
SlotsLeft V = ℕ × List (Option V)

module _ {V : Type 0} where
  -- the values in these slots, each with its number, where the first slot has this number
  abbrev pub pairs_from : ℕ → List (Option V) → List (ℕ × V)
  pairs_from first [] = []
  pairs_from first (None ∷ rest) = pairs_from (first + 1) rest
  pairs_from first (Some value ∷ rest) = (first, value) ∷ pairs_from (first + 1) rest

  -- the pairs that are left, by rising number
  abbrev pub pairs_left : SlotsLeft V → List (ℕ × V)
  pairs_left left = pairs_from left.0 left.1

  -- the values in these slots, by rising number
  abbrev pub values : List (Option V) → List V
  values slots = filter_map (λ slot. slot) slots

  -- the slots behind the first that holds a value
  abbrev pub behind_first : List (Option V) → List (Option V)
  behind_first [] = []
  behind_first (None ∷ rest) = behind_first rest
  behind_first (Some value ∷ rest) = rest

  -- the slots before the last that holds a value
  abbrev pub before_last : List (Option V) → List (Option V)
  before_last slots = reverse (behind_first (reverse slots))

  -- the numbers of the slots that are left are those of indexes
  abbrev pub HasIndexes : SlotsLeft V → Type 0
  HasIndexes left = left.0 + length left.1 ≤ 2 ^ 32
