-- A finite map from numbers and its slot count, as one list: the value or nothing at each number.
use Rattle.std.specs.Prelude.{◌≡◌, ◌≢◌, ℕ, zero, suc, ◌+◌, ◌-◌, ◌<◌, max, List, [], ◌∷◌, ◌++◌, length, replicate, Option, Some, None, IsSome, slice_index_or, slice_set, refl}

module _ {V : Type 0} where
  -- the value at a number, and nothing past the slots
  abbrev pub slot_at : List (Option V) → ℕ → Option V
  slot_at slots number = slice_index_or slots number None

  -- the map with empty slots behind the others, so that there are this many at least
  abbrev pub grown : List (Option V) → ℕ → List (Option V)
  grown slots count = slots ++ replicate (count - length slots) None

  -- the map once the number has a slot, with this in it
  abbrev pub with_slot : List (Option V) → ℕ → Option V → List (Option V)
  with_slot slots number slot = slice_set (grown slots (number + 1)) number slot

  -- a slot that holds a value does so after a write
  pub held_after_write : (slots : List (Option V)) (number : ℕ) (value : V) → IsSome (slot_at slots number) → IsSome (slot_at (slice_set slots number (Some value)) number)
  held_after_write [] number value held = held
  held_after_write (slot ∷ slots) zero value held = refl
  held_after_write (slot ∷ slots) (suc number) value held = held_after_write slots number value held

  -- the number has this, each other number what it had, and there are slots up to the number
  pub record Updates (old new : List (Option V)) (number : ℕ) (slot : Option V) : Type 0 where
    pub changed : slot_at new number ≡ slot
    pub others : (other : ℕ) → other ≢ number → slot_at new other ≡ slot_at old other
    pub slot_count : length new ≡ max (length old) (number + 1)

  -- the slots end with one that holds a value, or there are none
  abbrev pub EndsHeld : List (Option V) → Type 0
  EndsHeld slots = 0 < length slots → IsSome (slot_at slots (length slots - 1))

  -- both maps are one finite map, and the second has one slot more than its highest number, or none
  pub record IsTrimmed (old new : List (Option V)) : Type 0 where
    pub same : (number : ℕ) → slot_at new number ≡ slot_at old number
    pub ends : EndsHeld new
