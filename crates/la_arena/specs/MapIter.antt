-- What each call of `next` and `next_back` gives, and what it leaves.
use Rattle.std.specs.Prelude.{◌≡◌, ℕ, ◌+◌, List, length, Option}
use Rattle.std.specs.Iterator.{YieldsFirstBy, YieldsLastBy}
use Rattle.la_arena.specs.SlotsLeft.{SlotsLeft, pairs_left, values, behind_first, before_last}

module _ {V : Type 0} where
  -- the slots up to the first that holds a value are gone, and the last number is as it was
  pub record LeavesBehindFirst (old new : SlotsLeft V) : Type 0 where
    pub slots : new.1 ≡ behind_first old.1
    pub last : new.0 + length new.1 ≡ old.0 + length old.1

  -- the slots from the last that holds a value are gone, and the first number is as it was
  pub record LeavesBeforeLast (old new : SlotsLeft V) : Type 0 where
    pub slots : new.1 ≡ before_last old.1
    pub first : new.0 ≡ old.0

  module _ {A : Type 0} (pair : A → ℕ × V) where
    -- `next` gave the first pair
    abbrev pub GivesFirst : SlotsLeft V → Option A → SlotsLeft V → Type 0
    GivesFirst old item new = YieldsFirstBy pair pairs_left old item new × LeavesBehindFirst old new

    -- `next_back` gave the last pair
    abbrev pub GivesLast : SlotsLeft V → Option A → SlotsLeft V → Type 0
    GivesLast old item new = YieldsLastBy pair pairs_left old item new × LeavesBeforeLast old new

  module _ {A : Type 0} (value : A → V) where
    -- `next` gave the first value
    abbrev pub GivesFirstValue : List (Option V) → Option A → List (Option V) → Type 0
    GivesFirstValue old item new = YieldsFirstBy value values old item new × (new ≡ behind_first old)

    -- `next_back` gave the last value
    abbrev pub GivesLastValue : List (Option V) → Option A → List (Option V) → Type 0
    GivesLastValue old item new = YieldsLastBy value values old item new × (new ≡ before_last old)
