-- What a write does to an entry.
use Rattle.std.proofs.Common.{◌≡◌, ℕ, zero, suc, List, [], ◌∷◌, Option, Some, IsSome, slice_set, refl, ap}
use mathlib.Core.Bool.{Bool-set}
use Rattle.la_arena.specs.Map.{slot_at}
use Rattle.la_arena.specs.declared.map.entry.OccupiedEntry.{OccupiedEntry}
use Rattle.la_arena.specs.EntryLends.{with_entry_value, IsWritten}
use Rattle.la_arena.specs.Entry.{Occupied}

module _ {V : Type 0} where
  -- of two writes of one slot the second stays
  pub set_twice : (slots : List (Option V)) (number : ℕ) (one other : Option V) → slice_set (slice_set slots number one) number other ≡ slice_set slots number other
  set_twice [] number one other = refl
  set_twice (slot ∷ slots) zero one other = refl
  set_twice (slot ∷ slots) (suc number) one other = ap (λ rest. slot ∷ rest) (set_twice slots number one other)

  -- a slot that held a value has what was written
  pub slot_at-written : (slots : List (Option V)) (number : ℕ) (value : V) → IsSome (slot_at slots number) → slot_at (slice_set slots number (Some value)) number ≡ Some value
  slot_at-written [] number value held = absurd (cc)
  slot_at-written (slot ∷ slots) zero value held = refl
  slot_at-written (slot ∷ slots) (suc number) value held = slot_at-written slots number value held

module _ {I V : Type 0} (e : OccupiedEntry I V) (w : V) where
  pub occupied_written : (held : IsSome (slot_at (slice_set e.map.now e.index (Some w)) e.index)) → record { map = record e.map { now = slice_set e.map.now e.index (Some w) }; index = e.index; held = held } ≡ with_entry_value e w
  occupied_written held = ap (λ h. record (with_entry_value e w) { held = h }) (Bool-set _ _ held (with_entry_value e w).held)

  pub occupied_IsWritten : IsWritten (Occupied e) w (Occupied (with_entry_value e w))
  occupied_IsWritten =
      record {
        same_reference = refl;
        slots = refl;
        value = slot_at-written e.map.now e.index w e.held;
        writes = λ slot. set_twice e.map.now e.index (Some w) slot;
      }
