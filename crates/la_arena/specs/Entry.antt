-- What the contracts of an `Entry` cite. The words serve its halves too, as `value_of (Occupied e)`.
pub use Rattle.la_arena.specs.declared.map.entry.Entry.TheVariants.{Vacant, Occupied}
use Rattle.std.specs.Prelude.{List, Option, None, IsSome, IsNone, slice_set}
use Rattle.std.specs.Borrow.{MutBor}
use Rattle.la_arena.specs.Map.{slot_at}
use Rattle.la_arena.specs.declared.map.entry.Entry.{Entry}

module _ {I V : Type 0} where
  -- the reference to the map
  abbrev pub map_of : Entry I V → MutBor (List (Option V))
  map_of (Vacant e) = e.map
  map_of (Occupied e) = e.map

  -- the slots of the map, as the entry holds it
  abbrev pub slots_of : Entry I V → List (Option V)
  slots_of e = (map_of e).now

  -- the entry is occupied where the slot holds a value, and vacant where it holds none
  abbrev pub IsEntryOf : Entry I V → Option V → Type 0
  IsEntryOf (Vacant e) slot = IsNone slot
  IsEntryOf (Occupied e) slot = IsSome slot

  -- the value in the slot
  abbrev pub value_of : Entry I V → Option V
  value_of (Vacant e) = None
  value_of (Occupied e) = slot_at e.map.now e.index

  -- the slots of the map, once the entry's slot has this
  abbrev pub slots_with : Entry I V → Option V → List (Option V)
  slots_with (Vacant e) slot = slice_set e.map.now e.index slot
  slots_with (Occupied e) slot = slice_set e.map.now e.index slot
