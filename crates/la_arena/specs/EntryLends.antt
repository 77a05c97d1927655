-- What a write through an entry makes of the entry and of its map.
use Rattle.std.specs.Prelude.{◌≡◌, List, [], Option, Some, Result, slice_set}
use Rattle.std.specs.Borrow.{Fml, RattleType, MutBor, follows, follows_if, name_if_ok}
use mir.Syntax.{named}
use Rattle.la_arena.specs.Map.{held_after_write}
use Rattle.la_arena.specs.Entry.{map_of, slots_of, value_of, slots_with}
use Rattle.la_arena.specs.declared.map.entry.Entry.{Entry}
use Rattle.la_arena.specs.declared.map.entry.OccupiedEntry.{OccupiedEntry}
use Rattle.la_arena.specs.contracts.map.ArenaMap.{the_row}
use Rattle.la_arena.specs.contracts.map.entry.OccupiedEntry as occupied

module _ {I V : Type 0} where
  -- the entry, once its slot has the value w
  abbrev pub with_entry_value : OccupiedEntry I V → V → OccupiedEntry I V
  with_entry_value e w = record {
    map = record e.map { now = slice_set e.map.now e.index (Some w) };
    index = e.index;
    held = held_after_write e.map.now e.index w e.held;
  }

  -- the second entry is the first, once its slot has the value w
  pub record IsWritten (old : Entry I V) (w : V) (new : Entry I V) : Type 0 where
    pub same_reference : (map_of new).ghost_name ≡ (map_of old).ghost_name
    pub slots : slots_of new ≡ slots_with old (Some w)
    pub value : value_of new ≡ Some w
    pub writes : (slot : Option V) → slots_with new slot ≡ slots_with old slot

module _ (I V : RattleType) where
  -- once the entry's borrow ends, the map is as the entry left it, and without an entry it stays
  abbrev pub lends_entry : {E : Type 0} → MutBor (List (Option V.Denot)) → Result (Entry I.Denot V.Denot) E → Fml
  lends_entry map r = follows_if (the_row I V) (the_row I V) map.ghost_name (name_if_ok (λ e. (map_of e).ghost_name) r) (λ w. w) map.now

  -- once the borrow r ends, the entry's slot has the last value written through r
  abbrev pub lends_slot : Entry I.Denot V.Denot → MutBor V.Denot → Fml
  lends_slot e r = follows (the_row I V) V (map_of e).ghost_name r.ghost_name (λ w. slots_with e (Some w))

  -- the same of an entry behind a reference. Its lifetime is the second of the signature
  abbrev pub lends_occupied : MutBor (OccupiedEntry I.Denot V.Denot) → MutBor V.Denot → Fml
  lends_occupied e r = follows (occupied.the_row (record { mir = named 1; lft = [] }) I V) V e.ghost_name r.ghost_name (with_entry_value e.now)
