-- What the iterators that lend a map's values by `&mut` show.
use Rattle.std.specs.Prelude.{List, Option, length}
use Rattle.std.specs.List.{refill}
use Rattle.std.specs.Borrow.{Fml, GName, RattleType, MutBor, Array, follows}
use Rattle.std.specs.Slice.Iter.{iter_mut_rest, iter_mut_name}
use Rattle.std.specs.contracts.option.Option.{the_row as option_row}
use Rattle.la_arena.specs.SlotsLeft.{SlotsLeft}
use Rattle.la_arena.specs.declared.map.iter_mut.MapIterMut.{MapIterMut}
use Rattle.la_arena.specs.declared.map.iter_mut.MapValuesMut.{MapValuesMut}
use Rattle.la_arena.specs.contracts.map.ArenaMap.{the_row}

module _ {I V : Type 0} where
  -- the slots that a `MapIterMut` has left, and the number of the first
  abbrev pub pairs_mut_left : MapIterMut I V → SlotsLeft V
  pairs_mut_left it = (it.first, iter_mut_rest it.slots)

  -- the name of its loan
  abbrev pub pairs_mut_name : MapIterMut I V → GName
  pairs_mut_name it = iter_mut_name it.slots

module _ {V : Type 0} where
  -- the slots that a `MapValuesMut` has left
  abbrev pub values_mut_left : MapValuesMut V → List (Option V)
  values_mut_left it = iter_mut_rest it.slots

  -- the name of its loan
  abbrev pub values_mut_name : MapValuesMut V → GName
  values_mut_name it = iter_mut_name it.slots

  -- the map with the last slots of a loan: there are as many as before
  abbrev pub with_slots : List (Option V) → List (Option V) → List (Option V)
  with_slots slots written = refill (length slots) slots written

-- once the loan with this name ends, the map has its last slots
abbrev pub lends_slots : (I V : RattleType) → MutBor (List (Option V.Denot)) → GName → Fml
lends_slots I V map name = follows (the_row I V) (Array (option_row V) 0) map.ghost_name name (with_slots map.now)
