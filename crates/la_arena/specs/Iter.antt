-- What the iterators that lend an arena's values by `&mut` show.
use Rattle.std.specs.Prelude.{ℕ, ◌+◌, ◌<◌, ◌^◌, List, length}
use Rattle.std.specs.List.{enumerate_from}
use Rattle.std.specs.Borrow.{GName}
use Rattle.std.specs.Slice.Iter as slice
use Rattle.la_arena.specs.declared.iter.IterMut.{IterMut}
use Rattle.la_arena.specs.declared.iter.ValuesMut.{ValuesMut}

module _ {T : Type 0} where
  -- the numbers and values that an `IterMut` has left
  abbrev pub iter_mut_rest : IterMut T → List (ℕ × T)
  iter_mut_rest iter = enumerate_from iter.first (slice.iter_mut_rest iter.values)

  -- the name of its loan
  abbrev pub iter_mut_name : IterMut T → GName
  iter_mut_name iter = slice.iter_mut_name iter.values

  -- `next` and `next_back` may be called: each value that is left has an index
  abbrev pub IterMutCanStep : IterMut T → Type 0
  IterMutCanStep iter = iter.first + length (slice.iter_mut_rest iter.values) < 2 ^ 32

  -- the values that a `ValuesMut` has left
  abbrev pub values_mut_rest : ValuesMut T → List T
  values_mut_rest values = slice.iter_mut_rest values.values

  -- the name of its loan
  abbrev pub values_mut_name : ValuesMut T → GName
  values_mut_name values = slice.iter_mut_name values.values
