-- What an arena ends as, where a `&mut` to its values is returned.
use Rattle.std.specs.Prelude.{ℕ, List, length, slice_set}
use Rattle.std.specs.List.{refill}
use Rattle.std.specs.Borrow.{Lends, follows, Fml, RattleType, MutBor, GName, Array}
use Rattle.la_arena.specs.contracts.arena.Arena.{the_row}

module _ (T : RattleType) (arena : MutBor (List T.Denot)) where
  -- once the borrow ends, the index has the last value written through it, and the other values are as they were
  abbrev pub lends_value : ℕ → MutBor T.Denot → Fml
  lends_value index r = Lends (the_row T) T arena r (slice_set arena.now index)

  -- once the borrow of this name ends, the values are those that it shows last, as many as before
  abbrev pub lends_values : GName → Fml
  lends_values name = follows (the_row T) (Array T 0) arena.ghost_name name (refill (length arena.now) arena.now)
