-- What a map ends as, where a `&mut` to one of its values is returned.
use Rattle.std.specs.Prelude.{ℕ, List, Option, Some, slice_set}
use Rattle.std.specs.Borrow.{Lends, LendsIf, Fml, RattleType, MutBor}
use Rattle.la_arena.specs.contracts.map.ArenaMap.{the_row}

module _ (I V : RattleType) (map : MutBor (List (Option V.Denot))) (number : ℕ) where
  -- once the borrow r ends, the number holds the last value written through r, and the rest is as it was
  abbrev pub lends_value : MutBor V.Denot → Fml
  lends_value r = Lends (the_row I V) V map r (λ w. slice_set map.now number (Some w))

  -- the same where r is a reference, and at `None` the map stays as it is
  abbrev pub lends_get : Option (MutBor V.Denot) → Fml
  lends_get r = LendsIf (the_row I V) V map r (λ w. slice_set map.now number (Some w)) map.now
