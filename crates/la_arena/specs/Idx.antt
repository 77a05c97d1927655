-- The number of a value in an arena: how many values were placed before it.
use Rattle.std.specs.Prelude.{ℕ}
use Rattle.la_arena.specs.declared.idx.RawIdx.{RawIdx}
use Rattle.la_arena.specs.declared.idx.Idx.{Idx}

-- the number that a raw index is
abbrev pub number_of : RawIdx → ℕ
number_of raw = raw.0

module _ {T : Type 0} where
  -- the number that an index is
  abbrev pub index_of : Idx T → ℕ
  index_of idx = number_of idx.raw
