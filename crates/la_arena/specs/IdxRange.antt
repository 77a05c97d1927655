-- A range of indexes is its two numbers.
use Rattle.std.specs.Prelude.{◌≡◌, ℕ, ◌+◌, ◌-◌, List, Option, option_map, slice_get, MatchOption}
use Rattle.std.specs.List.{range_with_len}
use Rattle.std.specs.Iterator.{YieldsFirstBy, YieldsLastBy}
use Rattle.la_arena.specs.declared.idx.Idx.{Idx}
use Rattle.la_arena.specs.Idx.{index_of}

-- the number of the first index, and the one behind the last
pub record Span : Type 0 where
  pub start : ℕ
  pub end : ℕ

-- the numbers from the start up to the end and without it; none where the start is not below the end
abbrev pub numbers : Span → List ℕ
numbers s = range_with_len s.start (s.end - s.start)

module _ {T : Type 0} where
  -- the first index is taken, and those behind it are left; an empty range gives none and stays as it is
  abbrev pub TakesFirst : Span → Option (Idx T) → Span → Type 0
  TakesFirst s taken t = YieldsFirstBy index_of numbers s taken t × (t.end ≡ s.end) × MatchOption taken (t ≡ s) (λ idx. t.start ≡ s.start + 1)

  -- the same from the back
  abbrev pub TakesLast : Span → Option (Idx T) → Span → Type 0
  TakesLast s taken t = YieldsLastBy index_of numbers s taken t × (t.start ≡ s.start) × MatchOption taken (t ≡ s) (λ idx. t.end + 1 ≡ s.end)

  -- the index n behind the first is taken, and those behind it are left; where there is none, none are left
  abbrev pub TakesNth : Span → ℕ → Option (Idx T) → Span → Type 0
  TakesNth s n taken t = (option_map index_of taken ≡ slice_get (numbers s) n) × (t.end ≡ s.end)
      × MatchOption taken (t.start ≡ s.end) (λ idx. t.start ≡ s.start + n + 1)
