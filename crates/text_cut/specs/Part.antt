-- A part of a text, by the bytes where it begins and where it ends.
use Rattle.std.specs.Prelude.{ℕ, ◌≤◌, List, length}
use Rattle.std.specs.Str.{IsCharBoundary}

-- the bytes from `start` up to and without `end` are a part of the text: neither end stands within a character
pub record IsPart (text : List ℕ) (start end : ℕ) : Type 0 where
  pub ordered : start ≤ end
  pub within : end ≤ length text
  pub begins : IsCharBoundary text start
  pub ends : IsCharBoundary text end
