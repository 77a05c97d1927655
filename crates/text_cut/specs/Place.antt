-- A place in a text: the bytes in front of it, and the characters behind it.
use Rattle.std.specs.Prelude.{◌≡◌, ℕ, ◌+◌, Bool, List, [], ◌∷◌, ◌++◌, Option, Some, None}
use Rattle.std.specs.Char.{len_utf8}
use Rattle.text_cut.specs.Runs.{front, behind, size}

-- a place: how many bytes were passed, and the characters still to read
pub record Place : Type 0 where
  pub at : ℕ
  pub left : List ℕ

-- the place behind so many bytes, in front of these characters
abbrev pub place : ℕ → List ℕ → Place
place at left = record { at = at; left = left }

-- a character and the place behind it
abbrev pub first_in : ℕ → List ℕ → Option (ℕ × Place)
first_in at [] = None
first_in at (c ∷ cs) = Some (c, place (at + len_utf8 c) cs)

-- the first character behind a place, and the place behind that character
abbrev pub first : Place → Option (ℕ × Place)
first here = first_in here.at here.left

-- the place behind the longest run of passing characters, which `eat_while` finds
abbrev pub past : (ℕ → Bool) → Place → Place
past p here = place (here.at + size (front p here.left)) (behind p here.left)

-- the text stands between the places p and e
pub record Took (p e : Place) (text : List ℕ) : Type 0 where
  pub there : p.left ≡ text ++ e.left
  pub ends : e.at ≡ p.at + size text

-- the place e is behind p, or the same, in one text
pub record IsBehind (p e : Place) : Type 0 where
  pub text : List ℕ
  pub took : Took p e text
