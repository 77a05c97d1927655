-- Words that are handed over in one text.
use Rattle.std.specs.Prelude.{ℕ, ◌==◌, List, [], ◌∷◌}
use Rattle.std.specs.List.{slice_split}

-- no words of an empty text, or else those between its spaces
abbrev pub words_of : List ℕ → List (List ℕ)
words_of [] = []
words_of (b ∷ bytes) = slice_split (λ c. c == 32) (b ∷ bytes)
