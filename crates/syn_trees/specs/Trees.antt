-- Token trees are looked at one after the other.
use Rattle.std.specs.Prelude.{◌≡◌, List, [], ◌∷◌, Option, Some, None}
use Rattle.std.specs.Borrow.{Bor}
use Rattle.syn_trees.specs.declared.token_tree.TokenTree.{TokenTree}

-- the first of the trees is shown; nothing is shown where there is none
abbrev pub ShowsFirst : List TokenTree → Option (Bor TokenTree) → Type 0
ShowsFirst trees None = trees ≡ []
ShowsFirst trees (Some tree) = (rest : List TokenTree) × (trees ≡ tree.now ∷ rest)
