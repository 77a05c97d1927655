-- How many trees there are, with those inside.
use Rattle.std.specs.Prelude.{ℕ, suc, ◌+◌, List, [], ◌∷◌, map}
use Rattle.syn_trees.specs.declared.token_tree.TokenTree.{TokenTree, TokenTree-F}
use Rattle.syn_trees.specs.declared.token_tree.TokenTree.TheFolds.{fold-TokenTree}

-- the sum of numbers
abbrev pub total : List ℕ → ℕ
total [] = 0
total (n ∷ ns) = n + total ns

-- how many trees a tree is, of how many those inside are
abbrev pub weight_step : TokenTree-F ℕ → ℕ
weight_step (TokenTree-F.Ident word) = 1
weight_step (TokenTree-F.Literal kept) = 1
weight_step (TokenTree-F.Punct c spacing) = 1
weight_step (TokenTree-F.Subtree weights) = suc (total weights)

-- how many trees a tree is, with those inside
unfoldable pub weight : TokenTree → ℕ
weight = fold-TokenTree ℕ weight_step

-- how many trees these are, with those inside
abbrev pub weights : List TokenTree → ℕ
weights trees = total (map weight trees)
