-- How each kind of tree is seen, and how many trees it is.
use Rattle.std.proofs.Common.{◌≡◌, ℕ, suc, List, map, sym, ap, ◌∙◌}
use Rattle.syn_trees.specs.declared.token_tree.Spacing.{Spacing}
use Rattle.syn_trees.specs.declared.token_tree.TtLiteral.{TtLiteral}
use Rattle.syn_trees.specs.declared.token_tree.TokenTree.{TokenTree, TokenTree-F, Ident, Literal, Punct, Subtree}
use Rattle.syn_trees.specs.declared.token_tree.TokenTree.TheVariants.{rolls-Ident, rolls-Literal, rolls-Punct, rolls-Subtree}
use Rattle.syn_trees.specs.declared.token_tree.TokenTree.TheFolds.{fold-roll-TokenTree}
use Rattle.ra_cfg.specs.TokenRules.{TreeItem, Word, Text, Mark, Group, inside_of, item_step, item}
use Rattle.ra_cfg.specs.Weights.{weight_step, weight, weights}

pub item-Ident : (word : List ℕ) → item (Ident word) ≡ Word word
unfolding item
item-Ident word = ap item (sym (rolls-Ident word)) ∙ fold-roll-TokenTree TreeItem item_step (TokenTree-F.Ident word)

pub item-Literal : (kept : TtLiteral) → item (Literal kept) ≡ Text kept.text
unfolding item
item-Literal kept = ap item (sym (rolls-Literal kept)) ∙ fold-roll-TokenTree TreeItem item_step (TokenTree-F.Literal kept)

pub item-Punct : (c : ℕ) (spacing : Spacing) → item (Punct c spacing) ≡ Mark c spacing
unfolding item
item-Punct c spacing = ap item (sym (rolls-Punct c spacing)) ∙ fold-roll-TokenTree TreeItem item_step (TokenTree-F.Punct c spacing)

pub item-Subtree : (trees : List TokenTree) → item (Subtree trees) ≡ Group (inside_of (map item trees))
unfolding item
item-Subtree trees = ap item (sym (rolls-Subtree trees)) ∙ fold-roll-TokenTree TreeItem item_step (TokenTree-F.Subtree trees)

pub weight-Ident : (word : List ℕ) → weight (Ident word) ≡ 1
unfolding weight
weight-Ident word = ap weight (sym (rolls-Ident word)) ∙ fold-roll-TokenTree ℕ weight_step (TokenTree-F.Ident word)

pub weight-Subtree : (trees : List TokenTree) → weight (Subtree trees) ≡ suc (weights trees)
unfolding weight
weight-Subtree trees = ap weight (sym (rolls-Subtree trees)) ∙ fold-roll-TokenTree ℕ weight_step (TokenTree-F.Subtree trees)

pub ruleset items = (item-Ident, item-Literal, item-Punct, item-Subtree, weight-Ident, weight-Subtree)
