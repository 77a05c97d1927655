-- Predicates of token trees are read in turn.
use Rattle.std.proofs.Common.{◌≡◌, List, ◌∷◌, codes, refl, ap, map}
use Rattle.syn_trees.specs.declared.token_tree.TokenTree.{TokenTree, Ident, Subtree}
use Rattle.ra_cfg.specs.declared.cfg_expr.CfgExpr.{All, Any, Not}
use Rattle.ra_cfg.specs.TokenRules.{item, next_predicate, all_predicates}
use Rattle.ra_cfg.specs.TokenLaws.{ReadInTurn}
use Rattle.ra_cfg.proofs.Items.{items}
use Rattle.ra_cfg.proofs.Fronts.{predicates-next, first_predicate}

within-all : (inside rest : List TokenTree) → next_predicate (Ident (codes "all") ∷ Subtree inside ∷ rest) ≡ All (all_predicates inside)
within-all inside rest = simp items

within-any : (inside rest : List TokenTree) → next_predicate (Ident (codes "any") ∷ Subtree inside ∷ rest) ≡ Any (all_predicates inside)
within-any inside rest = simp items

within-not : (inside rest : List TokenTree) → next_predicate (Ident (codes "not") ∷ Subtree inside ∷ rest) ≡ Not (next_predicate inside)
within-not inside rest = simp items (ap Not (first_predicate (map item inside)))

pub in_turn : ReadInTurn
in_turn = record {
  none = refl;
  next = predicates-next;
  within_all = within-all;
  within_any = within-any;
  within_not = within-not;
}
