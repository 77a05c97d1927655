-- What holds of the predicates of token trees.
use Rattle.std.specs.Prelude.{◌≡◌, List, [], ◌∷◌, codes}
use Rattle.syn_trees.specs.declared.token_tree.TokenTree.{TokenTree, Ident, Subtree}
use Rattle.ra_cfg.specs.declared.cfg_expr.CfgExpr.{All, Any, Not}
use Rattle.ra_cfg.specs.TokenRules.{next_predicate, behind_predicate, all_predicates}

-- predicates are read in turn, each from where the one before it ends, and so are those inside a group
pub record ReadInTurn : Type 0 where
  pub none : all_predicates [] ≡ []
  pub next : (first : TokenTree) (rest trees : List TokenTree) → trees ≡ first ∷ rest → all_predicates trees ≡ next_predicate trees ∷ all_predicates (behind_predicate trees)
  pub within_all : (inside rest : List TokenTree) → next_predicate (Ident (codes "all") ∷ Subtree inside ∷ rest) ≡ All (all_predicates inside)
  pub within_any : (inside rest : List TokenTree) → next_predicate (Ident (codes "any") ∷ Subtree inside ∷ rest) ≡ Any (all_predicates inside)
  pub within_not : (inside rest : List TokenTree) → next_predicate (Ident (codes "not") ∷ Subtree inside ∷ rest) ≡ Not (next_predicate inside)
