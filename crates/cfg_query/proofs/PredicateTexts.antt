-- The text of a predicate, with a line feed behind it.
use Rattle.std.proofs.Common.{◌≡◌, ℕ, List, [], ◌∷◌, ◌++◌, None, refl, ap, ◌∙◌, sym, subst}
use Rattle.std.proofs.lemmas.Str.{chars-append}
use Rattle.std.specs.Str.{IsUtf8, chars}
use Rattle.syn_trees.specs.declared.token_tree.TokenTree.{TokenTree}
use Rattle.ra_cfg.specs.declared.cfg_expr.CfgExpr.{CfgExpr}
use Rattle.ra_cfg.specs.TokenRules.{next_predicate}
use Rattle.cfg_query.specs.Predicate.{AreTrees, TellsTrees, IsPredicate}

-- the characters of a line feed
feed : chars (10 ∷ []) ≡ 10 ∷ []
unfolding chars
feed = refl

module _ (bytes line : List ℕ) (utf8 : IsUtf8 bytes) (is : line ≡ bytes ++ 10 ∷ []) where
  -- the characters of the line
  of_line : chars line ≡ chars bytes ++ 10 ∷ []
  of_line = ap chars is ∙ (chars-append bytes (10 ∷ []) utf8 ∙ ap (λ l. chars bytes ++ l) feed)

  -- where the line is no token trees, it is none
  pub no_predicate : TellsTrees (chars line) None → (expr : CfgExpr) → IsPredicate bytes expr → ⊥
  no_predicate none expr said = none said.parts (subst (λ l. AreTrees l said.parts) (sym of_line) said.are)

  -- else it is what the trees say
  pub a_predicate : (parts : List TokenTree) (expr : CfgExpr) → AreTrees (chars line) parts → expr ≡ next_predicate parts → IsPredicate bytes expr
  a_predicate parts expr are says = record { utf8 = utf8; parts = parts; are = subst (λ l. AreTrees l parts) of_line are; is = says }
