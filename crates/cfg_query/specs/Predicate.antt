-- The text of a predicate, as it stands behind `cfg` in a script.
use Rattle.std.specs.Prelude.{◌≡◌, ℕ, List, [], ◌∷◌, ◌++◌, Option, Some, None}
use Rattle.std.specs.Str.{IsUtf8, chars}
use Rattle.syn_trees.specs.declared.token_tree.TokenTree.{TokenTree}
use Rattle.script_tokens.specs.Tokens.{Tok}
use Rattle.script_tokens.specs.Lines.{IsLine}
use Rattle.script_grammar.specs.Trees.{trees}
use Rattle.ra_cfg.specs.declared.cfg_expr.CfgExpr.{CfgExpr}
use Rattle.ra_cfg.specs.TokenRules.{next_predicate}

-- the text is a line, and all its tokens are these token trees
pub record AreTrees (line : List ℕ) (parts : List TokenTree) : Type 0 where
  pub toks : List Tok
  pub is_line : IsLine line toks
  pub all : ◌≡◌ {A = List TokenTree × List Tok} (trees toks) (parts, [])

-- the trees of a line, or none where it has not such
abbrev pub TellsTrees : List ℕ → Option (List TokenTree) → Type 0
TellsTrees line None = (parts : List TokenTree) → AreTrees line parts → ⊥
TellsTrees line (Some parts) = AreTrees line parts

-- the bytes are token trees, with a line feed behind them a line, and the trees say this predicate
pub record IsPredicate (bytes : List ℕ) (expr : CfgExpr) : Type 0 where
  pub utf8 : IsUtf8 bytes
  pub parts : List TokenTree
  pub are : AreTrees (chars bytes ++ 10 ∷ []) parts
  pub is : expr ≡ next_predicate parts
