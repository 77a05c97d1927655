-- How a predicate is written as conjunctions.
use Rattle.std.specs.Prelude.{ℕ, List, [], ◌∷◌, map, codes}
use Rattle.ra_cfg.specs.declared.cfg_expr.CfgExpr.{CfgExpr}
use Rattle.std.specs.List.{flat_map}
use Rattle.ra_cfg.specs.Text.{atom_text, quoted, joined, call_text, after_comma}
use Rattle.cfg_dnf.specs.declared.literal.Leaf.{Leaf}
use Rattle.cfg_dnf.specs.declared.literal.Leaf.TheVariants.{Atom, Invalid, Version}
use Rattle.cfg_dnf.specs.declared.literal.Literal.{Literal}
use Rattle.cfg_dnf.specs.declared.literal.Literal.TheVariants.{Plain, Negated}
use Rattle.cfg_dnf.specs.Conjunctions.{conjunctions}
use Rattle.cfg_dnf.specs.Form.{Form, chosen}

-- a leaf: what is no predicate is `<invalid>`
abbrev pub leaf_text : Leaf → List ℕ
leaf_text (Atom atom) = atom_text atom
leaf_text Invalid = codes "<invalid>"
leaf_text (Version text) = call_text (codes "version(") (quoted text)

-- a literal, with `not` where it is negated
abbrev pub literal_text : Literal → List ℕ
literal_text (Plain leaf) = leaf_text leaf
literal_text (Negated leaf) = call_text (codes "not(") (leaf_text leaf)

-- a single text alone; none or several in brackets behind a word, with `, ` between
abbrev pub group_text : List ℕ → List (List ℕ) → List ℕ
group_text word [] = call_text word []
group_text word (text ∷ []) = text
group_text word (text ∷ next ∷ texts) = call_text word (joined (text ∷ next ∷ texts))

-- a conjunction
abbrev pub conjunction_text : List Literal → List ℕ
conjunction_text literals = group_text (codes "all(") (map literal_text literals)

-- a predicate as its conjunctions
abbrev pub dnf_text : CfgExpr → List ℕ
dnf_text expr = group_text (codes "any(") (map conjunction_text (conjunctions expr))

-- the conjunctions of these choices, each behind `, `
abbrev pub texts_ahead : Form Literal → List (List ℕ) → List ℕ
texts_ahead f choices = flat_map after_comma (map (λ p. conjunction_text (chosen f p)) choices)
