-- TREES: token trees from tokens, with groups in groups to a depth of 128.
use Rattle.std.specs.Prelude.{ℕ, zero, suc, Bool, true, false, if◌then◌else◌, List, Option, Some, None}
use Rattle.syn_trees.specs.declared.token_tree.TokenTree.{TokenTree, Ident, Literal, Punct, Subtree}
use Rattle.script_tokens.specs.declared.token.Bracket.{Bracket}
use Rattle.script_tokens.specs.declared.token.Bracket.TheVariants.{Round, Square, Curly}
use Rattle.script_tokens.specs.Tokens.{Kind, Word, Numeral, Text, Mark, Open, Close, Tok}
use Rattle.script_tokens.specs.Ahead.{uncons}
use Rattle.script_tokens.specs.Readers.{◌>>=◌}
use Rattle.script_tokens.specs.Many.{many}

-- whether two brackets are of one kind
abbrev pub is_same : Bracket → Bracket → Bool
is_same Round Round = true
is_same Square Square = true
is_same Curly Curly = true
is_same bracket other = false

-- whether a token closes such a group
abbrev pub closes : Bracket → Kind → Bool
closes bracket (Close other) = is_same bracket other
closes bracket other = false

-- trees in front of what closes their group
abbrev pub group_of : Bracket → List TokenTree × List Tok → Option (TokenTree × List Tok)
group_of bracket inside = uncons inside.1 >>= λ r. if closes bracket r.0.kind then Some (Subtree inside.0, r.1) else None

-- the tree that a token is, or begins; of a string, what stands between its quotes
abbrev pub tree_of : (Bracket → List Tok → Option (TokenTree × List Tok)) → Kind → List Tok → Option (TokenTree × List Tok)
tree_of group (Word text) toks = Some (Ident text, toks)
tree_of group (Numeral text) toks = Some (Literal (record { text = text }), toks)
tree_of group (Text token) toks = Some (Literal (record { text = token.inside }), toks)
tree_of group (Mark c spacing) toks = Some (Punct c spacing, toks)
tree_of group (Open bracket) toks = group bracket toks
tree_of group (Close bracket) toks = None

-- a tree, by a reader of groups
abbrev pub tree_by : (Bracket → List Tok → Option (TokenTree × List Tok)) → List Tok → Option (TokenTree × List Tok)
tree_by group toks = uncons toks >>= λ r. tree_of group r.0.kind r.1

-- a group behind the bracket that opens it, with so many groups in one another at most
unfoldable pub group_in : ℕ → Bracket → List Tok → Option (TokenTree × List Tok)
group_in zero bracket toks = None
group_in (suc depth) bracket toks = group_of bracket (many (tree_by (group_in depth)) toks)

-- as many trees as stand there
unfoldable pub trees_in : ℕ → List Tok → List TokenTree × List Tok
trees_in depth toks = many (tree_by (group_in depth)) toks

abbrev pub trees : List Tok → List TokenTree × List Tok
trees toks = trees_in 128 toks
