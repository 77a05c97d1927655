-- PRED: a predicate as an attribute writes it, with at most 128 pairs of brackets in one another.
use Rattle.std.specs.Prelude.{ℕ, zero, suc, if◌then◌else◌, List, [], ◌∷◌, Option, Some, None, codes}
use Rattle.std.specs.Str.{bytes_eq}
use Rattle.syn_trees.specs.declared.cfg_predicate.CfgPredicate.{CfgPredicate, Atom, Composite, Version}
use Rattle.syn_trees.specs.declared.cfg_predicate.CfgAtomKey.{CfgAtomKey}
use Rattle.syn_trees.specs.declared.cfg_predicate.CfgAtomKey.TheVariants.{True, False, Ident}
use Rattle.script_tokens.specs.Tokens.{Tok}
use Rattle.script_tokens.specs.Readers.{◌>>=◌, if_there, word, text, mark, open_round, close_round, behind}
use Rattle.script_tokens.specs.Many.{many}

-- the key that a word is
abbrev pub key_of : List ℕ → CfgAtomKey
key_of word = if bytes_eq word (codes "true") then True else if bytes_eq word (codes "false") then False else Ident word

-- the flag that a word is
abbrev pub flag_of : List ℕ → CfgPredicate
flag_of word = Atom (Some (key_of word)) None

-- behind a word and `=`: a string
abbrev pub valued_behind : List ℕ → List Tok → Option (CfgPredicate × List Tok)
valued_behind key toks = text toks >>= λ string. Some (Atom (Some (key_of key)) (Some string.0.text), string.1)

-- behind a word: `=` and a string, brackets, or nothing
abbrev pub behind_word : (List Tok → Option (CfgPredicate × List Tok)) → List ℕ → List Tok → Option (CfgPredicate × List Tok)
behind_word brackets key toks = if_there (mark 61 toks) (λ equals. valued_behind key equals.1) (if_there (open_round toks) (λ opens. brackets opens.1) (Some (flag_of key, toks)))

-- a predicate, by a reader of what stands in the brackets behind a word
abbrev pub pred_by : (List ℕ → List Tok → Option (CfgPredicate × List Tok)) → List Tok → Option (CfgPredicate × List Tok)
pred_by brackets toks = word toks >>= λ key. behind_word (brackets key.0) key.0 key.1

-- the tokens behind a mark, where it stands there
abbrev pub past_mark : ℕ → List Tok → List Tok
past_mark c toks = if_there (mark c toks) (λ m. m.1) toks

-- a first predicate with those behind commas, and a comma behind the last
abbrev pub and_more : (List Tok → Option (CfgPredicate × List Tok)) → CfgPredicate × List Tok → List CfgPredicate × List Tok
and_more read first = (first.0 ∷ (many (behind 44 read) first.1).0, past_mark 44 (many (behind 44 read) first.1).1)

-- no predicate, or some
abbrev pub preds : (List Tok → Option (CfgPredicate × List Tok)) → List Tok → List CfgPredicate × List Tok
preds read toks = if_there (read toks) (λ first. and_more read first) ([], toks)

-- predicates in front of `)`, behind their keyword
abbrev pub composite_of : List ℕ → List CfgPredicate × List Tok → Option (CfgPredicate × List Tok)
composite_of keyword parts = close_round parts.1 >>= λ close. Some (Composite (Some keyword) parts.0, close.1)

-- a string in front of `)`, behind `version`
abbrev pub version_in : List Tok → Option (CfgPredicate × List Tok)
version_in toks = do
  string ← text toks
  close ← close_round string.1
  Some (Version (Some string.0.text), close.1)

-- what stands in the brackets behind a word
abbrev pub in_brackets : (List Tok → Option (CfgPredicate × List Tok)) → List ℕ → List Tok → Option (CfgPredicate × List Tok)
in_brackets read keyword toks = if bytes_eq keyword (codes "version") then (if_there (version_in toks) (λ v. Some v) (composite_of keyword (preds read toks))) else composite_of keyword (preds read toks)

-- the same, with so many pairs of brackets in one another at most
unfoldable pub brackets_in : ℕ → List ℕ → List Tok → Option (CfgPredicate × List Tok)
brackets_in zero keyword toks = None
brackets_in (suc depth) keyword toks = in_brackets (pred_by (brackets_in depth)) keyword toks

abbrev pub pred_in : ℕ → List Tok → Option (CfgPredicate × List Tok)
pred_in depth toks = pred_by (brackets_in depth) toks

-- a predicate
abbrev pub pred : List Tok → Option (CfgPredicate × List Tok)
pred toks = pred_in 128 toks
