-- What stands behind each keyword, and the item that the tokens of a line are: a row of the language's table for each definition.
use Rattle.std.specs.Prelude.{ℕ, nat_le, if◌then◌else◌, List, Option, Some, None}
use Rattle.syn_trees.specs.ReadString.{value_of}
use Rattle.script_tokens.specs.Tokens.{Tok}
use Rattle.script_tokens.specs.Readers.{◌>>=◌, if_there, word, text, mark, arrow, whole}
use Rattle.script_tokens.specs.Numbers.{number}
use Rattle.script_grammar.specs.declared.item.Item.{Item}
use Rattle.script_grammar.specs.declared.item.Item.TheVariants.{Flag, Pair, Version, Limit, NoLang, Macro, Cfg, Attr, Format, Asm}
use Rattle.script_grammar.specs.declared.keyword.Keyword.{Keyword}
use Rattle.script_grammar.specs.declared.keyword.Keyword.TheVariants as key
use Rattle.script_grammar.specs.Limits.{max_limit}
use Rattle.script_grammar.specs.Keywords.{keyword_of, answer_of, lang_of}
use Rattle.script_grammar.specs.Trees.{trees}
use Rattle.script_grammar.specs.Preds.{pred}
use Rattle.script_grammar.specs.Templates.{template, format_call}
use Rattle.script_grammar.specs.Asm.{asm_call}

-- WORD `=` STRING, behind the `=`; a string without a value is none
abbrev pub opt_pair : List ℕ → List Tok → Option (Item × List Tok)
opt_pair name toks = do
  string ← text toks
  value ← value_of string.0.text
  Some (Pair name value, string.1)

-- `opt` WORD, `opt` WORD `=` STRING
abbrev pub opt_item : List Tok → Option (Item × List Tok)
opt_item toks = do
  name ← word toks
  if_there (mark 61 name.1) (λ equals. opt_pair name.0 equals.1) (Some (Flag name.0, name.1))

-- `version` STRING, and `yes` or `no`; a string without a value is none
abbrev pub version_item : List Tok → Option (Item × List Tok)
version_item toks = do
  string ← text toks
  value ← value_of string.0.text
  said ← word string.1
  answer ← answer_of said.0
  Some (Version value answer, said.1)

-- a recursion limit, where the number is not too great for one
abbrev pub limit_of : ℕ → Option ℕ
limit_of value = if nat_le value max_limit then Some value else None

-- `limit` NUM
abbrev pub limit_item : List Tok → Option (Item × List Tok)
limit_item toks = do
  value ← number toks
  limit ← limit_of value.0
  Some (Limit limit, value.1)

-- `nolang` and the word of a language item
abbrev pub nolang_item : List Tok → Option (Item × List Tok)
nolang_item toks = do
  name ← word toks
  lang ← lang_of name.0
  Some (NoLang lang, name.1)

-- `macro` WORD `=>` TEMPLATE
abbrev pub macro_item : List Tok → Option (Item × List Tok)
macro_item toks = do
  name ← word toks
  points ← arrow name.1
  body ← template points.1
  Some (Macro name.0 body.0, body.1)

-- `cfg` TREES
abbrev pub cfg_item : List Tok → Option (Item × List Tok)
cfg_item toks = Some (Cfg (trees toks).0, (trees toks).1)

-- `attr` PRED
abbrev pub attr_item : List Tok → Option (Item × List Tok)
attr_item toks = pred toks >>= λ syntax. Some (Attr syntax.0, syntax.1)

-- `format` TEMPLATE ARG*, as the call with this number
abbrev pub format_item : ℕ → List Tok → Option (Item × List Tok)
format_item number toks = format_call number toks >>= λ call. Some (Format call.0, call.1)

-- `asm`, the word in front of the templates if it is there, templates and pieces, as the call with this number
abbrev pub asm_item : ℕ → List Tok → Option (Item × List Tok)
asm_item number toks = asm_call number toks >>= λ call. Some (Asm call.0, call.1)

-- what stands behind a keyword
abbrev pub item_behind : ℕ → Keyword → List Tok → Option (Item × List Tok)
item_behind number key.Opt toks = opt_item toks
item_behind number key.Version toks = version_item toks
item_behind number key.Limit toks = limit_item toks
item_behind number key.NoLang toks = nolang_item toks
item_behind number key.Macro toks = macro_item toks
item_behind number key.Cfg toks = cfg_item toks
item_behind number key.Attr toks = attr_item toks
item_behind number key.Format toks = format_item number toks
item_behind number key.Asm toks = asm_item number toks

-- an item, and the tokens behind it
abbrev pub item : ℕ → List Tok → Option (Item × List Tok)
item number toks = do
  name ← word toks
  keyword ← keyword_of name.0
  item_behind number keyword name.1

-- the item that the tokens of a line are, all of them; a call would have this number
unfoldable pub item_of : ℕ → List Tok → Option Item
item_of number toks = item number toks >>= λ r. whole r
