-- The words that lines begin with, and other words with a meaning of their own.
use Rattle.std.specs.Prelude.{ℕ, Bool, true, false, if◌then◌else◌, List, Option, Some, None, codes}
use Rattle.std.specs.Str.{bytes_eq}
use Rattle.script_grammar.specs.declared.keyword.Keyword.{Keyword}
use Rattle.script_grammar.specs.declared.keyword.Keyword.TheVariants.{Opt, Version, Limit, NoLang, Macro, Cfg, Attr, Format, Asm}
use Rattle.hir_store.specs.declared.lang_item.LangItem.{LangItem}
use Rattle.hir_store.specs.declared.lang_item.LangItem.TheVariants.{FormatArguments, FormatArgument}

-- the keyword that a word is
abbrev pub keyword_of : List ℕ → Option Keyword
keyword_of word =
    if bytes_eq word (codes "opt") then Some Opt else
    if bytes_eq word (codes "version") then Some Version else
    if bytes_eq word (codes "limit") then Some Limit else
    if bytes_eq word (codes "nolang") then Some NoLang else
    if bytes_eq word (codes "macro") then Some Macro else
    if bytes_eq word (codes "cfg") then Some Cfg else
    if bytes_eq word (codes "attr") then Some Attr else
    if bytes_eq word (codes "format") then Some Format else
    if bytes_eq word (codes "asm") then Some Asm else
    None

-- the answer that a word says
abbrev pub answer_of : List ℕ → Option Bool
answer_of word =
    if bytes_eq word (codes "yes") then Some true else
    if bytes_eq word (codes "no") then Some false else
    None

-- the language item that a word names
abbrev pub lang_of : List ℕ → Option LangItem
lang_of word =
    if bytes_eq word (codes "arguments") then Some FormatArguments else
    if bytes_eq word (codes "argument") then Some FormatArgument else
    None
