-- What the lines of a script say together: its options, macros, recursion limit, language items and calls.
use Rattle.std.specs.Prelude.{ℕ, true, false, List, [], ◌∷◌, ◌++◌, Option, Some}
use Rattle.std.specs.List.{fold}
use Rattle.ra_cfg.specs.declared.cfg_expr.CfgAtom.TheVariants as atom
use Rattle.ra_cfg.specs.declared.cfg_expr.CfgExpr.{CfgExpr}
use Rattle.ra_cfg.specs.Options.{OptionSet, with_free, with_answer, only_true}
use Rattle.ra_cfg.specs.TokenRules.{next_predicate}
use Rattle.ra_cfg.specs.Syntax.{meaning}
use Rattle.hir_store.specs.declared.lang_item.LangItem.{LangItem}
use Rattle.hir_store.specs.declared.lang_item.LangItem.TheVariants.{FormatArguments, FormatArgument}
use Rattle.hir_store.specs.declared.lang_item.LangItems.{LangItems}
use Rattle.gated_calls.specs.declared.call.GatedCall.{GatedCall}
use Rattle.gated_calls.specs.declared.call.Call.TheVariants as called
use Rattle.hir_expander.specs.Table.{Definition, defined}
use Rattle.script_grammar.specs.Limits.{usual_limit}
use Rattle.script_grammar.specs.declared.item.Item.{Item}
use Rattle.script_grammar.specs.declared.item.Item.TheVariants.{Flag, Pair, Version, Limit, NoLang, Macro, Cfg, Attr, Format, Asm}

-- what a script says
pub record Contents : Type 0 where
  pub options : OptionSet
  pub macros : List Definition
  pub limit : ℕ
  pub items : LangItems
  pub calls : List GatedCall

-- the options with what a line puts in: what has a reserved name or key changes nothing
abbrev pub options_with : OptionSet → Option Item → OptionSet
options_with options (Some (Flag name)) = with_free options (atom.Flag name)
options_with options (Some (Pair key value)) = with_free options (atom.KeyValue key value)
options_with options (Some (Version version answer)) = with_answer options version answer
options_with options other = options

-- the macros with that of a line: the last definition of a name counts
abbrev pub macros_with : List Definition → Option Item → List Definition
macros_with macros (Some (Macro name body)) = defined name body macros
macros_with macros other = macros

-- the recursion limit behind a line: the last one counts
abbrev pub limit_with : ℕ → Option Item → ℕ
limit_with limit (Some (Limit last)) = last
limit_with limit other = limit

-- the language items without one of them
abbrev pub without : LangItems → LangItem → LangItems
without items FormatArguments = record items { format_arguments = false }
without items FormatArgument = record items { format_argument = false }

-- the language items without that which a line takes away
abbrev pub items_with : LangItems → Option Item → LangItems
items_with items (Some (NoLang item)) = without items item
items_with items other = items

-- both language items
abbrev pub all_items : LangItems
all_items = record { format_arguments = true; format_argument = true }

-- the predicates that wait for a call behind a line
abbrev pub waiting_with : List CfgExpr → Option Item → List CfgExpr
waiting_with waiting (Some (Cfg trees)) = waiting ++ next_predicate trees ∷ []
waiting_with waiting (Some (Attr syntax)) = waiting ++ meaning syntax ∷ []
waiting_with waiting (Some (Format call)) = []
waiting_with waiting (Some (Asm call)) = []
waiting_with waiting other = waiting

-- the call of a line, with the predicates that wait for it
abbrev pub calls_at : List CfgExpr → Option Item → List GatedCall
calls_at waiting (Some (Format call)) = record { cfgs = waiting; call = called.Format call } ∷ []
calls_at waiting (Some (Asm call)) = record { cfgs = waiting; call = called.Asm call } ∷ []
calls_at waiting other = []

-- the calls of lines, in order, behind predicates that wait: each call has the predicates since the call before
abbrev pub calls_behind : List CfgExpr → List (Option Item) → List GatedCall
calls_behind waiting [] = []
calls_behind waiting (line ∷ lines) = calls_at waiting line ++ calls_behind (waiting_with waiting line) lines

-- what lines say; options, macros, limit and language items are those of all lines, wherever they stand
abbrev pub contents_of : List (Option Item) → Contents
contents_of lines = record {
  options = fold options_with only_true lines;
  macros = fold macros_with [] lines;
  limit = fold limit_with usual_limit lines;
  items = fold items_with all_items lines;
  calls = calls_behind [] lines;
}
