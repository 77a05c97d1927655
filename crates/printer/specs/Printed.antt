-- The printed form of outcomes: a line for each call, in order, with its number and what became of it; behind its code, a line for each usage of a name in its literal.
use Rattle.std.specs.Prelude.{ℕ, ◌+◌, ◌/◌, ◌%◌, ◌==◌, ◌&&◌, if◌then◌else◌, Bool, true, false, List, [], ◌∷◌, ◌++◌, length, codes, Option, Some, None}
use Rattle.std.specs.Fmt.{decimal, digit_glyph}
use Rattle.std.specs.List.{flat_map}
use Rattle.sym_core.specs.declared.name.Name.{Name}
use Rattle.sym_core.specs.declared.text_range.TextRange.{TextRange}
use Rattle.sym_core.specs.Name.{name_text}
use Rattle.hir_store.specs.declared.lang_item.LangItem.{LangItem}
use Rattle.hir_store.specs.declared.lang_item.LangItem.TheVariants.{FormatArguments, FormatArgument}
use Rattle.hir_store.specs.declared.lang_item.LangFn.{LangFn}
use Rattle.hir_store.specs.declared.lang_item.LangFn.TheVariants.{New, FromStr, NewDisplay, NewDebug, NewLowerExp, NewUpperExp, NewOctal, NewPointer, NewBinary, NewLowerHex, NewUpperHex, FromUsize}
use Rattle.hir_store.specs.declared.ids.ExprId.{ExprId}
use Rattle.hir_store.specs.declared.store.ExpressionStore.{ExpressionStore}
use Rattle.hir_store.specs.Tree.{Tree, Trees, Steps, Bad, Missing, Leaf, Path, LangPath, Text, Bytes, Ref, Tuple, Field, Array, Call, Block, Empty, More, End, Tail, Let, Nameless, Do, InlineAsm, Operands, NoOperand, Operand}
use Rattle.hir_store.specs.Unfolding.{place_of, tree_at}
use Rattle.hir_store.specs.Entries.{entry_at}
use Rattle.printer.specs.Assembly.{assembly_text, operand_text}
use Rattle.printer.specs.Mapping.{map_lines}
use Rattle.ra_cfg.specs.declared.cfg_expr.CfgExpr.{CfgExpr}
use Rattle.ra_cfg.specs.Options.{OptionSet}
use Rattle.ra_cfg.specs.Diff.{Diff}
use Rattle.ra_cfg.specs.Text.{diff_text}
use Rattle.cfg_dnf.specs.Hints.{Reason, hints}
use Rattle.cfg_dnf.specs.ReasonText.{reason_text}
use Rattle.hir_lower.specs.declared.outcome.Outcome.{Outcome}
use Rattle.hir_lower.specs.declared.outcome.Outcome.TheVariants.{Off, Code}

-- what a language item is printed as
abbrev pub item_word : LangItem → List ℕ
item_word FormatArguments = codes "Arguments"
item_word FormatArgument = codes "Argument"

-- what a function of a language item is printed as
abbrev pub function_word : LangFn → List ℕ
function_word New = codes "new"
function_word FromStr = codes "from_str"
function_word NewDisplay = codes "new_display"
function_word NewDebug = codes "new_debug"
function_word NewLowerExp = codes "new_lower_exp"
function_word NewUpperExp = codes "new_upper_exp"
function_word NewOctal = codes "new_octal"
function_word NewPointer = codes "new_pointer"
function_word NewBinary = codes "new_binary"
function_word NewLowerHex = codes "new_lower_hex"
function_word NewUpperHex = codes "new_upper_hex"
function_word FromUsize = codes "from_usize"

-- a byte as two upper case hexadecimal digits
abbrev pub hex_pair : ℕ → List ℕ
hex_pair byte = digit_glyph true (byte / 16) ∷ digit_glyph true (byte % 16) ∷ []

-- bytes, each as two upper case hexadecimal digits
abbrev pub hex_of : List ℕ → List ℕ
hex_of bytes = flat_map hex_pair bytes

-- what stands in front of the statements of a block
abbrev pub block_word : Bool → List ℕ
block_word true = codes "unsafe { "
block_word false = codes "{ "

-- the comma behind the element of a tuple of one
abbrev pub single_comma : Trees → List ℕ
single_comma (More t Empty) = codes ","
single_comma _ = []

-- a `let` that binds a name to an expression, and a space
abbrev pub let_text : List ℕ → List ℕ → List ℕ
let_text name text = codes "let " ++ name ++ codes " = " ++ text ++ codes "; "

-- the name that a pattern binds, where it binds one
abbrev pub bound_text : Option Name → List ℕ
bound_text (Some name) = name_text name
bound_text None = []

-- the text of an expression. A tree that is not whole, as no id of a store without dangling ids has, is printed too: as an absent
-- expression, and with an empty name
abbrev mutual
  pub text_of : Tree → List ℕ
  text_of Bad = codes "missing"
  text_of Missing = codes "missing"
  text_of (Leaf number) = codes "@" ++ decimal number
  text_of (Path name) = name_text name
  text_of (LangPath item function) = item_word item ++ codes "::" ++ function_word function
  text_of (Text bytes) = codes "s\"" ++ hex_of bytes ++ codes "\""
  text_of (Bytes bytes) = codes "b\"" ++ hex_of bytes ++ codes "\""
  text_of (Ref t) = codes "&" ++ text_of t
  text_of (Tuple ts) = codes "(" ++ texts_of ts ++ single_comma ts ++ codes ")"
  text_of (Field t name) = text_of t ++ codes "." ++ name_text name
  text_of (Array ts) = codes "[" ++ texts_of ts ++ codes "]"
  text_of (Call callee ts) = text_of callee ++ codes "(" ++ texts_of ts ++ codes ")"
  text_of (Block is_unsafe steps) = block_word is_unsafe ++ steps_text steps ++ codes "}"
  text_of (InlineAsm kind options operands) = assembly_text kind (operand_texts operands) options.0

  -- expressions with `, ` between
  pub texts_of : Trees → List ℕ
  texts_of Empty = []
  texts_of (More t ts) = text_of t ++ later_texts ts

  -- expressions, each behind `, `
  pub later_texts : Trees → List ℕ
  later_texts Empty = []
  later_texts (More t ts) = codes ", " ++ text_of t ++ later_texts ts

  -- statements and a tail, each with a space behind it
  pub steps_text : Steps → List ℕ
  steps_text End = []
  steps_text (Tail t) = text_of t ++ codes " "
  steps_text (Let name t steps) = let_text (name_text name) (text_of t) ++ steps_text steps
  steps_text (Nameless t steps) = let_text [] (text_of t) ++ steps_text steps
  steps_text (Do t steps) = text_of t ++ codes "; " ++ steps_text steps

  -- expressions, each by its text
  pub each_text : Trees → List (List ℕ)
  each_text Empty = []
  each_text (More t ts) = text_of t ∷ each_text ts

  -- operands, each by its text
  pub operand_texts : Operands → List (List ℕ)
  operand_texts NoOperand = []
  operand_texts (Operand name shape ts operands) = operand_text name shape (each_text ts) ∷ operand_texts operands

-- the line of a usage in the literal of the call with this number: the name and its span; LF
abbrev pub use_line : ℕ → TextRange × Name → List ℕ
use_line number (range, name) = decimal number ++ codes " use " ++ name_text name ++ codes " " ++ decimal range.start ++ codes ".." ++ decimal range.end ++ codes "\n"

-- a line for each usage in a row
abbrev pub use_lines_of : ℕ → List (TextRange × Name) → List ℕ
use_lines_of number usages = flat_map (use_line number) usages

-- a line for each usage, where there are any
abbrev pub use_lines : ℕ → Option (List (TextRange × Name)) → List ℕ
use_lines number (Some usages) = use_lines_of number usages
use_lines number None = []

-- the line of the code of the call with this number, a line for each usage that the store has at the code, and one for each place of a mapping there
abbrev pub code_lines : ExpressionStore → ℕ → ExprId → List ℕ
code_lines store number id = decimal number ++ codes " code " ++ text_of (tree_at store id) ++ codes "\n" ++ use_lines number (entry_at store.format_args_to_captures (place_of id)) ++ map_lines number (entry_at store.asm_to_captures (place_of id))

-- a space and the text of a reason; nothing where it has no atom
abbrev pub reason_words : Reason → List ℕ
reason_words why = if (length why.enabled == 0) && (length why.disabled == 0) then [] else codes " " ++ reason_text why.enabled why.disabled

-- the line of why the call with this number is off, where that can be told
abbrev pub reason_line : ℕ → Option Reason → List ℕ
reason_line number None = []
reason_line number (Some why) = decimal number ++ codes " reason" ++ reason_words why ++ codes "\n"

-- the line of what switches the call with this number on
abbrev pub hint_line : ℕ → Diff → List ℕ
hint_line number diff = decimal number ++ codes " hint " ++ diff_text diff.enabled diff.disabled ++ codes "\n"

-- a line for each hint of a call with this predicate
abbrev pub hint_lines : OptionSet → ℕ → CfgExpr → List ℕ
hint_lines options number expr = flat_map (hint_line number) (hints options expr)

-- the lines of the call with this number, which is off: that it is, why, and what switches it on
abbrev pub off_lines : OptionSet → ℕ → Option Reason → CfgExpr → List ℕ
off_lines options number why expr = decimal number ++ codes " off\n" ++ reason_line number why ++ hint_lines options number expr

-- the lines of the call with this number: those of its being off, or of its code
abbrev pub outcome_lines : ExpressionStore → OptionSet → ℕ → Outcome → List ℕ
outcome_lines store options number (Off why dnf) = off_lines options number why dnf
outcome_lines store options number (Code id) = code_lines store number id

-- the lines of calls whose numbers rise by one from the first
abbrev pub lines_from : ExpressionStore → OptionSet → ℕ → List Outcome → List ℕ
lines_from store options first [] = []
lines_from store options first (outcome ∷ outcomes) = outcome_lines store options first outcome ++ lines_from store options (first + 1) outcomes

-- the lines of all calls, numbered from 0
abbrev pub printed : ExpressionStore → OptionSet → List Outcome → List ℕ
printed store options outcomes = lines_from store options 0 outcomes
