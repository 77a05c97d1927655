-- The words of assembly calls with a meaning of their own, and tokens of which the grammar wants more than their kind.
use Rattle.std.specs.Prelude.{ℕ, Bool, false, ◌==◌, if◌then◌else◌, List, Option, Some, None, codes}
use Rattle.std.specs.Str.{bytes_eq}
use Rattle.syn_trees.specs.declared.asm_call.AsmDir.TheVariants.{In, Out, LateOut, InOut, InLateOut}
use Rattle.script_tokens.specs.Tokens.{Kind, Word, Tok}
use Rattle.script_tokens.specs.Readers.{take, when, is_mark}
use Rattle.script_grammar.specs.declared.asm_word.AsmMacro.{AsmMacro}
use Rattle.script_grammar.specs.declared.asm_word.AsmMacro.TheVariants.{Global, Naked}
use Rattle.script_grammar.specs.declared.asm_word.OperandWord.{OperandWord}
use Rattle.script_grammar.specs.declared.asm_word.OperandWord.TheVariants.{Dir, Label, Const, Sym}

-- the macro that a word in front of the templates stands for
abbrev pub macro_of : List ℕ → Option AsmMacro
macro_of word =
    if bytes_eq word (codes "global") then Some Global else
    if bytes_eq word (codes "naked") then Some Naked else
    None

-- what a word at the begin of an operand says
abbrev pub operand_word_of : List ℕ → Option OperandWord
operand_word_of word =
    if bytes_eq word (codes "in") then Some (Dir In) else
    if bytes_eq word (codes "out") then Some (Dir Out) else
    if bytes_eq word (codes "lateout") then Some (Dir LateOut) else
    if bytes_eq word (codes "inout") then Some (Dir InOut) else
    if bytes_eq word (codes "inlateout") then Some (Dir InLateOut) else
    if bytes_eq word (codes "label") then Some Label else
    if bytes_eq word (codes "const") then Some Const else
    if bytes_eq word (codes "sym") then Some Sym else
    None

-- whether it is this word
abbrev pub is_word : List ℕ → Kind → Bool
is_word name (Word text) = bytes_eq text name
is_word name other = false

-- this word
abbrev pub exact_word : List ℕ → List Tok → Option (Unit {0} × List Tok)
exact_word name toks = take (λ tok. when (is_word name tok.kind)) toks

-- this mark, without blanks in front of it
abbrev pub direct_mark : ℕ → List Tok → Option (Unit {0} × List Tok)
direct_mark c toks = take (λ tok. if tok.spaced then None else when (is_mark c tok.kind)) toks

-- `?`, where something else may stand: it is left out
abbrev pub left_out : {A : Type 0} → ℕ → Option (Option A)
left_out c = if c == 63 then Some None else None
