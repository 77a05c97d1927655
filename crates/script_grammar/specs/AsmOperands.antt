-- OP: an operand of inline assembly; the number of the call is the pointer of its leaves.
use Rattle.std.specs.Prelude.{ℕ, true, false, List, Option, Some, None, codes, option_map}
use Rattle.syn_trees.specs.declared.asm_call.AsmDir.{AsmDir}
use Rattle.syn_trees.specs.declared.asm_call.AsmRegSyntax.{AsmRegSyntax}
use Rattle.syn_trees.specs.declared.asm_call.AsmRegSyntax.TheVariants.{Register, Class}
use Rattle.syn_trees.specs.declared.asm_call.AsmExprSyntax.{AsmExprSyntax}
use Rattle.syn_trees.specs.declared.asm_call.AsmExprSyntax.TheVariants.{Leaf, Underscore}
use Rattle.syn_trees.specs.declared.asm_call.AsmExprs.{AsmExprs}
use Rattle.syn_trees.specs.declared.asm_call.AsmOperandSyntax.{AsmOperandSyntax}
use Rattle.syn_trees.specs.declared.asm_call.AsmOperandSyntax.TheVariants.{Reg, Label, Const, Sym}
use Rattle.script_tokens.specs.Tokens.{Kind, Word, Text, Mark, Tok}
use Rattle.script_tokens.specs.Readers.{◌>>=◌, if_there, take, word, mark, arrow}
use Rattle.script_grammar.specs.declared.asm_word.OperandWord.{OperandWord}
use Rattle.script_grammar.specs.declared.asm_word.OperandWord.TheVariants as begins
use Rattle.script_grammar.specs.AsmWords.{operand_word_of, exact_word, left_out}
use Rattle.script_grammar.specs.Templates.{expr}

-- the register, or the class of registers, that a token names; `?` names none
abbrev pub reg_of : Kind → Option (Option AsmRegSyntax)
reg_of (Word class) = Some (Some (Class class))
reg_of (Text token) = Some (Some (Register token.text))
reg_of (Mark c spacing) = left_out c
reg_of other = None

-- REG
abbrev pub reg : List Tok → Option (Option AsmRegSyntax × List Tok)
reg toks = take (λ tok. reg_of tok.kind) toks

-- EX: the word `_`, a leaf, or `?` for none
abbrev pub asm_expr : ℕ → List Tok → Option (Option AsmExprSyntax × List Tok)
asm_expr number toks = if_there (exact_word (codes "_") toks) (λ w. Some (Some Underscore, w.1)) (expr number toks >>= λ e. Some (option_map Leaf e.0, e.1))

-- `=>` EX
abbrev pub second_expr : ℕ → List Tok → Option (Option AsmExprSyntax × List Tok)
second_expr number toks = arrow toks >>= λ points. asm_expr number points.1

-- a first expression with the one behind `=>`, if there is one
abbrev pub and_second : ℕ → Option AsmExprSyntax × List Tok → AsmExprs × List Tok
and_second number first = if_there (second_expr number first.1)
    (λ second. (record { first = first.0; arrow = true; second = second.0 }, second.1))
    (record { first = first.0; arrow = false; second = None }, first.1)

-- EX, EX `=>` EX, or no expression
abbrev pub asm_exprs : ℕ → List Tok → Option AsmExprs × List Tok
asm_exprs number toks = if_there (asm_expr number toks) (λ first. (Some (and_second number first).0, (and_second number first).1)) (None, toks)

-- a register with its expressions, behind the direction
abbrev pub reg_operand : ℕ → AsmDir → List Tok → Option (AsmOperandSyntax × List Tok)
reg_operand number dir toks = reg toks >>= λ r. Some (Reg (Some dir) r.0 (asm_exprs number r.1).0, (asm_exprs number r.1).1)

-- behind `label`: a leaf, or `?` for none
abbrev pub label_operand : ℕ → List Tok → Option (AsmOperandSyntax × List Tok)
label_operand number toks = expr number toks >>= λ block. Some (Label block.0, block.1)

-- behind `const`: a leaf, or `?` for none
abbrev pub const_operand : ℕ → List Tok → Option (AsmOperandSyntax × List Tok)
const_operand number toks = expr number toks >>= λ value. Some (Const value.0, value.1)

-- the path that a token names; `?` names none
abbrev pub path_of : Kind → Option (Option (List ℕ))
path_of (Word name) = Some (Some name)
path_of (Mark c spacing) = left_out c
path_of other = None

-- behind `sym`: a word, or `?` for none
abbrev pub sym_operand : List Tok → Option (AsmOperandSyntax × List Tok)
sym_operand toks = take (λ tok. path_of tok.kind) toks >>= λ path. Some (Sym path.0, path.1)

-- what stands behind the word that an operand begins with
abbrev pub operand_behind : ℕ → OperandWord → List Tok → Option (AsmOperandSyntax × List Tok)
operand_behind number (begins.Dir dir) toks = reg_operand number dir toks
operand_behind number begins.Label toks = label_operand number toks
operand_behind number begins.Const toks = const_operand number toks
operand_behind number begins.Sym toks = sym_operand toks

-- an operand that begins with its word
abbrev pub some_operand : ℕ → List Tok → Option (Option AsmOperandSyntax × List Tok)
some_operand number toks = do
  name ← word toks
  begin ← operand_word_of name.0
  op ← operand_behind number begin name.1
  Some (Some op.0, op.1)

-- OP: an operand, or `?` for none
unfoldable pub operand : ℕ → List Tok → Option (Option AsmOperandSyntax × List Tok)
operand number toks = if_there (mark 63 toks) (λ m. Some (None, m.1)) (some_operand number toks)
