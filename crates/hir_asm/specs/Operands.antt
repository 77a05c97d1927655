-- What the pieces of a call of inline assembly say: its operands, and its options.
use Rattle.std.specs.Prelude.{ℕ, Bool, true, false, if◌then◌else◌, List, [], ◌∷◌, map, codes, Option, Some, None, option_map}
use Rattle.std.specs.Option.{option_and_then}
use Rattle.std.specs.List.{flat_map}
use Rattle.std.specs.Int.RustNames.{bit_or}
use Rattle.std.specs.Str.{bytes_eq}
use Rattle.sym_core.specs.declared.name.Name.{Name}
use Rattle.sym_core.specs.declared.name.Name.TheVariants.{Text}
use Rattle.syn_trees.specs.declared.format_call.LeafSyntax.{LeafSyntax}
use Rattle.syn_trees.specs.declared.asm_call.AsmPiece.{AsmPiece}
use Rattle.syn_trees.specs.declared.asm_call.AsmPieceKind.{AsmPieceKind}
use Rattle.syn_trees.specs.declared.asm_call.AsmPieceKind.TheVariants.{ClobberAbi, Options, Operand}
use Rattle.syn_trees.specs.declared.asm_call.AsmOperandSyntax.{AsmOperandSyntax}
use Rattle.syn_trees.specs.declared.asm_call.AsmOperandSyntax.TheVariants as syntax
use Rattle.syn_trees.specs.declared.asm_call.AsmDir.{AsmDir}
use Rattle.syn_trees.specs.declared.asm_call.AsmDir.TheVariants as dir
use Rattle.syn_trees.specs.declared.asm_call.AsmRegSyntax.{AsmRegSyntax}
use Rattle.syn_trees.specs.declared.asm_call.AsmRegSyntax.TheVariants as reg
use Rattle.syn_trees.specs.declared.asm_call.AsmExprs.{AsmExprs}
use Rattle.syn_trees.specs.declared.asm_call.AsmExprSyntax.{AsmExprSyntax}
use Rattle.syn_trees.specs.declared.asm_call.AsmExprSyntax.TheVariants as expr
use Rattle.ra_cfg.specs.Options.{OptionSet}
use Rattle.ra_cfg.specs.Reading.{is_off}
use Rattle.ra_cfg.specs.Syntax.{meaning}
use Rattle.hir_store.specs.declared.asm.InlineAsmRegOrRegClass.{InlineAsmRegOrRegClass}
use Rattle.hir_store.specs.declared.asm.InlineAsmRegOrRegClass.TheVariants.{Reg, RegClass}
use Rattle.hir_store.specs.Tree.{Shape, In, Out, InOut, SplitInOut, Label, Const, Sym}

-- a register by its whole token, quotes included, or a class
abbrev pub reg_of : AsmRegSyntax → InlineAsmRegOrRegClass
reg_of (reg.Register token) = Reg token
reg_of (reg.Class word) = RegClass word

-- what an expression is collected as: a leaf, or missing where it is `_` or is not there
abbrev pub collected : Option AsmExprSyntax → Option LeafSyntax
collected (Some (expr.Leaf leaf)) = Some leaf
collected (Some expr.Underscore) = None
collected None = None

-- where a value is stored: nowhere where the expression is `_` or is not there
abbrev pub stored : Option AsmExprSyntax → List (Option LeafSyntax)
stored (Some (expr.Leaf leaf)) = Some leaf ∷ []
stored (Some expr.Underscore) = []
stored None = []

-- the first expression of those that may be there
abbrev pub first_of : Option AsmExprs → Option AsmExprSyntax
first_of None = None
first_of (Some exprs) = exprs.first

-- what an operand is, and its expressions in order, each a leaf or missing
abbrev pub Part : Type 0
Part = Shape × List (Option LeafSyntax)

-- a register that goes in and out: split where an arrow is written
abbrev pub both_ways : InlineAsmRegOrRegClass → Bool → AsmExprs → Part
both_ways register late exprs = if exprs.arrow then (SplitInOut register late, collected exprs.first ∷ stored exprs.second) else (InOut register late, collected exprs.first ∷ [])

-- an operand in a register; one that goes both ways and has no expressions is dropped
abbrev pub in_register : AsmDir → InlineAsmRegOrRegClass → Option AsmExprs → Option Part
in_register dir.In register exprs = Some (In register, collected (first_of exprs) ∷ [])
in_register dir.Out register exprs = Some (Out register false, stored (first_of exprs))
in_register dir.LateOut register exprs = Some (Out register true, stored (first_of exprs))
in_register dir.InOut register exprs = option_map (both_ways register false) exprs
in_register dir.InLateOut register exprs = option_map (both_ways register true) exprs

-- an operand in a register that is given, in a direction that is given; any other is dropped
abbrev pub in_given : Option AsmDir → Option AsmRegSyntax → Option AsmExprs → Option Part
in_given (Some direction) (Some register) exprs = in_register direction (reg_of register) exprs
in_given (Some direction) None exprs = None
in_given None register exprs = None

-- what an operand is; a symbol without a path is dropped
abbrev pub part_of : AsmOperandSyntax → Option Part
part_of (syntax.Reg direction register exprs) = in_given direction register exprs
part_of (syntax.Label leaf) = Some (Label, leaf ∷ [])
part_of (syntax.Const leaf) = Some (Const, leaf ∷ [])
part_of (syntax.Sym None) = None
part_of (syntax.Sym (Some path)) = Some (Sym (Text path), [])

-- an operand that is not dropped: its name where it has one, what it is, and its expressions
pub record Written : Type 0 where
  pub name : Option Name
  pub part : Part

-- the operand of this name, where there is one
abbrev pub named : Option (List ℕ) → Option Part → List Written
named name None = []
named name (Some part) = record { name = option_map Text name; part = part } ∷ []

-- the operand that a piece is, where it is one and is not dropped
abbrev pub operand_in : AsmPieceKind → List Written
operand_in (ClobberAbi abi) = []
operand_in (Options words) = []
operand_in (Operand name operand) = named name (option_and_then part_of operand)

-- the words of a piece
abbrev pub words_in : AsmPieceKind → List (List ℕ)
words_in (ClobberAbi abi) = []
words_in (Options words) = words
words_in (Operand name operand) = []

-- a piece counts where none of its predicates, each taken by itself, reads false
abbrev pub if_on : {A : Type 0} → OptionSet → (AsmPieceKind → List A) → AsmPiece → List A
if_on options read piece = if is_off options (map meaning piece.cfgs) then [] else read piece.kind

-- the operands of a call, in order
abbrev pub operands_written : OptionSet → List AsmPiece → List Written
operands_written options pieces = flat_map (if_on options operand_in) pieces

-- the words of its options
abbrev pub words_written : OptionSet → List AsmPiece → List (List ℕ)
words_written options pieces = flat_map (if_on options words_in) pieces

-- the bit of a word; a word that is no option has none
abbrev pub bit_of : List ℕ → ℕ
bit_of word =
    if bytes_eq word (codes "att_syntax") then 1 else
    if bytes_eq word (codes "may_unwind") then 2 else
    if bytes_eq word (codes "nomem") then 4 else
    if bytes_eq word (codes "noreturn") then 8 else
    if bytes_eq word (codes "nostack") then 16 else
    if bytes_eq word (codes "preserves_flags") then 32 else
    if bytes_eq word (codes "pure") then 64 else
    if bytes_eq word (codes "raw") then 128 else
    if bytes_eq word (codes "readonly") then 256 else
    0

-- bits with those of words
abbrev pub with_bits : ℕ → List (List ℕ) → ℕ
with_bits bits [] = bits
with_bits bits (word ∷ words) = with_bits (bit_or bits (bit_of word)) words

-- the options of a call: the union of the words of its pieces
abbrev pub bits_written : OptionSet → List AsmPiece → ℕ
bits_written options pieces = with_bits 0 (words_written options pieces)
