-- The code of a call of inline assembly as a tree, and where its expressions come from.
use Rattle.std.specs.Prelude.{Bool, true, false, List, [], ◌∷◌, map, Option, Some, None}
use Rattle.std.specs.List.{flat_map}
use Rattle.sym_core.specs.declared.files.AstPtr.{AstPtr}
use Rattle.sym_core.specs.declared.files.HirFileId.{HirFileId}
use Rattle.syn_trees.specs.declared.format_call.LeafSyntax.{LeafSyntax}
use Rattle.syn_trees.specs.declared.asm_call.AsmCall.{AsmCall}
use Rattle.ra_cfg.specs.Options.{OptionSet}
use Rattle.hir_store.specs.declared.asm.InlineAsmKind.{InlineAsmKind}
use Rattle.hir_store.specs.declared.asm.InlineAsmKind.TheVariants.{Asm, GlobalAsm, NakedAsm}
use Rattle.hir_store.specs.Tree.{Tree, Missing, Leaf, InlineAsm, trees, Operands, NoOperand, Operand}
use Rattle.hir_build.specs.Origins.{Origin, from_source}
use Rattle.hir_asm.specs.Operands.{Written, operands_written, bits_written}

-- an expression of an operand: a leaf, or missing
abbrev pub leaf_tree : Option LeafSyntax → Tree
leaf_tree None = Missing
leaf_tree (Some leaf) = Leaf leaf.leaf

-- where it stands, where it is there
abbrev pub leaf_ptr : Option LeafSyntax → Option AstPtr
leaf_ptr None = None
leaf_ptr (Some leaf) = Some leaf.ptr

-- its origin
abbrev pub leaf_origin : HirFileId → Option LeafSyntax → Origin
leaf_origin file leaf = from_source file (leaf_ptr leaf)

-- the operands as they stand in the tree
abbrev pub operand_trees : List Written → Operands
operand_trees [] = NoOperand
operand_trees (operand ∷ operands) = Operand operand.name operand.part.0 (trees (map leaf_tree operand.part.1)) (operand_trees operands)

-- the origins of the expressions of an operand
abbrev pub operand_origins : HirFileId → Written → List Origin
operand_origins file operand = map (leaf_origin file) operand.part.1

-- the kind of the macro: `global` counts before `naked`
abbrev pub kind_of : Bool → Bool → InlineAsmKind
kind_of true naked = GlobalAsm
kind_of false true = NakedAsm
kind_of false false = Asm

-- the tree of a call
abbrev pub asm_tree : OptionSet → AsmCall → Tree
asm_tree options call = InlineAsm (kind_of call.global call.naked) (record { 0 = bits_written options call.pieces }) (operand_trees (operands_written options call.pieces))

-- the origins of its expressions: the call stands at its pointer, and each leaf at its own
abbrev pub asm_origins : OptionSet → HirFileId → AsmCall → List Origin
asm_origins options file call = from_source file (Some call.ptr) ∷ flat_map (operand_origins file) (operands_written options call.pieces)
