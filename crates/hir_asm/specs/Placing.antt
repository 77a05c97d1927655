-- The operands of a call, once their expressions are placed.
use Rattle.std.specs.Prelude.{◌≡◌, ℕ, List, [], ◌∷◌, ◌++◌, map, Option, Some, None, ⊤}
use Rattle.sym_core.specs.declared.files.HirFileId.{HirFileId}
use Rattle.sym_core.specs.declared.name.Name.{Name}
use Rattle.hir_store.specs.declared.asm.AsmOperand.{AsmOperand}
use Rattle.hir_store.specs.declared.store.ExpressionStore.{ExpressionStore}
use Rattle.hir_store.specs.Tree.{trees}
use Rattle.hir_store.specs.Unfolding.{operand_exprs, shape_of}
use Rattle.hir_build.specs.Placed.{AllPlaced}
use Rattle.hir_asm.specs.declared.piece.Pieces.{Pieces}
use Rattle.hir_asm.specs.Operands.{Part, Written, with_bits}
use Rattle.hir_asm.specs.Code.{leaf_tree, leaf_origin}

-- an operand is this part, with its expressions placed
pub record IsPart (store : ExpressionStore) (file : HirFileId) (part : Part) (operand : AsmOperand) : Type 0 where
  pub shape : shape_of operand ≡ part.0
  pub placed : AllPlaced store (operand_exprs operand) (trees (map leaf_tree part.1)) (map (leaf_origin file) part.1)

-- there is an operand exactly where there is a part, and it is this part
abbrev pub MayBePart : ExpressionStore → HirFileId → Option Part → Option AsmOperand → Type 0
MayBePart store file None None = ⊤
MayBePart store file (Some part) (Some operand) = IsPart store file part operand
MayBePart store file None (Some operand) = ⊥
MayBePart store file (Some part) None = ⊥

-- each operand has the name and is the part that is written
abbrev pub AreOperands : ExpressionStore → HirFileId → List Written → List (Option Name × AsmOperand) → Type 0
AreOperands store file [] [] = ⊤
AreOperands store file (written ∷ rest) (operand ∷ operands) = (operand.0 ≡ written.name) × IsPart store file written.part operand.1 × AreOperands store file rest operands
AreOperands store file [] (operand ∷ operands) = ⊥
AreOperands store file (written ∷ rest) [] = ⊥

-- what the pieces say has these operands and these words more
pub record Adds (store : ExpressionStore) (file : HirFileId) (written : List Written) (words : List (List ℕ)) (old new : Pieces) : Type 0 where
  pub added : List (Option Name × AsmOperand)
  pub are : AreOperands store file written added
  pub operands : new.operands ≡ old.operands ++ added
  pub options : new.options.0 ≡ with_bits old.options.0 words
