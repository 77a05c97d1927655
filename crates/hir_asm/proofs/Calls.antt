-- The code of a call, of what its pieces say and what its templates put.
use Rattle.std.proofs.Common.{◌≡◌, ℕ, List, ◌∷◌, map, Option, Some, sym, ap, ap₂, ◌∙◌, subst}
use Rattle.std.specs.List.{flat_map}
use Rattle.sym_core.specs.declared.files.HirFileId.{HirFileId}
use Rattle.syn_trees.specs.declared.format_call.Template.{Template}
use Rattle.syn_trees.specs.declared.asm_call.AsmCall.{AsmCall}
use Rattle.ra_cfg.specs.Options.{OptionSet}
use Rattle.hir_store.specs.declared.ids.ExprId.{ExprId}
use Rattle.hir_store.specs.declared.asm.AsmRow.{AsmRow}
use Rattle.hir_store.specs.declared.asm.InlineAsm.{InlineAsm as Assembly}
use Rattle.hir_store.specs.declared.asm_options.AsmOptions.{AsmOptions}
use Rattle.hir_store.specs.declared.store.ExpressionStore.{ExpressionStore}
use Rattle.hir_store.specs.Tree.{InlineAsm}
use Rattle.hir_store.specs.Unfolding.{operands_of, tree_at}
use Rattle.hir_build.specs.Frame.{Frame}
use Rattle.hir_build.specs.Origins.{Origin, from_source, operands_origins, origins_at}
use Rattle.hir_build.specs.Placed.{Placed}
use Rattle.hir_build.specs.Building.{Builds}
use Rattle.hir_build.specs.Captures.{NotesMapping}
use Rattle.hir_build.proofs.Placed.{assembly_made}
use Rattle.hir_build.proofs.Captures.{mapped_placed, noted_mapping}
use Rattle.hir_asm.specs.Operands.{operands_written, bits_written}
use Rattle.hir_asm.specs.Code.{kind_of, operand_trees, operand_origins}
use Rattle.hir_asm.specs.Mapping.{IsMapping}
use Rattle.hir_asm.specs.Placing.{AreOperands}
use Rattle.hir_asm.specs.Heads.{heads_of}
use Rattle.hir_asm.specs.Lowered.{written_head, IsAsmCode}
use Rattle.hir_asm.proofs.Parts.{operands_placed, heads_are}

same_options : (options : AsmOptions) (bits : ℕ) → options.0 ≡ bits → options ≡ record { 0 = bits }
same_options options bits is = ap (λ n. record { 0 = n }) is

-- the assembly that a call makes: its kind, its options, and its operands with their expressions placed
pub record IsMade (options : OptionSet) (file : HirFileId) (call : AsmCall) (store : ExpressionStore) (assembly : Assembly) : Type 0 where
  pub kind : assembly.kind ≡ kind_of call.global call.naked
  pub bits : assembly.options.0 ≡ bits_written options call.pieces
  pub operands : AreOperands store file (operands_written options call.pieces) assembly.operands

-- the origins of the expressions of its operands
abbrev origins_written : OptionSet → HirFileId → AsmCall → List Origin
origins_written options file call = flat_map (operand_origins file) (operands_written options call.pieces)

module _ (options : OptionSet) (reaches : Template → Option (List ℕ)) (call : AsmCall) {old mid placed new : Frame} {most lets : ℕ} (builds : Builds old mid most lets) (assembly : Assembly) (made : IsMade options old.file call mid.store assembly) (id : ExprId) (rows : List AsmRow) where
  stands : Placed placed.store id (InlineAsm assembly.kind assembly.options (operands_of (tree_at mid.store) assembly.operands)) (from_source mid.file (Some call.ptr) ∷ operands_origins (origins_at mid.store) assembly.operands)
      → NotesMapping placed id rows new → Placed new.store id (InlineAsm assembly.kind assembly.options (operand_trees (operands_written options call.pieces))) (from_source mid.file (Some call.ptr) ∷ origins_written options old.file call)
  stands was notes =
      let over = operands_placed mid.store old.file (operands_written options call.pieces) assembly.operands made.operands in
      let there = assembly_made mid.store placed.store id (from_source mid.file (Some call.ptr)) assembly (operand_trees (operands_written options call.pieces)) (origins_written options old.file call) over was in
      subst (λ (frame : Frame). Placed frame.store id (InlineAsm assembly.kind assembly.options (operand_trees (operands_written options call.pieces))) (from_source mid.file (Some call.ptr) ∷ origins_written options old.file call)) (sym notes)
      (mapped_placed placed.store id rows id _ _ there)

  pub asm_code : Placed placed.store id (InlineAsm assembly.kind assembly.options (operands_of (tree_at mid.store) assembly.operands)) (from_source mid.file (Some call.ptr) ∷ operands_origins (origins_at mid.store) assembly.operands)
      → IsMapping assembly.options.0 (heads_of assembly.operands) reaches call.templates rows → NotesMapping placed id rows new → IsAsmCode options reaches old.file call new.store id
  asm_code was maps notes =
      let there = stands was notes in
      record {
        within = there.stands.within;
        tree = there.stands.tree ∙ ap₂ (λ kind bits. InlineAsm kind bits (operand_trees (operands_written options call.pieces))) made.kind (same_options assembly.options (bits_written options call.pieces) made.bits);
        origins = there.comes ∙ ap (λ file. from_source file (Some call.ptr) ∷ origins_written options old.file call) builds.file;
        mapping = rows;
        maps = subst (λ bits. IsMapping bits (map written_head (operands_written options call.pieces)) reaches call.templates rows) made.bits
            (subst (λ heads. IsMapping assembly.options.0 heads reaches call.templates rows) (heads_are mid.store old.file (operands_written options call.pieces) assembly.operands made.operands) maps);
        entered = noted_mapping placed new id rows notes;
      }
