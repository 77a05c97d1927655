-- What the code of a call of inline assembly is in a store: its tree, where each of its expressions comes from, and which operands its templates put.
use Rattle.std.specs.Prelude.{◌≡◌, ℕ, ◌+◌, ◌*◌, ◌<◌, List, map, length, Option, Some}
use Rattle.sym_core.specs.declared.files.HirFileId.{HirFileId}
use Rattle.syn_trees.specs.declared.format_call.Template.{Template}
use Rattle.syn_trees.specs.declared.asm_call.AsmCall.{AsmCall}
use Rattle.ra_cfg.specs.Options.{OptionSet}
use Rattle.hir_store.specs.declared.ids.ExprId.{ExprId}
use Rattle.hir_store.specs.declared.asm.AsmRow.{AsmRow}
use Rattle.hir_store.specs.declared.store.ExpressionStore.{ExpressionStore}
use Rattle.hir_store.specs.Unfolding.{place_of, tree_at}
use Rattle.hir_store.specs.Entries.{entry_at}
use Rattle.hir_build.specs.Origins.{origins_at}
use Rattle.hir_asm.specs.Operands.{Written, operands_written, bits_written}
use Rattle.hir_asm.specs.Code.{asm_tree, asm_origins}
use Rattle.hir_asm.specs.Mapping.{Head, IsMapping}

-- an operand as templates see it
abbrev pub written_head : Written → Head
written_head operand = (operand.name, operand.part.0)

-- the mapping of a call, over all its operands
abbrev pub IsCallMapping : OptionSet → (Template → Option (List ℕ)) → AsmCall → List AsmRow → Type 0
IsCallMapping options reaches call mapping = IsMapping (bits_written options call.pieces) (map written_head (operands_written options call.pieces)) reaches call.templates mapping

-- an index of the store is the code of a call, whose templates reach these literals
pub record IsAsmCode (options : OptionSet) (reaches : Template → Option (List ℕ)) (file : HirFileId) (call : AsmCall) (store : ExpressionStore) (id : ExprId) : Type 0 where
  pub within : place_of id < length store.exprs
  pub tree : tree_at store id ≡ asm_tree options call
  pub origins : origins_at store id ≡ asm_origins options file call
  pub mapping : List AsmRow
  pub maps : IsCallMapping options reaches call mapping
  pub entered : entry_at store.asm_to_captures (place_of id) ≡ Some mapping

-- the most expressions that a call places
abbrev pub most_of : AsmCall → ℕ
most_of call = 2 * length call.pieces + 1
