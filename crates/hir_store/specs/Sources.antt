-- What the maps of a store hold: where expressions come from in the source, what format calls capture, and which operands inline assembly puts.
use Rattle.std.specs.Prelude.{◌≡◌, ℕ, ◌<◌, length, Option, Some}
use Rattle.sym_core.specs.declared.files.InFile.{InFile}
use Rattle.sym_core.specs.declared.files.AstPtr.{AstPtr}
use Rattle.hir_store.specs.declared.ids.ExprId.{ExprId}
use Rattle.hir_store.specs.declared.store.ExpressionStore.{ExpressionStore}
use Rattle.hir_store.specs.Entries.{entry_at, with_entry}

module _ {A : Type 0} (limit : ℕ) where
  -- a map, as what it has at each number, holds values below the limit alone
  abbrev pub HoldsBelow : (ℕ → Option A) → Type 0
  HoldsBelow held = (number : ℕ) (value : A) → held number ≡ Some value → number < limit

  -- a map has below the limit what it had
  abbrev pub SameBelow : (ℕ → Option A) → (ℕ → Option A) → Type 0
  SameBelow old new = (number : ℕ) → number < limit → new number ≡ old number

-- each map holds values at expressions of the store alone
pub record NoDanglingKeys (store : ExpressionStore) : Type 0 where
  pub sources : HoldsBelow (length store.exprs) (entry_at store.expr_map_back)
  pub capture_sources : HoldsBelow (length store.exprs) (entry_at store.implicit_capture_to_source)
  pub captures : HoldsBelow (length store.exprs) (entry_at store.format_args_to_captures)
  pub mappings : HoldsBelow (length store.exprs) (entry_at store.asm_to_captures)

-- each map has at older expressions what it had
pub record SameAtOlder (old new : ExpressionStore) : Type 0 where
  pub sources : SameBelow (length old.exprs) (entry_at old.expr_map_back) (entry_at new.expr_map_back)
  pub capture_sources : SameBelow (length old.exprs) (entry_at old.implicit_capture_to_source) (entry_at new.implicit_capture_to_source)
  pub captures : SameBelow (length old.exprs) (entry_at old.format_args_to_captures) (entry_at new.format_args_to_captures)
  pub mappings : SameBelow (length old.exprs) (entry_at old.asm_to_captures) (entry_at new.asm_to_captures)

-- each map is as it was
pub record SameMaps (old new : ExpressionStore) : Type 0 where
  pub sources : new.expr_map_back ≡ old.expr_map_back
  pub capture_sources : new.implicit_capture_to_source ≡ old.implicit_capture_to_source
  pub captures : new.format_args_to_captures ≡ old.format_args_to_captures
  pub mappings : new.asm_to_captures ≡ old.asm_to_captures

-- the source of the expression is entered, and no other map is changed
pub record EntersSource (old : ExpressionStore) (id : ExprId) (ptr : InFile AstPtr) (new : ExpressionStore) : Type 0 where
  pub sources : new.expr_map_back ≡ with_entry old.expr_map_back id ptr
  pub capture_sources : new.implicit_capture_to_source ≡ old.implicit_capture_to_source
  pub captures : new.format_args_to_captures ≡ old.format_args_to_captures
  pub mappings : new.asm_to_captures ≡ old.asm_to_captures
