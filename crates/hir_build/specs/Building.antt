-- What placing code does to a builder: its store grows by no more than some values, and is refused only where these do not fit.
use Rattle.std.specs.Prelude.{◌≡◌, ℕ, ◌+◌, ◌<◌, ◌≤◌, ◌⊎◌, length}
use Rattle.hir_store.specs.declared.ids.ExprId.{ExprId}
use Rattle.hir_store.specs.declared.store.ExpressionStore.{ExpressionStore}
use Rattle.hir_store.specs.Unfolding.{place_of, tree_at}
use Rattle.hir_store.specs.Store.{Grows}
use Rattle.hir_build.specs.Frame.{Frame}

-- each older index has the tree that it had
abbrev pub KeepsTrees : ExpressionStore → ExpressionStore → Type 0
KeepsTrees old new = (id : ExprId) → place_of id < length old.exprs → tree_at new id ≡ tree_at old id

-- the store grew by at most this many expressions, and by at most this many patterns, bindings and fresh names; file and items are as they were
pub record Builds (old new : Frame) (most lets : ℕ) : Type 0 where
  pub grows : Grows old.store new.store
  pub trees : KeepsTrees old.store new.store
  pub file : new.file ≡ old.file
  pub items : new.items ≡ old.items
  pub fresh : old.fresh ≤ new.fresh
  pub names : new.fresh ≤ old.fresh + lets
  pub exprs : length new.store.exprs ≤ length old.store.exprs + most
  pub pats : length new.store.pats ≤ length old.store.pats + lets
  pub bindings : length new.store.bindings ≤ length old.store.bindings + lets

-- what format calls capture is as it was
abbrev pub SameCaptures : ExpressionStore → ExpressionStore → Type 0
SameCaptures old new = new.format_args_to_captures ≡ old.format_args_to_captures

-- this many more expressions, or this many more patterns or bindings, do not fit into an arena
abbrev pub Outgrows : ExpressionStore → ℕ → ℕ → Type 0
Outgrows store most lets = (4_294_967_295 < length store.exprs + most) ⊎ (4_294_967_295 < length store.pats + lets) ⊎ (4_294_967_295 < length store.bindings + lets)
