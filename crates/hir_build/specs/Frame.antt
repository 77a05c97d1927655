-- A builder is seen as what it has built, how many fresh names are bound there, the file of its sources, and the language items that are there.
use Rattle.std.specs.Prelude.{ℕ, ◌≤◌, length}
use Rattle.sym_core.specs.declared.files.HirFileId.{HirFileId}
use Rattle.hir_store.specs.declared.lang_item.LangItems.{LangItems}
use Rattle.hir_store.specs.declared.store.ExpressionStore.{ExpressionStore}
use Rattle.hir_store.specs.Store.{NoDanglingIds, EachDefines}

pub record Frame : Type 0 where
  pub store : ExpressionStore
  pub fresh : ℕ
  pub file : HirFileId
  pub items : LangItems

-- what a builder keeps: whatever its store names is in it, each pattern defines what it binds, and each fresh name in use has a binding
pub record IsSound (store : ExpressionStore) (fresh : ℕ) : Type 0 where
  pub no_dangling : NoDanglingIds store
  pub defined : EachDefines store
  pub bound : fresh ≤ length store.bindings
