-- A statement over a store: what it is printed as, and when it may be.
use Rattle.std.specs.Prelude.{ℕ, List, ◌++◌, IsTrue, codes, is_some}
use Rattle.hir_store.specs.declared.expr.Statement.{Statement}
use Rattle.hir_store.specs.declared.expr.Statement.TheVariants as statement
use Rattle.hir_store.specs.declared.store.ExpressionStore.{ExpressionStore}
use Rattle.hir_store.specs.Tree.{is_whole}
use Rattle.hir_store.specs.Unfolding.{name_in, tree_at}
use Rattle.printer.specs.Printed.{text_of, let_text, bound_text}

-- a statement over a store, and a space
abbrev pub statement_text : ExpressionStore → Statement → List ℕ
statement_text store (statement.Let pat id) = let_text (bound_text (name_in store pat)) (text_of (tree_at store id))
statement_text store (statement.Expr id) = text_of (tree_at store id) ++ codes "; "

-- a statement has a whole tree, and a name where it binds one
abbrev pub StatementIsWhole : ExpressionStore → Statement → Type 0
StatementIsWhole store (statement.Let pat id) = IsTrue (is_some (name_in store pat)) × IsTrue (is_whole (tree_at store id))
StatementIsWhole store (statement.Expr id) = IsTrue (is_whole (tree_at store id))
