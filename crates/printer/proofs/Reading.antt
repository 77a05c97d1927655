-- An index with a whole tree reads the expression that the tree is of.
use Rattle.std.proofs.Common.{◌≡◌, IsTrue, Some, slice_get, sym}
use Rattle.hir_store.specs.declared.ids.ExprId.{ExprId}
use Rattle.hir_store.specs.declared.expr.Expr.{Expr}
use Rattle.hir_store.specs.declared.store.ExpressionStore.{ExpressionStore}
use Rattle.hir_store.specs.Tree.{is_whole}
use Rattle.hir_store.specs.Unfolding.{place_of, tree_at, tree_over}
use Rattle.hir_store.proofs.Grown.{within_of_whole, tree_is}

pub whole_tree : (store : ExpressionStore) (id : ExprId) (e : Expr) → slice_get store.exprs (place_of id) ≡ Some e → IsTrue (is_whole (tree_at store id)) → tree_over store e ≡ tree_at store id
whole_tree store id e is whole = sym (tree_is store id e is whole)

pub ruleset whole_node = (within_of_whole, whole_tree)
