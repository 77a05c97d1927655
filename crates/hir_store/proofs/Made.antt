-- An expression over a store unfolds to the tree that it makes of the trees of its parts.
use Rattle.std.proofs.Common.{◌≡◌, List, [], ◌∷◌, Some, None, Option, IsTrue, refl, sym, ap, ap₂, ◌∙◌, subst}
use Rattle.std.proofs.lemmas.Bool.{and_from}
use Rattle.hir_store.specs.declared.ids.ExprId.{ExprId}
use Rattle.hir_store.specs.declared.expr.Expr.{Expr}
use Rattle.hir_store.specs.declared.expr.Expr.TheVariants as expr
use Rattle.hir_store.specs.declared.expr.Literal.{Literal}
use Rattle.hir_store.specs.declared.expr.Literal.TheVariants as literal
use Rattle.hir_store.specs.declared.expr.Statement.{Statement}
use Rattle.hir_store.specs.declared.expr.Statement.TheVariants as statement
use Rattle.sym_core.specs.declared.name.Name.{Name}
use Rattle.hir_store.specs.declared.asm.AsmOperand.{AsmOperand}
use Rattle.hir_store.specs.declared.store.ExpressionStore.{ExpressionStore}
use Rattle.hir_store.specs.Tree.{Tree, Trees, Steps, is_whole, all_whole, steps_whole, Ref, Tuple, Field, Array, Call, Block, InlineAsm, End, Tail, Let, Do, Operands, NoOperand, Operand, operands_whole}
use Rattle.hir_store.specs.Unfolding.{name_in, let_step, steps_of, literal_tree, trees_of, operand_exprs, shape_of, operands_of, tree_at, tree_over}
use Rattle.hir_store.specs.Store.{Stands, AllStand, PlacesExpr}
use Rattle.hir_store.specs.Makes.{TailMakes, StepsMake, OperandsMake, Makes}
use Rattle.hir_store.proofs.Grown.{trees_of_all, whole_of_all}
use Rattle.hir_store.proofs.Placing.{stands_placed}

-- a tree that an expression unfolds to, with every part there
pub record IsOver (store : ExpressionStore) (e : Expr) (t : Tree) : Type 0 where
  pub tree : tree_over store e ≡ t
  pub whole : IsTrue (is_whole t)

literal_whole : (l : Literal) → IsTrue (is_whole (literal_tree l))
literal_whole (literal.String text) = refl
literal_whole (literal.ByteString bytes) = refl

record StepsAre (store : ExpressionStore) (statements : List Statement) (last : Option ExprId) (steps : Steps) : Type 0 where
  pub are : steps_of (name_in store) (tree_at store) statements last ≡ steps
  pub whole : IsTrue (steps_whole steps)

record OperandsAre (store : ExpressionStore) (operands : List (Option Name × AsmOperand)) (made : Operands) : Type 0 where
  pub are : operands_of (tree_at store) operands ≡ made
  pub whole : IsTrue (operands_whole made)

is_over : (store : ExpressionStore) (e : Expr) (t u : Tree) → tree_over store e ≡ u → IsTrue (is_whole u) → t ≡ u → IsOver store e t
is_over store e t u over whole is = record { tree = over ∙ sym is; whole = subst (λ v. IsTrue (is_whole v)) (sym is) whole }

module _ (store : ExpressionStore) where
  tail_made : (last : Option ExprId) (steps : Steps) → TailMakes store last steps → StepsAre store [] last steps
  tail_made None End made = record { are = refl; whole = refl }
  tail_made (Some id) (Tail t) made = record { are = ap Tail made.tree; whole = made.whole }
  tail_made None steps made = absurd made
  tail_made (Some id) steps made = absurd made

  steps_made : (statements : List Statement) (last : Option ExprId) (steps : Steps) → StepsMake store statements last steps → StepsAre store statements last steps
  steps_made [] last steps made = tail_made last steps made
  steps_made (statement.Let pat id ∷ rest) last (Let name t steps) made =
      let behind = steps_made rest last steps made.2 in
      record {
        are = ap (λ o. let_step o (tree_at store id) (steps_of (name_in store) (tree_at store) rest last)) made.0 ∙ ap₂ (Let name) made.1.tree behind.are;
        whole = and_from (is_whole t) (steps_whole steps) made.1.whole behind.whole;
      }
  steps_made (statement.Expr id ∷ rest) last (Do t steps) made =
      let behind = steps_made rest last steps made.1 in
      record {
        are = ap₂ Do made.0.tree behind.are;
        whole = and_from (is_whole t) (steps_whole steps) made.0.whole behind.whole;
      }
  steps_made (statement.Let pat id ∷ rest) last steps made = absurd made
  steps_made (statement.Expr id ∷ rest) last steps made = absurd made

  operands_made : (operands : List (Option Name × AsmOperand)) (made : Operands) → OperandsMake store operands made → OperandsAre store operands made
  operands_made [] NoOperand made = record { are = refl; whole = refl }
  operands_made ((name, operand) ∷ rest) (Operand other shape ts operands) made =
      let behind = operands_made rest operands made.3 in
      record {
        are = ap (λ n. Operand n (shape_of operand) (trees_of (tree_at store) (operand_exprs operand)) (operands_of (tree_at store) rest)) (sym made.0) ∙ ap (λ s. Operand other s (trees_of (tree_at store) (operand_exprs operand)) (operands_of (tree_at store) rest)) (sym made.1) ∙ ap₂ (Operand other shape) (trees_of_all store (operand_exprs operand) ts made.2) behind.are;
        whole = and_from (all_whole ts) (operands_whole operands) (whole_of_all store (operand_exprs operand) ts made.2) behind.whole;
      }
  operands_made [] operands made = absurd made
  operands_made (one ∷ rest) NoOperand made = absurd made

  pub made : (e : Expr) (t : Tree) → Makes store e t → IsOver store e t
  made expr.Missing t is = is_over store expr.Missing t (tree_over store expr.Missing) refl refl is
  made (expr.Leaf n) t is = is_over store (expr.Leaf n) t (tree_over store (expr.Leaf n)) refl refl is
  made (expr.Path name) t is = is_over store (expr.Path name) t (tree_over store (expr.Path name)) refl refl is
  made (expr.LangPath item function) t is = is_over store (expr.LangPath item function) t (tree_over store (expr.LangPath item function)) refl refl is
  made (expr.Literal l) t is = is_over store (expr.Literal l) t (literal_tree l) refl (literal_whole l) is
  made (expr.Ref id) (Ref t) is = record { tree = ap Ref is.tree; whole = is.whole }
  made (expr.Tuple ids) (Tuple ts) is = record { tree = ap Tuple (trees_of_all store ids ts is); whole = whole_of_all store ids ts is }
  made (expr.Field id name) (Field t field) is = record { tree = ap₂ Field is.0.tree (sym is.1); whole = is.0.whole }
  made (expr.Array ids) (Array ts) is = record { tree = ap Array (trees_of_all store ids ts is); whole = whole_of_all store ids ts is }
  made (expr.Call callee args) (Call t ts) is = record {
    tree = ap₂ Call is.0.tree (trees_of_all store args ts is.1);
    whole = and_from (is_whole t) (all_whole ts) is.0.whole (whole_of_all store args ts is.1);
  }
  made (expr.Block last is_unsafe statements) (Block b steps) is =
      let parts = steps_made statements last steps is.1 in
      record { tree = ap₂ Block (sym is.0) parts.are; whole = parts.whole }
  made (expr.InlineAsm assembly) (InlineAsm kind options operands) is =
      let parts = operands_made assembly.operands operands is.2 in
      record {
        tree = ap (λ k. InlineAsm k assembly.options (operands_of (tree_at store) assembly.operands)) (sym is.0) ∙ ap₂ (InlineAsm kind) (sym is.1) parts.are;
        whole = parts.whole;
      }
  made (expr.Ref id) t is = absurd is
  made (expr.Tuple ids) t is = absurd is
  made (expr.Field id name) t is = absurd is
  made (expr.Array ids) t is = absurd is
  made (expr.Call callee args) t is = absurd is
  made (expr.Block last is_unsafe statements) t is = absurd is
  made (expr.InlineAsm assembly) t is = absurd is

-- a placed expression stands for the tree that it makes
pub stands_made : (old new : ExpressionStore) (e : Expr) (id : ExprId) (t : Tree) → PlacesExpr old e id new → Makes old e t → Stands new id t
stands_made old new e id t places makes =
    let over = made old e t makes in
    subst (Stands new id) over.tree (stands_placed old new e id places (subst (λ u. IsTrue (is_whole u)) (sym over.tree) over.whole))

pub all_as : (store : ExpressionStore) (ids same : List ExprId) (ts : Trees) → same ≡ ids → AllStand store ids ts → AllStand store same ts
all_as store ids same ts is all = subst (λ l. AllStand store l ts) (sym is) all
