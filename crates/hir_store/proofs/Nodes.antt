-- A node keeps its tree where its parts and the names in it keep theirs.
use Rattle.std.proofs.Common.{◌≡◌, ℕ, ◌<◌, List, [], ◌∷◌, Some, None, Option, IsTrue, refl, sym, ap, ap₂, ◌∙◌, true≢false}
use Rattle.std.proofs.lemmas.Bool.{and_parts}
use Rattle.sym_core.specs.declared.name.Name.{Name}
use Rattle.hir_store.specs.declared.ids.ExprId.{ExprId}
use Rattle.hir_store.specs.declared.ids.PatId.{PatId}
use Rattle.hir_store.specs.declared.expr.Expr.{Expr}
use Rattle.hir_store.specs.declared.expr.Expr.TheVariants as expr
use Rattle.hir_store.specs.declared.expr.Statement.{Statement}
use Rattle.hir_store.specs.declared.expr.Statement.TheVariants as statement
use Rattle.hir_store.specs.declared.asm.AsmOperand.{AsmOperand}
use Rattle.hir_store.specs.Tree.{Tree, Steps, is_whole, all_whole, steps_whole, Ref, Tuple, Field, Array, Call, Block, InlineAsm, More, Tail, Let, Do, Operand, operands_whole}
use Rattle.hir_store.specs.Unfolding.{place_of, node, trees_of, let_step, steps_of, operand_exprs, shape_of, operands_of}
use Rattle.hir_store.specs.PartsBelow.{AllBelow, StepsBelow, OperandsBelow, PartsBelow}

-- a name that a pattern had is the name that it has
abbrev pub KeepsNames : (PatId → Option Name) → (PatId → Option Name) → Type 0
KeepsNames names later = (pat : PatId) (name : Name) → names pat ≡ Some name → later pat ≡ Some name

-- a whole tree that an index had is the tree that it has
abbrev pub KeepsTrees : (ExprId → Tree) → (ExprId → Tree) → Type 0
KeepsTrees old new = (id : ExprId) → IsTrue (is_whole (old id)) → new id ≡ old id

-- an index with a whole tree is below the limit
abbrev pub WholeBelow : ℕ → (ExprId → Tree) → Type 0
WholeBelow limit tree_of = (id : ExprId) → IsTrue (is_whole (tree_of id)) → place_of id < limit

pub names_same : (names : PatId → Option Name) → KeepsNames names names
names_same names pat name is = is

same_let : (name after : Option Name) (t u : Tree) (old new : Steps) → ((n : Name) → name ≡ Some n → after ≡ Some n) → (IsTrue (is_whole t) → u ≡ t) → (IsTrue (steps_whole old) → new ≡ old) → IsTrue (steps_whole (let_step name t old)) → let_step after u new ≡ let_step name t old
same_let None after t u old new is tree rest whole = absurd (true≢false (sym whole))
same_let (Some n) after t u old new is tree rest whole =
    let both = and_parts (is_whole t) (steps_whole old) whole in
    let named : let_step after u new ≡ let_step (Some n) u new = ap (λ o. let_step o u new) (is n refl) in
    named ∙ ap₂ (Let n) (tree both.0) (rest both.1)

let_parts : (name : Option Name) (t : Tree) (steps : Steps) → IsTrue (steps_whole (let_step name t steps)) → IsTrue (is_whole t) × IsTrue (steps_whole steps)
let_parts None t steps whole = absurd (true≢false (sym whole))
let_parts (Some n) t steps whole = and_parts (is_whole t) (steps_whole steps) whole

module _ (names later : PatId → Option Name) (names_kept : KeepsNames names later) (old new : ExprId → Tree) (trees_kept : KeepsTrees old new) where
  pub same_trees : (ids : List ExprId) → IsTrue (all_whole (trees_of old ids)) → trees_of new ids ≡ trees_of old ids
  same_trees [] whole = refl
  same_trees (id ∷ ids) whole =
      let both = and_parts (is_whole (old id)) (all_whole (trees_of old ids)) whole in
      ap₂ More (trees_kept id both.0) (same_trees ids both.1)

  pub same_steps : (statements : List Statement) (last : Option ExprId) → IsTrue (steps_whole (steps_of names old statements last)) → steps_of later new statements last ≡ steps_of names old statements last
  same_steps [] None whole = refl
  same_steps [] (Some id) whole = ap Tail (trees_kept id whole)
  same_steps (statement.Let pat id ∷ rest) last whole =
      same_let (names pat) (later pat) (old id) (new id) (steps_of names old rest last) (steps_of later new rest last) (names_kept pat) (trees_kept id) (same_steps rest last) whole
  same_steps (statement.Expr id ∷ rest) last whole =
      let both = and_parts (is_whole (old id)) (steps_whole (steps_of names old rest last)) whole in
      ap₂ Do (trees_kept id both.0) (same_steps rest last both.1)

  same_operands : (operands : List (Option Name × AsmOperand)) → IsTrue (operands_whole (operands_of old operands)) → operands_of new operands ≡ operands_of old operands
  same_operands [] whole = refl
  same_operands ((name, operand) ∷ rest) whole =
      let both = and_parts (all_whole (trees_of old (operand_exprs operand))) (operands_whole (operands_of old rest)) whole in
      ap₂ (Operand name (shape_of operand)) (same_trees (operand_exprs operand) both.0) (same_operands rest both.1)

  pub same_node : (e : Expr) → IsTrue (is_whole (node names old e)) → node later new e ≡ node names old e
  same_node expr.Missing whole = refl
  same_node (expr.Leaf n) whole = refl
  same_node (expr.Path name) whole = refl
  same_node (expr.LangPath item function) whole = refl
  same_node (expr.Literal l) whole = refl
  same_node (expr.Ref id) whole = ap Ref (trees_kept id whole)
  same_node (expr.Tuple ids) whole = ap Tuple (same_trees ids whole)
  same_node (expr.Field id name) whole = ap (λ t. Field t name) (trees_kept id whole)
  same_node (expr.Array ids) whole = ap Array (same_trees ids whole)
  same_node (expr.Call callee args) whole =
      let both = and_parts (is_whole (old callee)) (all_whole (trees_of old args)) whole in
      ap₂ Call (trees_kept callee both.0) (same_trees args both.1)
  same_node (expr.Block last is_unsafe statements) whole = ap (Block is_unsafe) (same_steps statements last whole)
  same_node (expr.InlineAsm assembly) whole = ap (InlineAsm assembly.kind assembly.options) (same_operands assembly.operands whole)

module _ (limit : ℕ) (names : PatId → Option Name) (tree_of : ExprId → Tree) (below : WholeBelow limit tree_of) where
  all_below : (ids : List ExprId) → IsTrue (all_whole (trees_of tree_of ids)) → AllBelow limit ids
  all_below [] whole = tt
  all_below (id ∷ ids) whole =
      let both = and_parts (is_whole (tree_of id)) (all_whole (trees_of tree_of ids)) whole in
      (below id both.0, all_below ids both.1)

  steps_below : (statements : List Statement) (last : Option ExprId) → IsTrue (steps_whole (steps_of names tree_of statements last)) → StepsBelow limit statements last
  steps_below [] None whole = tt
  steps_below [] (Some id) whole = below id whole
  steps_below (statement.Let pat id ∷ rest) last whole =
      let both = let_parts (names pat) (tree_of id) (steps_of names tree_of rest last) whole in
      (below id both.0, steps_below rest last both.1)
  steps_below (statement.Expr id ∷ rest) last whole =
      let both = and_parts (is_whole (tree_of id)) (steps_whole (steps_of names tree_of rest last)) whole in
      (below id both.0, steps_below rest last both.1)

  operands_below : (operands : List (Option Name × AsmOperand)) → IsTrue (operands_whole (operands_of tree_of operands)) → OperandsBelow limit operands
  operands_below [] whole = tt
  operands_below ((name, operand) ∷ rest) whole =
      let both = and_parts (all_whole (trees_of tree_of (operand_exprs operand))) (operands_whole (operands_of tree_of rest)) whole in
      (all_below (operand_exprs operand) both.0, operands_below rest both.1)

  -- a whole node names parts below the limit only
  pub node_below : (e : Expr) → IsTrue (is_whole (node names tree_of e)) → PartsBelow limit e
  node_below expr.Missing whole = tt
  node_below (expr.Leaf n) whole = tt
  node_below (expr.Path name) whole = tt
  node_below (expr.LangPath item function) whole = tt
  node_below (expr.Literal l) whole = tt
  node_below (expr.Ref id) whole = below id whole
  node_below (expr.Tuple ids) whole = all_below ids whole
  node_below (expr.Field id name) whole = below id whole
  node_below (expr.Array ids) whole = all_below ids whole
  node_below (expr.Call callee args) whole =
      let both = and_parts (is_whole (tree_of callee)) (all_whole (trees_of tree_of args)) whole in
      (below callee both.0, all_below args both.1)
  node_below (expr.Block last is_unsafe statements) whole = steps_below statements last whole
  node_below (expr.InlineAsm assembly) whole = operands_below assembly.operands whole
