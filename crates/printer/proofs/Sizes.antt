-- How large a tree is: a number that each of its parts has less of.
use Rattle.std.specs.Prelude.{ℕ, ◌+◌}
use Rattle.hir_store.specs.declared.expr.Statement.{Statement}
use Rattle.hir_store.specs.declared.expr.Statement.TheVariants as statement
use Rattle.hir_store.specs.declared.store.ExpressionStore.{ExpressionStore}
use Rattle.hir_store.specs.Unfolding.{tree_at}
use Rattle.hir_store.specs.Tree.{Tree, Trees, Steps, Bad, Missing, Leaf, Path, LangPath, Text, Bytes, Ref, Tuple, Field, Array, Call, Block, Empty, More, End, Tail, Let, Nameless, Do, InlineAsm, Operands, NoOperand, Operand}

-- how many expressions, statements and operands a tree has
abbrev mutual
  pub tree_size : Tree → ℕ
  tree_size Bad = 1
  tree_size Missing = 1
  tree_size (Leaf number) = 1
  tree_size (Path name) = 1
  tree_size (LangPath item function) = 1
  tree_size (Text bytes) = 1
  tree_size (Bytes bytes) = 1
  tree_size (Ref t) = tree_size t + 1
  tree_size (Tuple ts) = trees_size ts + 1
  tree_size (Field t name) = tree_size t + 1
  tree_size (Array ts) = trees_size ts + 1
  tree_size (Call callee ts) = tree_size callee + trees_size ts + 1
  tree_size (Block is_unsafe steps) = steps_size steps + 1
  tree_size (InlineAsm kind options operands) = operands_size operands + 1

  pub trees_size : Trees → ℕ
  trees_size Empty = 0
  trees_size (More t ts) = tree_size t + trees_size ts + 1

  pub steps_size : Steps → ℕ
  steps_size End = 0
  steps_size (Tail t) = tree_size t + 1
  steps_size (Let name t steps) = tree_size t + steps_size steps + 1
  steps_size (Nameless t steps) = tree_size t + steps_size steps + 1
  steps_size (Do t steps) = tree_size t + steps_size steps + 1

  pub operands_size : Operands → ℕ
  operands_size NoOperand = 0
  operands_size (Operand name shape ts operands) = trees_size ts + operands_size operands + 1

-- how large the tree of a statement is
abbrev pub statement_size : ExpressionStore → Statement → ℕ
statement_size store (statement.Let pat id) = tree_size (tree_at store id)
statement_size store (statement.Expr id) = tree_size (tree_at store id)
