-- What stands in a store, and where it comes from.
use Rattle.std.specs.Prelude.{◌≡◌, ◌<◌, List, [], ◌∷◌, ◌++◌, length, Option, Some, ⊤}
use Rattle.la_arena.specs.Idx.{number_of}
use Rattle.sym_core.specs.declared.name.Name.{Name}
use Rattle.hir_store.specs.declared.ids.ExprId.{ExprId}
use Rattle.hir_store.specs.declared.ids.PatId.{PatId}
use Rattle.hir_store.specs.declared.expr.Expr.{Expr}
use Rattle.hir_store.specs.declared.expr.Expr.TheVariants as expr
use Rattle.hir_store.specs.declared.expr.Statement.{Statement}
use Rattle.hir_store.specs.declared.expr.Statement.TheVariants as statement
use Rattle.hir_store.specs.declared.asm.AsmOperand.{AsmOperand}
use Rattle.hir_store.specs.declared.store.ExpressionStore.{ExpressionStore}
use Rattle.hir_store.specs.Tree.{Tree, Trees, Steps, Operands, Empty, More, Ref}
use Rattle.hir_store.specs.Unfolding.{place_of, name_in}
use Rattle.hir_store.specs.PartsBelow.{TailBelow, PartsBelow}
use Rattle.hir_store.specs.Store.{Stands, AllStand}
use Rattle.hir_store.specs.Makes.{StepsMake, OperandsMake}
use Rattle.hir_build.specs.Origins.{Origin, bare, all_origins, steps_origins, operands_origins, origins_at}

-- an index stands for this whole tree, and the expressions of it have these origins, in preorder
pub record Placed (store : ExpressionStore) (id : ExprId) (tree : Tree) (origins : List Origin) : Type 0 where
  pub stands : Stands store id tree
  pub comes : origins_at store id ≡ origins

-- each index stands for the tree beside it, and these are the origins of all of them
pub record AllPlaced (store : ExpressionStore) (ids : List ExprId) (trees : Trees) (origins : List Origin) : Type 0 where
  pub stand : AllStand store ids trees
  pub come : all_origins (origins_at store) ids ≡ origins

-- the statements with this tail make these steps, and these are the origins of all of them
pub record StepsPlaced (store : ExpressionStore) (statements : List Statement) (tail : ExprId) (steps : Steps) (origins : List Origin) : Type 0 where
  pub make : StepsMake store statements (Some tail) steps
  pub come : steps_origins (origins_at store) statements (Some tail) ≡ origins

-- the operands stand for those of the tree, and these are the origins of all their expressions
pub record OperandsPlaced (store : ExpressionStore) (operands : List (Option Name × AsmOperand)) (made : Operands) (origins : List Origin) : Type 0 where
  pub make : OperandsMake store operands made
  pub come : operands_origins (origins_at store) operands ≡ origins

-- the statement is a `let` that binds the name to a value that is placed
pub record IsLet (store : ExpressionStore) (s : Statement) (name : Name) (tree : Tree) (origins : List Origin) : Type 0 where
  pub pat : PatId
  pub value : ExprId
  pub is : s ≡ statement.Let pat value
  pub binds : name_in store pat ≡ Some name
  pub placed : Placed store value tree origins

-- the ids of a statement are in the store
abbrev pub StatementIn : ExpressionStore → Statement → Type 0
StatementIn store (statement.Let pat id) = (number_of pat.raw < length store.pats) × (place_of id < length store.exprs)
StatementIn store (statement.Expr id) = place_of id < length store.exprs

-- the ids of each statement are in the store
abbrev pub StatementsIn : ExpressionStore → List Statement → Type 0
StatementsIn store [] = ⊤
StatementsIn store (s ∷ statements) = StatementIn store s × StatementsIn store statements

-- the ids that an expression names are in the store
abbrev pub PartsIn : ExpressionStore → Expr → Type 0
PartsIn store (expr.Block last is_unsafe statements) = StatementsIn store statements × TailBelow (length store.exprs) last
PartsIn store e = PartsBelow (length store.exprs) e

-- a reference to each of these trees
abbrev pub reference_trees : (ExprId → Tree) → List ExprId → Trees
reference_trees tree_of [] = Empty
reference_trees tree_of (id ∷ ids) = More (Ref (tree_of id)) (reference_trees tree_of ids)

-- the origins of these references, which stand nowhere in the source
abbrev pub reference_origins : (ExprId → List Origin) → List ExprId → List Origin
reference_origins origins_of [] = []
reference_origins origins_of (id ∷ ids) = (bare ∷ origins_of id) ++ reference_origins origins_of ids
