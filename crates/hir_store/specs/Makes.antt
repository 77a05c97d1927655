-- What tree an expression makes of the trees that its parts stand for.
use Rattle.std.specs.Prelude.{◌≡◌, List, [], ◌∷◌, Option, Some, None, ⊤}
use Rattle.sym_core.specs.declared.name.Name.{Name}
use Rattle.hir_store.specs.declared.ids.ExprId.{ExprId}
use Rattle.hir_store.specs.declared.expr.Expr.{Expr}
use Rattle.hir_store.specs.declared.expr.Expr.TheVariants as expr
use Rattle.hir_store.specs.declared.expr.Statement.{Statement}
use Rattle.hir_store.specs.declared.expr.Statement.TheVariants as statement
use Rattle.hir_store.specs.declared.asm.AsmOperand.{AsmOperand}
use Rattle.hir_store.specs.declared.store.ExpressionStore.{ExpressionStore}
use Rattle.hir_store.specs.Tree.{Tree, Steps, Missing, Leaf, Path, LangPath, Ref, Tuple, Field, Array, Call, Block, InlineAsm, End, Tail, Let, Do, Operands, NoOperand, Operand}
use Rattle.hir_store.specs.Unfolding.{name_in, literal_tree, operand_exprs, shape_of}
use Rattle.hir_store.specs.Store.{Stands, AllStand}

-- a tail stands for the end of the steps
abbrev pub TailMakes : ExpressionStore → Option ExprId → Steps → Type 0
TailMakes store None End = ⊤
TailMakes store (Some id) (Tail t) = Stands store id t
TailMakes store last steps = ⊥

-- each statement makes its step, of what its expression stands for and the name that its pattern binds
abbrev pub StepsMake : ExpressionStore → List Statement → Option ExprId → Steps → Type 0
StepsMake store [] last steps = TailMakes store last steps
StepsMake store (statement.Let pat id ∷ rest) last (Let name t steps) = (name_in store pat ≡ Some name) × Stands store id t × StepsMake store rest last steps
StepsMake store (statement.Expr id ∷ rest) last (Do t steps) = Stands store id t × StepsMake store rest last steps
StepsMake store statements last steps = ⊥

-- each operand makes one of its name and its kind, of what its expressions stand for
abbrev pub OperandsMake : ExpressionStore → List (Option Name × AsmOperand) → Operands → Type 0
OperandsMake store [] NoOperand = ⊤
OperandsMake store ((name, operand) ∷ rest) (Operand other shape ts operands) = (other ≡ name) × (shape ≡ shape_of operand) × AllStand store (operand_exprs operand) ts × OperandsMake store rest operands
OperandsMake store asm operands = ⊥

-- the expression makes the tree, of the trees that its parts stand for
abbrev pub Makes : ExpressionStore → Expr → Tree → Type 0
Makes store expr.Missing t = t ≡ Missing
Makes store (expr.Leaf n) t = t ≡ Leaf n
Makes store (expr.Path name) t = t ≡ Path name
Makes store (expr.LangPath item function) t = t ≡ LangPath item function
Makes store (expr.Literal l) t = t ≡ literal_tree l
Makes store (expr.Ref id) (Ref t) = Stands store id t
Makes store (expr.Tuple ids) (Tuple ts) = AllStand store ids ts
Makes store (expr.Field id name) (Field t field) = Stands store id t × (field ≡ name)
Makes store (expr.Array ids) (Array ts) = AllStand store ids ts
Makes store (expr.Call callee args) (Call t ts) = Stands store callee t × AllStand store args ts
Makes store (expr.Block last is_unsafe statements) (Block b steps) = (b ≡ is_unsafe) × StepsMake store statements last steps
Makes store (expr.InlineAsm assembly) (InlineAsm kind options operands) = (kind ≡ assembly.kind) × (options ≡ assembly.options) × OperandsMake store assembly.operands operands
Makes store e t = ⊥
