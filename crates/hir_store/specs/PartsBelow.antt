-- Which parts an expression names.
use Rattle.std.specs.Prelude.{ℕ, ◌<◌, List, [], ◌∷◌, Option, Some, None, ⊤}
use Rattle.sym_core.specs.declared.name.Name.{Name}
use Rattle.hir_store.specs.declared.ids.ExprId.{ExprId}
use Rattle.hir_store.specs.declared.expr.Expr.{Expr}
use Rattle.hir_store.specs.declared.expr.Expr.TheVariants as expr
use Rattle.hir_store.specs.declared.expr.Statement.{Statement}
use Rattle.hir_store.specs.declared.expr.Statement.TheVariants as statement
use Rattle.hir_store.specs.declared.asm.AsmOperand.{AsmOperand}
use Rattle.hir_store.specs.Unfolding.{place_of, operand_exprs}

-- each index is lower than the limit
abbrev pub AllBelow : ℕ → List ExprId → Type 0
AllBelow limit [] = ⊤
AllBelow limit (id ∷ ids) = (place_of id < limit) × AllBelow limit ids

-- the index of a tail, where there is one, is lower than the limit
abbrev pub TailBelow : ℕ → Option ExprId → Type 0
TailBelow limit None = ⊤
TailBelow limit (Some id) = place_of id < limit

-- each index in the statements and in the tail is lower than the limit
abbrev pub StepsBelow : ℕ → List Statement → Option ExprId → Type 0
StepsBelow limit [] last = TailBelow limit last
StepsBelow limit (statement.Let pat id ∷ rest) last = (place_of id < limit) × StepsBelow limit rest last
StepsBelow limit (statement.Expr id ∷ rest) last = (place_of id < limit) × StepsBelow limit rest last

-- each index in the operands is lower than the limit
abbrev pub OperandsBelow : ℕ → List (Option Name × AsmOperand) → Type 0
OperandsBelow limit [] = ⊤
OperandsBelow limit ((name, operand) ∷ operands) = AllBelow limit (operand_exprs operand) × OperandsBelow limit operands

-- each index that the expression names is lower than the limit
abbrev pub PartsBelow : ℕ → Expr → Type 0
PartsBelow limit expr.Missing = ⊤
PartsBelow limit (expr.Leaf n) = ⊤
PartsBelow limit (expr.Path name) = ⊤
PartsBelow limit (expr.LangPath item function) = ⊤
PartsBelow limit (expr.Literal l) = ⊤
PartsBelow limit (expr.Ref id) = place_of id < limit
PartsBelow limit (expr.Tuple ids) = AllBelow limit ids
PartsBelow limit (expr.Field id name) = place_of id < limit
PartsBelow limit (expr.Array ids) = AllBelow limit ids
PartsBelow limit (expr.Call callee args) = (place_of callee < limit) × AllBelow limit args
PartsBelow limit (expr.Block last is_unsafe statements) = StepsBelow limit statements last
PartsBelow limit (expr.InlineAsm assembly) = OperandsBelow limit assembly.operands
