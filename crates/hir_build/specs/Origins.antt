-- Where code comes from in the source: one origin for each expression of its tree, in preorder.
use Rattle.std.specs.Prelude.{ℕ, List, [], ◌∷◌, ◌++◌, nat_eq, cond, reverse, length, Option, Some, None}
use Rattle.sym_core.specs.declared.files.AstPtr.{AstPtr}
use Rattle.sym_core.specs.declared.files.HirFileId.{HirFileId}
use Rattle.sym_core.specs.declared.files.InFile.{InFile}
use Rattle.sym_core.specs.declared.name.Name.{Name}
use Rattle.hir_store.specs.declared.ids.ExprId.{ExprId}
use Rattle.hir_store.specs.declared.asm.AsmOperand.{AsmOperand}
use Rattle.hir_store.specs.declared.expr.Expr.{Expr}
use Rattle.hir_store.specs.declared.expr.Expr.TheVariants as expr
use Rattle.hir_store.specs.declared.expr.Statement.{Statement}
use Rattle.hir_store.specs.declared.expr.Statement.TheVariants as statement
use Rattle.hir_store.specs.declared.source.CaptureSource.{CaptureSource}
use Rattle.hir_store.specs.declared.store.ExpressionStore.{ExpressionStore}
use Rattle.hir_store.specs.Entries.{entry_at}
use Rattle.hir_store.specs.Unfolding.{place_of, operand_exprs}

-- the source of an expression, and where a format call captures it
pub record Origin : Type 0 where
  pub source : Option (InFile AstPtr)
  pub capture : Option (InFile CaptureSource)

-- an expression that stands nowhere in the source
abbrev pub bare : Origin
bare = record { source = None; capture = None }

-- a value in a file, where there is one
abbrev pub in_file : {A : Type 0} → HirFileId → Option A → Option (InFile A)
in_file file None = None
in_file file (Some value) = Some (record { file_id = file; value = value })

-- an expression that stands at a pointer of a file, where there is one
abbrev pub from_source : HirFileId → Option AstPtr → Origin
from_source file ptr = record { source = in_file file ptr; capture = None }

-- what the maps hold at a number
abbrev pub origin_at : ExpressionStore → ℕ → Origin
origin_at store number = record { source = entry_at store.expr_map_back number; capture = entry_at store.implicit_capture_to_source number }

-- the origins of indexes in a row
abbrev pub all_origins : (ExprId → List Origin) → List ExprId → List Origin
all_origins origins_of [] = []
all_origins origins_of (id ∷ ids) = origins_of id ++ all_origins origins_of ids

-- the origins of a tail, where there is one
abbrev pub tail_origins : (ExprId → List Origin) → Option ExprId → List Origin
tail_origins origins_of None = []
tail_origins origins_of (Some id) = origins_of id

-- the origins of the statements of a block and of its tail
abbrev pub steps_origins : (ExprId → List Origin) → List Statement → Option ExprId → List Origin
steps_origins origins_of [] last = tail_origins origins_of last
steps_origins origins_of (statement.Let pat id ∷ rest) last = origins_of id ++ steps_origins origins_of rest last
steps_origins origins_of (statement.Expr id ∷ rest) last = origins_of id ++ steps_origins origins_of rest last

-- the origins of the operands of inline assembly, those of its expressions in their order
abbrev pub operands_origins : (ExprId → List Origin) → List (Option Name × AsmOperand) → List Origin
operands_origins origins_of [] = []
operands_origins origins_of ((name, operand) ∷ operands) = all_origins origins_of (operand_exprs operand) ++ operands_origins origins_of operands

-- the origins of the parts of an expression, one part behind the other
abbrev pub node_origins : (ExprId → List Origin) → Expr → List Origin
node_origins origins_of expr.Missing = []
node_origins origins_of (expr.Leaf n) = []
node_origins origins_of (expr.Path name) = []
node_origins origins_of (expr.LangPath item function) = []
node_origins origins_of (expr.Literal l) = []
node_origins origins_of (expr.Ref id) = origins_of id
node_origins origins_of (expr.Tuple ids) = all_origins origins_of ids
node_origins origins_of (expr.Field id name) = origins_of id
node_origins origins_of (expr.Array ids) = all_origins origins_of ids
node_origins origins_of (expr.Call callee args) = origins_of callee ++ all_origins origins_of args
node_origins origins_of (expr.Block last is_unsafe statements) = steps_origins origins_of statements last
node_origins origins_of (expr.InlineAsm assembly) = operands_origins origins_of assembly.operands

-- the origins of an index in a list of expressions, the newest first: its own in front of those of its parts
abbrev pub origins_in : ExpressionStore → List Expr → ExprId → List Origin
origins_in store [] id = []
origins_in store (e ∷ older) id = cond (nat_eq (place_of id) (length older)) (origin_at store (place_of id) ∷ node_origins (origins_in store older) e) (origins_in store older id)

-- the origins of the tree that an index of the store unfolds to
abbrev pub origins_at : ExpressionStore → ExprId → List Origin
origins_at store id = origins_in store (reverse store.exprs) id

-- the origins of the parts of an expression over a store
abbrev pub origins_over : ExpressionStore → Expr → List Origin
origins_over store e = node_origins (origins_at store) e
