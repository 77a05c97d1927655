-- An index of the store unfolds to a tree: the expression there, each of its parts unfolded among the older ones.
use Rattle.std.specs.Prelude.{ℕ, List, [], ◌∷◌, nat_eq, cond, reverse, length, Option, Some, None, slice_get, option_map}
use Rattle.la_arena.specs.Idx.{number_of}
use Rattle.sym_core.specs.declared.name.Name.{Name}
use Rattle.hir_store.specs.declared.ids.ExprId.{ExprId}
use Rattle.hir_store.specs.declared.ids.PatId.{PatId}
use Rattle.hir_store.specs.declared.ids.BindingId.{BindingId}
use Rattle.hir_store.specs.declared.expr.Expr.{Expr}
use Rattle.hir_store.specs.declared.expr.Expr.TheVariants as expr
use Rattle.hir_store.specs.declared.expr.Literal.{Literal}
use Rattle.hir_store.specs.declared.expr.Literal.TheVariants as literal
use Rattle.hir_store.specs.declared.expr.Statement.{Statement}
use Rattle.hir_store.specs.declared.expr.Statement.TheVariants as statement
use Rattle.hir_store.specs.declared.asm.AsmOperand.{AsmOperand}
use Rattle.hir_store.specs.declared.asm.AsmOperand.TheVariants as asm
use Rattle.hir_store.specs.declared.pat.Pat.{Pat}
use Rattle.hir_store.specs.declared.pat.Pat.TheVariants.{Bind}
use Rattle.hir_store.specs.declared.pat.Binding.{Binding}
use Rattle.hir_store.specs.declared.store.ExpressionStore.{ExpressionStore}
use Rattle.hir_store.specs.Tree.{Tree, Trees, Steps, Bad, Missing, Leaf, Path, LangPath, Text, Bytes, Ref, Tuple, Field, Array, Call, Block, InlineAsm, Empty, More, End, Tail, Let, Nameless, Do, Shape, In, Out, InOut, SplitInOut, Label, Const, Sym, Operands, NoOperand, Operand}

-- the place of an expression
abbrev pub place_of : ExprId → ℕ
place_of id = number_of id.raw

-- the name that a list of bindings has at a place
abbrev pub binding_name : List Binding → BindingId → Option Name
binding_name bindings id = option_map (λ (b : Binding). b.name) (slice_get bindings (number_of id.raw))

-- the name that a pattern binds, where there is one
abbrev pub bound_name : List Binding → Option Pat → Option Name
bound_name bindings (Some (Bind id)) = binding_name bindings id
bound_name bindings None = None

-- the name that a pattern of the store binds
abbrev pub name_in : ExpressionStore → PatId → Option Name
name_in store id = bound_name store.bindings (slice_get store.pats (number_of id.raw))

-- the trees of indexes in a row
abbrev pub trees_of : (ExprId → Tree) → List ExprId → Trees
trees_of tree_of [] = Empty
trees_of tree_of (id ∷ ids) = More (tree_of id) (trees_of tree_of ids)

-- a `let` of this name, where it binds one
abbrev pub let_step : Option Name → Tree → Steps → Steps
let_step (Some name) t steps = Let name t steps
let_step None t steps = Nameless t steps

-- the end of a block, with its tail where it has one
abbrev pub tail_step : (ExprId → Tree) → Option ExprId → Steps
tail_step tree_of (Some id) = Tail (tree_of id)
tail_step tree_of None = End

-- the steps of a block, given what its patterns bind and the trees of its parts
abbrev pub steps_of : (PatId → Option Name) → (ExprId → Tree) → List Statement → Option ExprId → Steps
steps_of names tree_of [] last = tail_step tree_of last
steps_of names tree_of (statement.Let pat id ∷ rest) last = let_step (names pat) (tree_of id) (steps_of names tree_of rest last)
steps_of names tree_of (statement.Expr id ∷ rest) last = Do (tree_of id) (steps_of names tree_of rest last)

-- the tree of a literal
abbrev pub literal_tree : Literal → Tree
literal_tree (literal.String text) = Text text
literal_tree (literal.ByteString bytes) = Bytes bytes

-- an expression in a row, where there is one
abbrev pub row_of : Option ExprId → List ExprId
row_of None = []
row_of (Some id) = id ∷ []

-- the expressions of an operand, in their order
abbrev pub operand_exprs : AsmOperand → List ExprId
operand_exprs (asm.In reg id) = id ∷ []
operand_exprs (asm.Out reg id late) = row_of id
operand_exprs (asm.InOut reg id late) = id ∷ []
operand_exprs (asm.SplitInOut reg in_id out_id late) = in_id ∷ row_of out_id
operand_exprs (asm.Label id) = id ∷ []
operand_exprs (asm.Const id) = id ∷ []
operand_exprs (asm.Sym name) = []

-- what an operand is, its expressions aside
abbrev pub shape_of : AsmOperand → Shape
shape_of (asm.In reg id) = In reg
shape_of (asm.Out reg id late) = Out reg late
shape_of (asm.InOut reg id late) = InOut reg late
shape_of (asm.SplitInOut reg in_id out_id late) = SplitInOut reg late
shape_of (asm.Label id) = Label
shape_of (asm.Const id) = Const
shape_of (asm.Sym name) = Sym name

-- the operands of inline assembly, given the trees of its parts
abbrev pub operands_of : (ExprId → Tree) → List (Option Name × AsmOperand) → Operands
operands_of tree_of [] = NoOperand
operands_of tree_of ((name, operand) ∷ operands) = Operand name (shape_of operand) (trees_of tree_of (operand_exprs operand)) (operands_of tree_of operands)

-- the tree of an expression, given what its patterns bind and the trees of its parts
abbrev pub node : (PatId → Option Name) → (ExprId → Tree) → Expr → Tree
node names tree_of expr.Missing = Missing
node names tree_of (expr.Leaf n) = Leaf n
node names tree_of (expr.Path name) = Path name
node names tree_of (expr.LangPath item function) = LangPath item function
node names tree_of (expr.Literal l) = literal_tree l
node names tree_of (expr.Ref id) = Ref (tree_of id)
node names tree_of (expr.Tuple ids) = Tuple (trees_of tree_of ids)
node names tree_of (expr.Field id name) = Field (tree_of id) name
node names tree_of (expr.Array ids) = Array (trees_of tree_of ids)
node names tree_of (expr.Call callee args) = Call (tree_of callee) (trees_of tree_of args)
node names tree_of (expr.Block last is_unsafe statements) = Block is_unsafe (steps_of names tree_of statements last)
node names tree_of (expr.InlineAsm assembly) = InlineAsm assembly.kind assembly.options (operands_of tree_of assembly.operands)

-- the tree of an index in a list of expressions, the newest first
abbrev pub tree_in : (PatId → Option Name) → List Expr → ExprId → Tree
tree_in names [] id = Bad
tree_in names (e ∷ older) id = cond (nat_eq (place_of id) (length older)) (node names (tree_in names older) e) (tree_in names older id)

-- the tree that an index of the store unfolds to
abbrev pub tree_at : ExpressionStore → ExprId → Tree
tree_at store id = tree_in (name_in store) (reverse store.exprs) id

-- the tree of an expression over a store
abbrev pub tree_over : ExpressionStore → Expr → Tree
tree_over store e = node (name_in store) (tree_at store) e
