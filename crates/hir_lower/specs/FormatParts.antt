-- Parts of the code of a format call, while it is built.
use Rattle.std.specs.Prelude.{◌≡◌, ℕ, false, List, [], ◌∷◌, Some}
use Rattle.sym_core.specs.declared.files.AstPtr.{AstPtr}
use Rattle.sym_core.specs.declared.name.Name.TheVariants as name
use Rattle.hir_store.specs.declared.ids.ExprId.{ExprId}
use Rattle.hir_store.specs.declared.expr.Statement.{Statement}
use Rattle.hir_store.specs.declared.expr.Statement.TheVariants as statement
use Rattle.hir_store.specs.declared.lang_item.LangFn.TheVariants.{New}
use Rattle.hir_store.specs.declared.lang_item.LangItem.TheVariants.{FormatArguments}
use Rattle.hir_store.specs.declared.lang_item.LangItems.{LangItems}
use Rattle.hir_store.specs.declared.store.ExpressionStore.{ExpressionStore}
use Rattle.hir_store.specs.Tree.{Tree, Bytes, Ref, Tuple, Array, Call, Block, Empty, More}
use Rattle.hir_build.specs.Frame.{Frame}
use Rattle.hir_build.specs.Origins.{Origin, from_source}
use Rattle.hir_build.specs.Placed.{IsLet}
use Rattle.hir_fmt.specs.declared.format_args.FormatArgs.{FormatArgs}
use Rattle.hir_fmt.specs.declared.format_args.FormatArgument.{FormatArgument}
use Rattle.template_bytes.specs.Pairs.{Pair}
use Rattle.format_code.specs.Code.{callee, references, elements, behind_statements, let_steps, with_arguments}
use Rattle.hir_lower.specs.FormatOrigins.{tuple_origins, array_origins, behind_origins, let_origins, with_arguments_origins}
use Rattle.hir_lower.specs.FormatArgs.{trees_at_each, origins_at_each, syntaxes_of, trees_of_args, origins_of_args}

-- where the code of a call at this pointer stands
abbrev pub call_origin : Frame → AstPtr → Origin
call_origin frame ptr = from_source frame.file (Some ptr)

-- each index as a statement
abbrev pub expr_statements : List ExprId → List Statement
expr_statements [] = []
expr_statements (id ∷ ids) = statement.Expr id ∷ expr_statements ids

-- a tail behind expressions as statements: its tree, and its origins in the code of a call at this pointer
abbrev pub tree_behind : Frame → List ExprId → Tree → Tree
tree_behind frame ids tail = behind_statements (trees_at_each frame.store ids) tail

abbrev pub origins_behind : Frame → AstPtr → List ExprId → List Origin → List Origin
origins_behind frame ptr ids tail = behind_origins (call_origin frame ptr) (origins_at_each frame.store ids) tail

-- `Arguments::new(BYTES, &LIST)`
abbrev pub new_call : LangItems → List ℕ → Tree → Tree
new_call items bytes list = Call (callee items FormatArguments New) (More (Bytes bytes) (More (Ref list) Empty))

-- statements are `let #n = (&ARG, ..);` and `let #n = [Argument::FUNCTION(#n.PLACE), ..];`
pub record AreLets (old : Frame) (store : ExpressionStore) (statements : List Statement) (n : ℕ) (args : List FormatArgument) (pairs : List Pair) : Type 0 where
  pub tuple : Statement
  pub array : Statement
  pub are : statements ≡ tuple ∷ array ∷ []
  pub binds_tuple : IsLet store tuple (name.Fresh n) (Tuple (references (trees_of_args old args))) (tuple_origins (origins_of_args old args))
  pub binds_array : IsLet store array (name.Fresh n) (Array (elements old.items n pairs)) (array_origins old.file old.items (syntaxes_of args) pairs)

-- the block of a call with arguments: the `let`s, the orphans and the template
abbrev pub block_tree : Frame → FormatArgs → List ℕ → List Pair → Tree
block_tree old call bytes pairs =
    Block false (let_steps old.items old.fresh (trees_of_args old call.arguments.arguments) pairs bytes (trees_at_each old.store call.orphans))

abbrev pub block_origins : Frame → AstPtr → FormatArgs → List Pair → List Origin
block_origins old ptr call pairs =
    let_origins (call_origin old ptr) old.file old.items (syntaxes_of call.arguments.arguments) (origins_of_args old call.arguments.arguments) (origins_at_each old.store call.orphans) pairs

-- the same, or without arguments the template alone, behind the orphans
abbrev pub template_tree : Frame → FormatArgs → List ℕ → List Pair → Tree
template_tree old call bytes pairs =
    with_arguments old.items old.fresh (trees_of_args old call.arguments.arguments) pairs bytes (trees_at_each old.store call.orphans)

abbrev pub template_origins : Frame → AstPtr → FormatArgs → List Pair → List Origin
template_origins old ptr call pairs =
    with_arguments_origins (call_origin old ptr) old.file old.items (syntaxes_of call.arguments.arguments) (origins_of_args old call.arguments.arguments) (origins_at_each old.store call.orphans) pairs
