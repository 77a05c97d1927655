-- The code of a format call in a store, where its arguments and its orphans are placed already.
use Rattle.std.specs.Prelude.{ℕ, ◌+◌, IsTrue, List, [], ◌∷◌, cond, map, Option}
use Rattle.sym_core.specs.declared.files.AstPtr.{AstPtr}
use Rattle.hir_store.specs.declared.ids.ExprId.{ExprId}
use Rattle.hir_store.specs.declared.store.ExpressionStore.{ExpressionStore}
use Rattle.hir_store.specs.Tree.{Tree}
use Rattle.hir_store.specs.Unfolding.{tree_at}
use Rattle.hir_build.specs.Frame.{Frame}
use Rattle.hir_build.specs.Origins.{Origin, origins_at}
use Rattle.hir_build.specs.Placed.{Placed}
use Rattle.hir_fmt.specs.declared.format_args.FormatArgs.{FormatArgs}
use Rattle.hir_fmt.specs.declared.format_args.FormatArgument.{FormatArgument}
use Rattle.template_bytes.specs.Canonical.{canonical_pieces}
use Rattle.template_bytes.specs.Spelling.{IsCanonical}
use Rattle.format_code.specs.Code.{has_placeholder, format_code}
use Rattle.hir_lower.specs.FormatOrigins.{format_origins}

-- the tree at each index, and the origins of each
abbrev pub trees_at_each : ExpressionStore → List ExprId → List Tree
trees_at_each store ids = map (tree_at store) ids

abbrev pub origins_at_each : ExpressionStore → List ExprId → List (List Origin)
origins_at_each store ids = map (origins_at store) ids

-- the indexes of arguments, and where each stands in the source
abbrev pub exprs_of : List FormatArgument → List ExprId
exprs_of args = map (λ (arg : FormatArgument). arg.expr) args

abbrev pub syntaxes_of : List FormatArgument → List (Option AstPtr)
syntaxes_of args = map (λ (arg : FormatArgument). arg.syntax) args

-- the trees of arguments, and their origins
abbrev pub trees_of_args : Frame → List FormatArgument → List Tree
trees_of_args frame args = trees_at_each frame.store (exprs_of args)

abbrev pub origins_of_args : Frame → List FormatArgument → List (List Origin)
origins_of_args frame args = origins_at_each frame.store (exprs_of args)

-- the fresh name that is next behind a template over arguments: where there are some, they are bound to one
abbrev pub fresh_with : ℕ → List FormatArgument → ℕ
fresh_with fresh [] = fresh
fresh_with fresh (arg ∷ args) = fresh + 1

-- the fresh name that is next behind a call: a text binds nothing
abbrev pub fresh_behind : ℕ → FormatArgs → ℕ
fresh_behind fresh call = cond (has_placeholder (canonical_pieces call.template)) (fresh_with fresh call.arguments.arguments) fresh

-- an index stands for the code of a call at this pointer, whose arguments and orphans were placed before;
-- the bytes in it are the template's, where it has a placeholder
pub record IsCodeOf (old : Frame) (store : ExpressionStore) (ptr : AstPtr) (call : FormatArgs) (id : ExprId) : Type 0 where
  pub bytes : List ℕ
  pub canonical : IsTrue (has_placeholder (canonical_pieces call.template)) → IsCanonical bytes (canonical_pieces call.template)
  pub placed : Placed store id
      (format_code old.items old.fresh (trees_of_args old call.arguments.arguments) bytes (canonical_pieces call.template) (trees_at_each old.store call.orphans))
      (format_origins old.file old.items ptr (syntaxes_of call.arguments.arguments) (origins_of_args old call.arguments.arguments) (origins_at_each old.store call.orphans) (canonical_pieces call.template))
