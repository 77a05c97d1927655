-- The written arguments of a call, once they are placed.
use Rattle.std.specs.Prelude.{◌≡◌, ℕ, List, [], ◌∷◌, length, map, Option, Some, None}
use Rattle.sym_core.specs.declared.files.AstPtr.{AstPtr}
use Rattle.sym_core.specs.declared.files.HirFileId.{HirFileId}
use Rattle.sym_core.specs.declared.name.Name.TheVariants.{Text}
use Rattle.syn_trees.specs.declared.format_call.FormatArgSyntax.{FormatArgSyntax}
use Rattle.syn_trees.specs.declared.format_call.LeafSyntax.{LeafSyntax}
use Rattle.hir_store.specs.declared.store.ExpressionStore.{ExpressionStore}
use Rattle.hir_store.specs.PartsBelow.{AllBelow}
use Rattle.hir_build.specs.Origins.{Origin, from_source}
use Rattle.hir_build.specs.Placed.{Placed}
use Rattle.hir_fmt.specs.declared.format_args.FormatArgument.{FormatArgument}
use Rattle.hir_fmt.specs.declared.format_args.FormatArgumentKind.{FormatArgumentKind}
use Rattle.hir_fmt.specs.declared.format_args.FormatArgumentKind.TheVariants.{Normal, Named}
use Rattle.hir_fmt.specs.declared.format_args.FormatArguments.{FormatArguments}
use Rattle.hir_lower.specs.FormatArgs.{exprs_of, syntaxes_of, trees_at_each, origins_at_each}
use Rattle.format_code.specs.FormatCall.{names_from}
use Rattle.format_code.specs.CallCode.{written_tree}

-- where the expression of a written argument stands, where it is there
abbrev pub leaf_syntax : Option LeafSyntax → Option AstPtr
leaf_syntax None = None
leaf_syntax (Some leaf) = Some leaf.ptr

abbrev pub written_syntax : FormatArgSyntax → Option AstPtr
written_syntax arg = leaf_syntax arg.expr

-- the origin of the expression of a written argument
abbrev pub written_origins : HirFileId → FormatArgSyntax → List Origin
written_origins file arg = from_source file (written_syntax arg) ∷ []

-- these are the written arguments of a call, each placed in the store
pub record AreWritten (store : ExpressionStore) (file : HirFileId) (written : List FormatArgSyntax) (args : FormatArguments) : Type 0 where
  pub explicit : args.num_explicit_args ≡ length written
  pub count : length args.arguments ≡ length written
  pub names : args.names ≡ names_from 0 written
  pub syntaxes : syntaxes_of args.arguments ≡ map written_syntax written
  pub within : AllBelow (length store.exprs) (exprs_of args.arguments)
  pub trees : trees_at_each store (exprs_of args.arguments) ≡ map written_tree written
  pub origins : origins_at_each store (exprs_of args.arguments) ≡ map (written_origins file) written

-- how a call brings an argument that is written with this name, or with none
abbrev pub kind_for : Option (List ℕ) → FormatArgumentKind
kind_for None = Normal
kind_for (Some name) = Named (Text name)

-- an argument is that which is written so, placed in the store
pub record IsWritten (store : ExpressionStore) (file : HirFileId) (written : FormatArgSyntax) (arg : FormatArgument) : Type 0 where
  pub kind : arg.kind ≡ kind_for written.name
  pub syntax : arg.syntax ≡ written_syntax written
  pub placed : Placed store arg.expr (written_tree written) (written_origins file written)
