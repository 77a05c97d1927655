-- Which arguments a finished template refers to.
use Rattle.std.specs.Prelude.{ℕ, ◌+◌, Bool, true, false, List, [], ◌∷◌, ◌++◌, Option, Some, None, Ok, Err, slice_set}
use Rattle.std.specs.declared.result.Result.{Result}
use Rattle.either.specs.declared.Either.{Either}
use Rattle.sym_core.specs.declared.name.Name.{Name}
use Rattle.hir_store.specs.declared.ids.ExprId.{ExprId}
use Rattle.hir_fmt.specs.declared.format_args.FormatCount.{FormatCount}
use Rattle.hir_fmt.specs.declared.format_args.FormatCount.TheVariants.{Literal as Written, Argument}
use Rattle.hir_fmt.specs.declared.format_args.FormatArgument.{FormatArgument}
use Rattle.hir_fmt.specs.declared.format_args.FormatArgsPiece.{FormatArgsPiece}
use Rattle.hir_fmt.specs.declared.format_args.FormatArgsPiece.TheVariants.{Literal, Placeholder}

-- the place that a reference was resolved to, if it was
abbrev pub resolved : Result ℕ (Either ℕ Name) → List ℕ
resolved (Ok place) = place ∷ []
resolved (Err wanted) = []

abbrev pub resolved_count : Option FormatCount → List ℕ
resolved_count None = []
resolved_count (Some (Written n)) = []
resolved_count (Some (Argument position)) = resolved position.index

-- the places that a piece of a template refers to: those of its value, its precision and its width
abbrev pub resolved_in : FormatArgsPiece → List ℕ
resolved_in (Literal text) = []
resolved_in (Placeholder p) = resolved p.argument.index ++ (resolved_count p.format_options.precision ++ resolved_count p.format_options.width)

-- the places that a template refers to
abbrev pub resolved_all : List FormatArgsPiece → List ℕ
resolved_all [] = []
resolved_all (piece ∷ pieces) = resolved_in piece ++ resolved_all pieces

-- marks with those at these places set
abbrev pub marked : List ℕ → List Bool → List Bool
marked [] marks = marks
marked (place ∷ places) marks = marked places (slice_set marks place true)

-- the expressions of the arguments that are not marked
abbrev pub unmarked : List Bool → List FormatArgument → List ExprId
unmarked [] args = []
unmarked (mark ∷ marks) [] = []
unmarked (true ∷ marks) (arg ∷ args) = unmarked marks args
unmarked (false ∷ marks) (arg ∷ args) = arg.expr ∷ unmarked marks args
