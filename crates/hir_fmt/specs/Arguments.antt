-- The arguments of a format call, as they are added one after the other.
use Rattle.std.specs.Prelude.{◌≡◌, ℕ, ◌+◌, ◌≤◌, ◌<◌, List, [], ◌∷◌, ◌++◌, length, take, slice_range, ⊤}
use Rattle.std.specs.Coded.{Coded}
use Rattle.std.specs.List.{All}
use Rattle.sym_core.specs.declared.name.Name.{Name}
use Rattle.hir_fmt.specs.contracts.format_args.FormatArguments.{the_row}
use Rattle.hir_fmt.specs.declared.format_args.FormatArgument.{FormatArgument}
use Rattle.hir_fmt.specs.declared.format_args.FormatArguments.{FormatArguments}
use Rattle.hir_fmt.specs.declared.format_args.FormatArgumentKind.{FormatArgumentKind}
use Rattle.hir_fmt.specs.declared.format_args.FormatArgumentKind.TheVariants.{Normal, Named, Captured}

-- how arguments are stored
abbrev pub arguments_code : Coded FormatArguments
arguments_code = the_row.coded

-- no arguments
abbrev pub no_arguments : FormatArguments
no_arguments = record { arguments = []; num_unnamed_args = 0; num_explicit_args = 0; names = [] }

-- one for an argument that is written, and none for one that the text captures
abbrev pub explicit_count : FormatArgumentKind → ℕ
explicit_count Normal = 1
explicit_count (Named name) = 1
explicit_count (Captured name) = 0

-- one for an argument that bears no name, as none in front of it does
abbrev pub unnamed_count : List (Name × ℕ) → FormatArgumentKind → ℕ
unnamed_count [] Normal = 1
unnamed_count [] (Named name) = 0
unnamed_count [] (Captured name) = 0
unnamed_count (first ∷ more) kind = 0

-- the name of an argument with its place, if it bears one
abbrev pub listed : FormatArgumentKind → ℕ → List (Name × ℕ)
listed Normal place = []
listed (Named name) place = (name, place) ∷ []
listed (Captured name) place = (name, place) ∷ []

-- arguments with one more behind them
abbrev pub with_argument : FormatArguments → FormatArgument → FormatArguments
with_argument args arg = record {
  arguments = args.arguments ++ arg ∷ [];
  num_unnamed_args = args.num_unnamed_args + unnamed_count args.names arg.kind;
  num_explicit_args = args.num_explicit_args + explicit_count arg.kind;
  names = args.names ++ listed arg.kind (length args.arguments);
}

-- those that are written
abbrev pub explicit_of : FormatArguments → List FormatArgument
explicit_of args = take args.num_explicit_args args.arguments

-- those in front of the first that bears a name
abbrev pub unnamed_of : FormatArguments → List FormatArgument
unnamed_of args = take args.num_unnamed_args args.arguments

-- those that are written, from the first that bears a name on
abbrev pub named_of : FormatArguments → List FormatArgument
named_of args = slice_range args.arguments args.num_unnamed_args args.num_explicit_args

-- all so far are written
abbrev pub AreExplicit : FormatArguments → Type 0
AreExplicit args = args.num_explicit_args ≡ length args.arguments

-- an argument of this kind may be added: one that is written asks that all so far are
abbrev pub MayFollow : FormatArguments → FormatArgumentKind → Type 0
MayFollow args Normal = AreExplicit args
MayFollow args (Named name) = AreExplicit args
MayFollow args (Captured name) = ⊤

-- the counts and the places lie within the arguments
pub record AreWithin (args : FormatArguments) : Type 0 where
  pub unnamed : args.num_unnamed_args ≤ args.num_explicit_args
  pub explicit : args.num_explicit_args ≤ length args.arguments
  pub places : All (λ (entry : Name × ℕ). entry.1 < length args.arguments) args.names
