-- The names that arguments bear.
use Rattle.std.specs.Prelude.{Option, Some, None}
use Rattle.sym_core.specs.declared.name.Name.{Name}
use Rattle.hir_fmt.specs.declared.format_args.FormatArgumentKind.{FormatArgumentKind}
use Rattle.hir_fmt.specs.declared.format_args.FormatArgumentKind.TheVariants.{Normal, Named, Captured}

-- the name that an argument of this kind bears, if it bears one
abbrev pub name_of : FormatArgumentKind → Option Name
name_of Normal = None
name_of (Named name) = Some name
name_of (Captured name) = Some name
