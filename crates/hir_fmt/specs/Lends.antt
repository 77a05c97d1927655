-- What a collector ends as, where a `&mut` to its arguments is returned.
use Rattle.std.specs.Prelude.{List, length}
use Rattle.std.specs.List.{refill}
use Rattle.std.specs.Borrow.{follows, Fml, MutBor, Array}
use Rattle.hir_fmt.specs.contracts.collector.FormatArgumentsCollector.{the_row}
use Rattle.hir_fmt.specs.contracts.format_args.FormatArgument.{the_row as argument_row}
use Rattle.hir_fmt.specs.declared.format_args.FormatArgument.{FormatArgument}
use Rattle.hir_fmt.specs.declared.format_args.FormatArguments.{FormatArguments}

-- arguments with other values in their places
abbrev pub with_values : FormatArguments → List FormatArgument → FormatArguments
with_values args values = record args { arguments = refill (length args.arguments) args.arguments values }

-- once the borrow ends, the arguments are those that it shows last, as many as before, under the names and counts of before
abbrev pub lends_arguments : MutBor FormatArguments → MutBor (List FormatArgument) → Fml
lends_arguments args r = follows the_row (Array argument_row 0) args.ghost_name r.ghost_name (with_values args.now)
