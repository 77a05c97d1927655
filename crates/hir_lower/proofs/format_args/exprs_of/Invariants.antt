use Rattle.std.specs.Prelude.{◌≡◌, take}
use Rattle.hir_lower.specs.FormatArgs.{exprs_of}
use Rattle.hir_lower.proofs.format_args.exprs_of.Given as goal

abbrev pub invariant-loop-arg : goal.invariant-loop-arg
invariant-loop-arg l = l.exprs.items ≡ exprs_of (take l.arg-index l.args)
