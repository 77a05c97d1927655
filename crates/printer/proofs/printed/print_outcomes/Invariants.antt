use Rattle.std.proofs.Common.{◌≡◌, ◌++◌, string_bytes, drop}
use Rattle.hir_lower.specs.Lowered.{AreInStore}
use Rattle.printer.specs.Printed.{lines_from, printed}
use Rattle.printer.proofs.printed.print_outcomes.Given as goal

-- the lines so far, with those of the outcomes that are left behind them, are all lines
abbrev pub invariant-loop-number : goal.invariant-loop-number
invariant-loop-number l = record {
  codes : AreInStore l.store (drop l.number l.outcomes);
  lines : string_bytes l.out ++ lines_from l.store l.options l.number (drop l.number l.outcomes) ≡ printed l.store l.options l.outcomes;
}
