use Rattle.std.proofs.Common.{◌≡◌, ◌+◌, ◌≤◌, length, min}
use Rattle.cfg_dnf.specs.Hints.{hints}
use Rattle.cfg_dnf.specs.Walking.{IsStanding, left_of}
use Rattle.cfg_dnf.specs.Stepping.{most_left}
use Rattle.printer.specs.Summary.{most_told}
use Rattle.printer.proofs.summary.hints_of_predicate.Given as goal

-- the count so far, with the hints that are left, is that of all hints
abbrev pub invariant-loop-hint : goal.invariant-loop-hint
invariant-loop-hint l = record {
  standing : IsStanding l.hints;
  bound : l.count ≤ most_told;
  counted : min (l.count + length (left_of l.hints)) most_told ≡ min (length (hints l.fn.options l.fn.dnf)) most_told;
}

abbrev pub decreases-loop-hint : goal.decreases-loop-hint
decreases-loop-hint l = most_left l.hints
