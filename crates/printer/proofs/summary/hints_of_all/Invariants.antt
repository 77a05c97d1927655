use Rattle.std.proofs.Common.{◌≡◌, ◌+◌, ◌≤◌, drop, min}
use Rattle.printer.specs.Summary.{count_hints, most_told}
use Rattle.printer.proofs.summary.hints_of_all.Given as goal

-- the count so far, with the hints of the calls that are left, is that of all calls
abbrev pub invariant-loop-outcome : goal.invariant-loop-outcome
invariant-loop-outcome l = record {
  bound : l.count ≤ most_told;
  counted : min (l.count + count_hints l.options (drop l.outcome-index l.outcomes)) most_told ≡ min (count_hints l.options l.outcomes) most_told;
}
