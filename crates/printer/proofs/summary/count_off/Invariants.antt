use Rattle.std.proofs.Common.{◌≡◌, ◌+◌, ◌≤◌, drop, count_by}
use Rattle.printer.specs.Summary.{is_off}
use Rattle.printer.proofs.summary.count_off.Given as goal

-- the count so far, with those of the calls that are left, is that of all calls
abbrev pub invariant-loop-outcome : goal.invariant-loop-outcome
invariant-loop-outcome l = record {
  bound : l.count ≤ l.outcome-index;
  counted : l.count + count_by is_off (drop l.outcome-index l.outcomes) ≡ count_by is_off l.outcomes;
}
