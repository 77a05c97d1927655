use Rattle.std.proofs.Common.{◌≡◌, [], drop, ap, arith}
use Rattle.std.proofs.lemmas.List.{drop_all}
use Rattle.printer.specs.Summary.{count_hints}
use Rattle.printer.proofs.Counted.{told_at_end}
use Rattle.printer.proofs.summary.hints_of_all.Goals as goal

pub returns : goal.returns
returns c =
    let none : drop c.loop-outcome.outcome-index c.args.outcomes.now ≡ [] = drop_all c.loop-outcome.outcome-index c.args.outcomes.now (omega (arith, c.loop-outcome-test.false)) in
    told_at_end c.loop-outcome.count _ (count_hints c.args.options.now c.args.outcomes.now) (ap (count_hints c.args.options.now) none) c.loop-outcome.invariant.bound c.loop-outcome.invariant.counted
