use Rattle.std.proofs.Common.{◌≡◌, [], length, ap, rules}
use Rattle.cfg_dnf.specs.Hints.{hints}
use Rattle.cfg_dnf.specs.Walking.{left_of}
use Rattle.printer.proofs.Counted.{told_at_end}
use Rattle.printer.proofs.summary.hints_of_predicate.Goals as goal

pub returns : goal.returns
returns c =
    let none : left_of c.loop-hint.hints ≡ [] = search rules in
    told_at_end c.loop-hint.count (length (left_of c.loop-hint.hints)) (length (hints c.args.options.now c.args.dnf.now)) (ap length none) c.loop-hint.invariant.bound c.loop-hint.invariant.counted
