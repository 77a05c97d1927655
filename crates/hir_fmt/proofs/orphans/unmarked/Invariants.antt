use Rattle.std.proofs.Common.{◌≡◌, take}
use Rattle.hir_fmt.specs.Orphans.{unmarked}
use Rattle.hir_fmt.proofs.orphans.unmarked.Given as goal

abbrev pub invariant-loop-at : goal.invariant-loop-at
invariant-loop-at l = l.orphans.items ≡ unmarked (take l.at l.marks) (take l.at l.args)
