use Rattle.std.proofs.Common.{◌+◌, ◌*◌, length}
use Rattle.cfg_dnf.proofs.Choosing.{FallsIn}
use Rattle.cfg_dnf.proofs.numbers.+numbering.Given as goal

abbrev pub invariant-take_in_sum-loop-i : goal.invariant-take_in_sum-loop-i
invariant-take_in_sum-loop-i l = FallsIn l.negated l.parts l.number l.i l.left l.initial.choices.items l.choices.items

abbrev pub decreases-take_choices : goal.decreases-take_choices
decreases-take_choices l = 2 * goal.size-take_choices l * 18_446_744_073_709_551_616

abbrev pub decreases-take_in_sum : goal.decreases-take_in_sum
decreases-take_in_sum l = (2 * goal.size-take_in_sum l + 1) * 18_446_744_073_709_551_616

abbrev pub decreases-take_in_product : goal.decreases-take_in_product
decreases-take_in_product l = (2 * goal.size-take_in_product l + 1) * 18_446_744_073_709_551_616 + length l.parts.now
