use Rattle.std.proofs.Common.{◌+◌, ◌*◌, length}
use Rattle.cfg_dnf.proofs.choices.+going.Given as goal

abbrev pub decreases-next_choices : goal.decreases-next_choices
decreases-next_choices l = 2 * goal.size-next_choices l * 18_446_744_073_709_551_616

abbrev pub decreases-sum_next : goal.decreases-sum_next
decreases-sum_next l = (2 * goal.size-sum_next l + 1) * 18_446_744_073_709_551_616

abbrev pub decreases-product_next : goal.decreases-product_next
decreases-product_next l = (2 * goal.size-product_next l + 1) * 18_446_744_073_709_551_616 + length l.parts.now
