use Rattle.cfg_dnf.proofs.Beginning.{BegunSum, BegunProduct}
use Rattle.cfg_dnf.proofs.choices.+beginning.Given as goal

abbrev pub invariant-sum_first-loop-i : goal.invariant-sum_first-loop-i
invariant-sum_first-loop-i l = BegunSum l.negated l.parts l.fn.start l.i l.initial.choices.items l.choices.items

abbrev pub invariant-product_first-loop-part : goal.invariant-product_first-loop-part
invariant-product_first-loop-part l = BegunProduct l.negated l.parts l.part-index l.initial.choices.items l.choices.items
