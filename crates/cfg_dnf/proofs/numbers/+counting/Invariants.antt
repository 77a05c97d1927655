use Rattle.cfg_dnf.proofs.Choosing.{CountedSum, CountedProduct}
use Rattle.cfg_dnf.proofs.numbers.+counting.Given as goal

abbrev pub invariant-sum_count-loop-part : goal.invariant-sum_count-loop-part
invariant-sum_count-loop-part l = CountedSum l.negated l.parts l.part-index l.found

abbrev pub invariant-product_count-loop-part : goal.invariant-product_count-loop-part
invariant-product_count-loop-part l = CountedProduct l.negated l.parts l.part-index l.found
