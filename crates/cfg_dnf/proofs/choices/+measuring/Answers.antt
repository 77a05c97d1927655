use Rattle.std.proofs.Common.{sym, ◌∙◌}
use Rattle.cfg_dnf.proofs.Going.{width_of_sum, sum_width_at, sum_width_past}
use Rattle.cfg_dnf.proofs.choices.+measuring.Goals as goal

pub sum_width-returns-in-Some-get-clause-value : goal.sum_width-returns-in-Some-get-clause-value
sum_width-returns-in-Some-get-clause-value t c =
    width_of_sum c.args.negated c.args.parts.now c.args.choices.now c.in-Some.chosen.now c.in-Some.rest.now _ c.in-Some.ensures.cases.0
    (sum_width_at c.args.negated c.args.parts.now c.in-Some.chosen.now c.in-Some.rest.now c.in-Some-get.part.now c.in-Some-get.ensures.lookup.3.0 c.in-Some-get.ensures.lookup.1 ∙ sym c.width.ensures.value)

pub sum_width-returns-in-None-clause-value : goal.sum_width-returns-in-None-clause-value
sum_width-returns-in-None-clause-value t c =
    width_of_sum c.args.negated c.args.parts.now c.args.choices.now c.in-Some.chosen.now c.in-Some.rest.now 0 c.in-Some.ensures.cases.0
    (sum_width_past c.args.negated c.args.parts.now c.in-Some.chosen.now c.in-Some.rest.now c.in-None.ensures.lookup.3)
