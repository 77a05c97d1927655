use Rattle.std.proofs.Common.{◌++◌, ap, sym, ◌∙◌, ◌≡◌, IfOk, List, subst}
use Rattle.cfg_dnf.specs.declared.literal.Literal.{Literal}
use Rattle.std.proofs.lemmas.List.{append-nil}
use Rattle.cfg_dnf.proofs.Going.{sum_chosen_at, sum_chosen_past}
use Rattle.cfg_dnf.proofs.conjunction.+choosing.Goals as goal

pub take_sum-returns-in-None : goal.take_sum-returns-in-None
take_sum-returns-in-None t c =
    sym (ap (λ l. c.args.literals.now.items ++ l) (sum_chosen_past c.args.negated c.args.parts.now c.args.choices.now c.in-Some.chosen.now c.in-Some.rest.now c.in-Some.ensures.cases.0 c.in-None.ensures.lookup.3) ∙ append-nil c.args.literals.now.items)

pub take_sum-returns-in-Some-get : goal.take_sum-returns-in-Some-get
take_sum-returns-in-Some-get t c =
    subst (λ (l : List Literal). IfOk c.take_literals.result (λ u. c.take_literals.new.literals.items ≡ c.args.literals.now.items ++ l))
    (sym (sum_chosen_at c.args.negated c.args.parts.now c.args.choices.now c.in-Some.chosen.now c.in-Some.rest.now c.in-Some-get.part.now c.in-Some.ensures.cases.0 c.in-Some-get.ensures.lookup.3.0 c.in-Some-get.ensures.lookup.1))
    c.take_literals.ensures
