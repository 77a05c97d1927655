use Rattle.cfg_dnf.proofs.Going.{made_at, leaf_form}
use Rattle.cfg_dnf.proofs.choices.+beginning.Goals as goal

pub first_choices-returns-in-Invalid : goal.first_choices-returns-in-Invalid
first_choices-returns-in-Invalid t c = let l = leaf_form c.args.expr.now c.args.negated c.in-Invalid.is in made_at c.args.choices.now.items _ l.0 l.1

pub first_choices-returns-in-Invalid-2 : goal.first_choices-returns-in-Invalid-2
first_choices-returns-in-Invalid-2 t c = let l = leaf_form c.args.expr.now c.args.negated c.in-Invalid.is in made_at c.args.choices.now.items _ l.0 l.1

pub first_choices-returns-in-Invalid-3 : goal.first_choices-returns-in-Invalid-3
first_choices-returns-in-Invalid-3 t c = let l = leaf_form c.args.expr.now c.args.negated c.in-Invalid.is in made_at c.args.choices.now.items _ l.0 l.1
