use Rattle.std.proofs.Common.{◌≡◌, ◌<◌, ℕ, List, IfOk, subst, arith}
use Rattle.cfg_dnf.proofs.Choosing.{leaf_choices, some_behind, number_in_front, number_behind, choices_of_halves}
use Rattle.cfg_dnf.proofs.Going.{leaf_form}
use Rattle.cfg_dnf.proofs.numbers.+numbering.Goals as goal

pub take_choices-returns-in-Invalid : goal.take_choices-returns-in-Invalid
take_choices-returns-in-Invalid t c = λ inside. let l = leaf_form c.args.expr.now c.args.negated c.in-Invalid.is in leaf_choices c.args.choices.now.items _ l.0 c.args.number l.1

pub take_choices-returns-in-Invalid-2 : goal.take_choices-returns-in-Invalid-2
take_choices-returns-in-Invalid-2 t c = λ inside. let l = leaf_form c.args.expr.now c.args.negated c.in-Invalid.is in leaf_choices c.args.choices.now.items _ l.0 c.args.number l.1

pub take_choices-returns-in-Invalid-3 : goal.take_choices-returns-in-Invalid-3
take_choices-returns-in-Invalid-3 t c = λ inside. let l = leaf_form c.args.expr.now c.args.negated c.in-Invalid.is in leaf_choices c.args.choices.now.items _ l.0 c.args.number l.1

pub take_in_product-returns-then-behind-eq0 : goal.take_in_product-returns-then-behind-eq0
take_in_product-returns-then-behind-eq0 t c = λ inside.
    let some : 0 < c.product_count-behind.result = some_behind c.args.negated c.args.parts.now c.split_at.result.0.now c.split_at.result.1.now c.args.number c.product_count-behind.result c.split_at.ensures.by_index.0 c.requires c.product_count-behind.ensures inside in
    absurd (omega (arith, some, c.if-behind-eq0.true))

pub take_in_product-returns-in_ok-take_in_product-in_default : goal.take_in_product-returns-in_ok-take_in_product-in_default
take_in_product-returns-in_ok-take_in_product-in_default t c = λ inside.
    let front = number_in_front c.args.negated c.args.parts.now c.split_at.result.0.now c.split_at.result.1.now c.args.number c.product_count-behind.result c.split_at.ensures.by_index.0 c.requires c.product_count-behind.ensures inside in
    let behind = number_behind c.args.negated c.args.parts.now c.split_at.result.0.now c.split_at.result.1.now c.args.number c.product_count-behind.result c.split_at.ensures.by_index.0 c.requires c.product_count-behind.ensures inside in
    subst (λ (l : List ℕ). IfOk c.take_in_product-in_default.result (λ u. c.take_in_product-in_default.new.choices.items ≡ l))
    (choices_of_halves c.args.negated c.args.parts.now c.split_at.result.0.now c.split_at.result.1.now c.args.number c.product_count-behind.result c.split_at.ensures.by_index.0 c.requires c.product_count-behind.ensures inside
    c.args.choices.now.items c.take_in_product.new.choices.items (c.in_ok-take_in_product-in_default.ensures front))
    (c.take_in_product-in_default.ensures behind)
