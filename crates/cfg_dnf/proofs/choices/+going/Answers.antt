use Rattle.std.proofs.Common.{◌<◌, length, arith, rules}
use Rattle.std.proofs.lemmas.Grind.{common_steps}
use Rattle.cfg_dnf.proofs.Going.{leaf_form, unmade_at, no_parts, one_part, next_of_none, next_of_one, next_behind, next_none, next_in_front, sum_next_no_part, sum_next_found, sum_next_behind}
use Rattle.cfg_dnf.proofs.choices.+going.Goals as goal

pub next_choices-returns-in-Invalid : goal.next_choices-returns-in-Invalid
next_choices-returns-in-Invalid t c = let l = leaf_form c.args.expr.now c.args.negated c.in-Invalid.is in unmade_at c.args.at c.args.choices.now.items _ l.0 l.1

pub next_choices-returns-in-Invalid-2 : goal.next_choices-returns-in-Invalid-2
next_choices-returns-in-Invalid-2 t c = let l = leaf_form c.args.expr.now c.args.negated c.in-Invalid.is in unmade_at c.args.at c.args.choices.now.items _ l.0 l.1

pub next_choices-returns-in-Invalid-3 : goal.next_choices-returns-in-Invalid-3
next_choices-returns-in-Invalid-3 t c = let l = leaf_form c.args.expr.now c.args.negated c.in-Invalid.is in unmade_at c.args.at c.args.choices.now.items _ l.0 l.1

pub product_next-returns-then-branch : goal.product_next-returns-then-branch
product_next-returns-then-branch t c =
    next_behind c.args.negated c.args.parts.now c.split_at.result.0.now c.split_at.result.1.now c.args.at c.args.choices.now.items c.product_width-wide.result c.split_at.ensures.by_index.0 c.requires (grind (arith, common_steps))
    _ _ c.if-branch.true c.in_ok-product_next-in_default.ensures

pub product_next-returns-then-not-branch : goal.product_next-returns-then-not-branch
product_next-returns-then-not-branch t c =
    next_none c.args.negated c.args.parts.now c.split_at.result.0.now c.split_at.result.1.now c.args.at c.args.choices.now.items c.product_width-wide.result c.split_at.ensures.by_index.0 c.requires (grind (arith, common_steps))
    _ _ _ c.if-branch.false c.in_ok-product_next-in_default.ensures c.truncate-in_default.ensures.items _ _ c.if-not-branch.true c.in_ok-product_next-in_default-2.ensures

pub product_next-returns-in-empty : goal.product_next-returns-in-empty
product_next-returns-in-empty t c = next_of_none c.args.negated c.args.parts.now c.args.at c.args.choices.now.items (no_parts c.args.parts.now c.in-empty.len_below)

pub product_next-returns-in-len1 : goal.product_next-returns-in-len1
product_next-returns-in-len1 t c =
    next_of_one c.args.negated c.args.parts.now c.part-item.result c.args.at c.args.choices.now.items _ _ c.width-wide.result c.next_choices.result
    (one_part c.args.parts.now c.part-item.result c.in-len1.len_at_least c.in-len1.len_below c.part-item.is) c.requires (grind (arith, common_steps)) c.truncate.ensures.items c.next_choices.ensures

pub product_next-returns-else-not-branch : goal.product_next-returns-else-not-branch
product_next-returns-else-not-branch t c =
    next_in_front c.args.negated c.args.parts.now c.split_at.result.0.now c.split_at.result.1.now c.args.at c.args.choices.now.items c.product_width-wide.result c.split_at.ensures.by_index.0 c.requires (grind (arith, common_steps))
    _ _ _ c.if-branch.false c.in_ok-product_next-in_default.ensures c.truncate-in_default.ensures.items _ _ _ c.product_first.result c.if-not-branch.false c.in_ok-product_next-in_default-2.ensures c.product_first.ensures

pub sum_next-returns-in-None : goal.sum_next-returns-in-None
sum_next-returns-in-None t c =
    let within : c.args.at < length c.args.choices.now.items = search rules in
    sum_next_no_part c.args.negated c.args.parts.now c.args.at c.args.choices.now.items c.index-chosen.result.now within c.index-chosen.ensures c.in-None.ensures.lookup.3

pub sum_next-returns-then-branch : goal.sum_next-returns-then-branch
sum_next-returns-then-branch t c =
    let within : c.args.at < length c.args.choices.now.items = search rules in
    sum_next_found c.args.negated c.args.parts.now c.args.at c.args.choices.now.items c.index-chosen.result.now within c.index-chosen.ensures c.in-Some.part.now c.in-Some.ensures.lookup.3.0 c.in-Some.ensures.lookup.1 _ _ c.if-branch.true c.in_ok-next_choices-in-Some.ensures

pub sum_next-returns-else-branch : goal.sum_next-returns-else-branch
sum_next-returns-else-branch t c =
    let within : c.args.at < length c.args.choices.now.items = search rules in
    sum_next_behind c.args.negated c.args.parts.now c.args.at c.args.choices.now.items c.index-chosen.result.now within c.index-chosen.ensures c.in-Some.part.now c.in-Some.ensures.lookup.3.0 c.in-Some.ensures.lookup.1 _ _ _ _ c.sum_first.result
    c.if-branch.false c.in_ok-next_choices-in-Some.ensures c.truncate.ensures.items c.sum_first.ensures
