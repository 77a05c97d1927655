use Rattle.std.proofs.Common.{◌++◌, ◌<◌, false, ap, ◌∙◌, arith}
use Rattle.cfg_dnf.specs.Form.{form}
use Rattle.cfg_dnf.specs.Numbers.{count as count_in, choices_at}
use Rattle.cfg_dnf.proofs.Searching.{none_from, number_inside, search_begins}
use Rattle.cfg_dnf.proofs.numbered.first_from.Goals as goal

pub returns-then-count-number : goal.returns-then-count-number
returns-then-count-number c = none_from c.args.opts.now c.args.expr.now c.args.number c.count.result c.count.ensures c.if-count-number.true

pub search-requires : goal.search-requires
search-requires c =
    let inside : c.args.number < count_in (form c.args.expr.now false) = number_inside c.args.opts.now c.args.expr.now c.args.number c.count.result c.count.ensures (omega arith) in
    search_begins c.args.opts.now c.args.expr.now c.args.number c.take_choices.new.choices.items inside
    (c.in_ok-take_choices.ensures inside ∙ ap (λ l. l ++ choices_at (form c.args.expr.now false) c.args.number) c.new-choices.ensures.items)
