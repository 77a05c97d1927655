use Rattle.std.proofs.Common.{◌<◌, ◌≤◌, false, ap, sym, ◌∙◌, arith}
use Rattle.cfg_dnf.specs.Form.{form, chosen}
use Rattle.cfg_dnf.specs.Hints.{hint_if}
use Rattle.cfg_dnf.specs.Numbered.{number_limit}
use Rattle.cfg_dnf.proofs.Searching.{search_finds, search_stops, search_goes_on, search_ends}
use Rattle.cfg_dnf.proofs.numbered.search.Goals as goal

pub returns-in-Some : goal.returns-in-Some
returns-in-Some c =
    let limited : c.loop-number.number < number_limit = omega arith in
    search_finds c.args.opts.now c.args.expr.now c.args.start c.loop-number.number c.loop-number.choices.items c.loop-number.invariant c.in-Some.hint limited
    (sym c.in-Some.is ∙ c.in_ok-hint.ensures ∙ ap (λ p. hint_if c.args.opts.now (chosen (form c.args.expr.now false) p)) c.as_slice.ensures.value)

pub returns-then-not-branch : goal.returns-then-not-branch
returns-then-not-branch c =
    let limited : c.loop-number.number < number_limit = omega arith in
    search_ends c.args.opts.now c.args.expr.now c.args.start c.loop-number.number c.loop-number.choices.items c.loop-number.invariant limited
    (sym c.in_default.is ∙ c.in_ok-hint.ensures ∙ ap (λ p. hint_if c.args.opts.now (chosen (form c.args.expr.now false) p)) c.as_slice.ensures.value)
    c.next_choices.new.choices.items c.in_ok-next_choices.field-0 c.if-not-branch.true c.in_ok-next_choices.ensures

pub loop-number-preserved : goal.loop-number-preserved
loop-number-preserved c =
    let limited : c.loop-number.number < number_limit = omega arith in
    search_goes_on c.args.opts.now c.args.expr.now c.args.start c.loop-number.number c.loop-number.choices.items c.loop-number.invariant limited
    (sym c.in_default.is ∙ c.in_ok-hint.ensures ∙ ap (λ p. hint_if c.args.opts.now (chosen (form c.args.expr.now false) p)) c.as_slice.ensures.value)
    c.next_choices.new.choices.items c.in_ok-next_choices.field-0 c.if-not-branch.false c.in_ok-next_choices.ensures

pub returns : goal.returns
returns c =
    let past : number_limit ≤ c.loop-number.number = omega arith in
    search_stops c.args.opts.now c.args.expr.now c.args.start c.loop-number.number c.loop-number.choices.items c.loop-number.invariant past
