use Rattle.std.proofs.Common.{ap, ◌∙◌}
use Rattle.std.specs.List.{list_any}
use Rattle.cfg_dnf.specs.Hints.{is_fixed}
use Rattle.cfg_dnf.proofs.HintGiven.{hint_made}
use Rattle.cfg_dnf.proofs.hinting.hint_of.Goals as goal

pub returns : goal.returns
returns c =
    hint_made c.args.opts.now c.args.literals.now c.new-found.result c.take_false.new.found c.new.result c.all_settled.result c.all_true.result c.any_fixed-else-any_fixed.result c.any_fixed.result c.in_ok-contradict_one_another.field-0
    c.all_settled.ensures c.if-not-all_settled.false c.all_true.ensures c.if-all_true.false c.in_ok-contradict_one_another.ensures c.if-branch.false c.new-found.ensures.enabled c.new-found.ensures.disabled c.in_ok-take_false.ensures
    (c.any_fixed.ensures ∙ ap (list_any is_fixed) c.as_slice.ensures.value) c.if-any_fixed.false (c.any_fixed-else-any_fixed.ensures ∙ ap (list_any is_fixed) c.as_slice-else-any_fixed.ensures.value) c.if-any_fixed-2.false
    c.new.ensures.is_diff c.new.ensures.enabled c.new.ensures.disabled
