use Rattle.std.proofs.Common.{◌++◌, ap, ◌∙◌, string_bytes, false}
use Rattle.cfg_dnf.specs.Form.{form, chosen}
use Rattle.cfg_dnf.specs.DnfText.{conjunction_text}
use Rattle.cfg_dnf.proofs.TextSteps.{text_goes_on, fewer_texts, text_ends}
use Rattle.cfg_dnf.proofs.dnf.more_text.Goals as goal

pub loop-choices-preserved : goal.loop-choices-preserved
loop-choices-preserved c =
    text_goes_on (form c.args.expr.now false) (string_bytes c.args.first) c.args.choices.items (string_bytes c.loop-choices.text) c.loop-choices.choices.items (string_bytes c.push_str.new.self) (string_bytes c.push_str-in-loop-choices.new.self) (string_bytes c.in_ok-more.more) c.next_choices.new.choices.items
    c.loop-choices.invariant c.in_ok-push_str.ensures.bytes (c.in_ok-push_str-2.ensures.bytes ∙ ap (λ l. string_bytes c.push_str.new.self ++ l) c.as_str.ensures.value)
    (c.in_ok-more.ensures ∙ ap (λ p. conjunction_text (chosen (form c.args.expr.now false) p)) c.as_slice.ensures.value) c.in_ok-next_choices.field-0 c.if-not-branch.false c.in_ok-next_choices.ensures

pub loop-choices-smaller : goal.loop-choices-smaller
loop-choices-smaller c =
    fewer_texts (form c.args.expr.now false) (string_bytes c.args.first) c.args.choices.items (string_bytes c.loop-choices.text) c.loop-choices.choices.items (string_bytes c.push_str.new.self) (string_bytes c.push_str-in-loop-choices.new.self) (string_bytes c.in_ok-more.more) c.next_choices.new.choices.items
    c.loop-choices.invariant c.in_ok-push_str.ensures.bytes (c.in_ok-push_str-2.ensures.bytes ∙ ap (λ l. string_bytes c.push_str.new.self ++ l) c.as_str.ensures.value)
    (c.in_ok-more.ensures ∙ ap (λ p. conjunction_text (chosen (form c.args.expr.now false) p)) c.as_slice.ensures.value) c.in_ok-next_choices.field-0 c.if-not-branch.false c.in_ok-next_choices.ensures

pub returns-then-not-branch : goal.returns-then-not-branch
returns-then-not-branch c =
    text_ends (form c.args.expr.now false) (string_bytes c.args.first) c.args.choices.items (string_bytes c.loop-choices.text) c.loop-choices.choices.items (string_bytes c.push_str.new.self) (string_bytes c.push_str-in-loop-choices.new.self) (string_bytes c.in_ok-more.more) c.next_choices.new.choices.items
    c.loop-choices.invariant c.in_ok-push_str.ensures.bytes (c.in_ok-push_str-2.ensures.bytes ∙ ap (λ l. string_bytes c.push_str.new.self ++ l) c.as_str.ensures.value)
    (c.in_ok-more.ensures ∙ ap (λ p. conjunction_text (chosen (form c.args.expr.now false) p)) c.as_slice.ensures.value) c.in_ok-next_choices.field-0 c.if-not-branch.true c.in_ok-next_choices.ensures
