use Rattle.std.proofs.Common.{◌≡◌, ℕ, List, IfOk, ap, subst, ◌∙◌, string_bytes, codes, false}
use Rattle.ra_cfg.specs.Text.{call_text}
use Rattle.cfg_dnf.specs.DnfText.{conjunction_text, dnf_text}
use Rattle.cfg_dnf.specs.Form.{form, chosen, first}
use Rattle.cfg_dnf.specs.Making.{MakesIf}
use Rattle.cfg_dnf.proofs.TextSteps.{text_none, text_one, text_many, stands_second}
use Rattle.cfg_dnf.proofs.dnf.DnfExpr.text.Goals as goal

pub returns-then-not-branch : goal.returns-then-not-branch
returns-then-not-branch c =
    let makes = subst (λ (l : List ℕ). MakesIf l c.first_choices.new.choices.items (first (form c.expr-expr.result.now false)) c.in_ok-first_choices.field-0) c.new-choices.ensures.items c.in_ok-first_choices.ensures in
    subst (λ (l : List ℕ). IfOk c.new.result (λ t. t ≡ l)) (text_none c.expr-expr.result.now c.first_choices.new.choices.items c.in_ok-first_choices.field-0 c.if-not-branch.true makes ∙ ap dnf_text c.expr-expr.ensures) c.new.ensures

pub returns-then-not-branch-2 : goal.returns-then-not-branch-2
returns-then-not-branch-2 c =
    let makes = subst (λ (l : List ℕ). MakesIf l c.first_choices.new.choices.items (first (form c.expr-expr.result.now false)) c.in_ok-first_choices.field-0) c.new-choices.ensures.items c.in_ok-first_choices.ensures in
    subst (λ (l : List ℕ). IfOk c.new-then-not-branch-2.result (λ t. t ≡ l))
    (c.as_str.ensures.value
    ∙ text_one c.expr-expr.result.now c.first_choices.new.choices.items c.in_ok-first_choices.field-0 c.if-not-branch.false makes (string_bytes c.in_ok-first.first) c.next_choices.new.choices.items c.in_ok-next_choices.field-0
    (c.in_ok-first.ensures ∙ ap (λ p. conjunction_text (chosen (form c.expr-expr.result.now false) p)) c.as_slice.ensures.value) c.if-not-branch-2.true c.in_ok-next_choices.ensures
    ∙ ap dnf_text c.expr-expr.ensures)
    c.new-then-not-branch-2.ensures

pub more_text-requires : goal.more_text-requires
more_text-requires c =
    let makes = subst (λ (l : List ℕ). MakesIf l c.first_choices.new.choices.items (first (form c.expr-expr.result.now false)) c.in_ok-first_choices.field-0) c.new-choices.ensures.items c.in_ok-first_choices.ensures in
    stands_second c.expr-expr.result.now c.first_choices.new.choices.items c.in_ok-first_choices.field-0 c.if-not-branch.false makes c.next_choices.new.choices.items c.in_ok-next_choices.field-0 c.if-not-branch-2.false c.in_ok-next_choices.ensures

pub returns : goal.returns
returns c =
    let makes = subst (λ (l : List ℕ). MakesIf l c.first_choices.new.choices.items (first (form c.expr-expr.result.now false)) c.in_ok-first_choices.field-0) c.new-choices.ensures.items c.in_ok-first_choices.ensures in
    subst (λ (l : List ℕ). IfOk c.new-2.result (λ t. t ≡ l))
    (c.as_str-3.ensures.value
    ∙ text_many c.expr-expr.result.now c.first_choices.new.choices.items c.in_ok-first_choices.field-0 c.if-not-branch.false makes c.next_choices.new.choices.items c.in_ok-next_choices.field-0 c.if-not-branch-2.false c.in_ok-next_choices.ensures
    (string_bytes c.in_ok-first.first) (string_bytes c.in_ok-texts.texts) (string_bytes c.in_ok-whole.whole)
    (c.in_ok-first.ensures ∙ ap (λ p. conjunction_text (chosen (form c.expr-expr.result.now false) p)) c.as_slice.ensures.value) c.in_ok-texts.ensures (c.in_ok-whole.ensures ∙ ap (call_text (codes "any(")) c.as_str-2.ensures.value)
    ∙ ap dnf_text c.expr-expr.ensures)
    c.new-2.ensures
