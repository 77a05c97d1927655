use Rattle.std.proofs.Common.{ap, ◌∙◌, sym, ℕ, List, Some}
use Rattle.std.specs.Option.{option_map}
use Rattle.ra_cfg.specs.Text.{diff_text}
use Rattle.cfg_dnf.specs.declared.numbered_hint.NumberedHint.{NumberedHint}
use Rattle.juqabhino_c.specs.Questions.{NumberedText}
use Rattle.juqabhino_c.proofs.question.hint_text.Goals as goal

abbrev line_of : NumberedHint → NumberedText
line_of f = record { number = f.number; text = diff_text f.hint.enabled f.hint.disabled }

abbrev with_text : ℕ → List ℕ → NumberedText
with_text number text = record { number = number; text = text }

pub returns-in_default-clause-asks : goal.returns-in_default-clause-asks
returns-in_default-clause-asks c = record {
  set = c.in_ok-query.query.options;
  expr = c.in_ok-query.query.expr;
  asks = c.in_ok-query.ensures.asks;
  holds = ap (option_map line_of) (sym c.in_default.is ∙ c.in_ok-found.ensures);
}

pub returns-clause-asks : goal.returns-clause-asks
returns-clause-asks c = record {
  set = c.in_ok-query.query.options;
  expr = c.in_ok-query.query.expr;
  asks = c.in_ok-query.ensures.asks;
  holds = ap (λ (t : List ℕ). Some (with_text c.in-Some.found.number t)) c.in_ok-text.ensures.ok ∙ ap (option_map line_of) (sym c.in-Some.is ∙ c.in_ok-found.ensures);
}
