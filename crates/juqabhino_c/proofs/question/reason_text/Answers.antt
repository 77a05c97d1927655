use Rattle.std.proofs.Common.{ap, ◌∙◌, sym, Some}
use Rattle.std.specs.Option.{option_map}
use Rattle.cfg_dnf.specs.Hints.{Reason}
use Rattle.cfg_dnf.specs.ReasonText.{reason_text}
use Rattle.juqabhino_c.proofs.question.reason_text.Goals as goal

pub returns-in_default-clause-asks : goal.returns-in_default-clause-asks
returns-in_default-clause-asks c = record {
  set = c.in_ok-query.query.options;
  expr = c.in_ok-query.query.expr;
  asks = c.in_ok-query.ensures.asks;
  holds = ap (option_map (λ (r : Reason). reason_text r.enabled r.disabled)) (sym c.in_default.is ∙ c.in_ok-reason.ensures);
}

pub returns-clause-asks : goal.returns-clause-asks
returns-clause-asks c = record {
  set = c.in_ok-query.query.options;
  expr = c.in_ok-query.query.expr;
  asks = c.in_ok-query.ensures.asks;
  holds = ap Some c.in_ok-format.ensures.ok ∙ ap (option_map (λ (r : Reason). reason_text r.enabled r.disabled)) (sym c.in-Some.is ∙ c.in_ok-reason.ensures);
}
