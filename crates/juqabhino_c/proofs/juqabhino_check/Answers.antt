use Rattle.std.proofs.Common.{inl, refl, ap, ◌∙◌}
use Rattle.juqabhino_c.specs.Questions.{number_of}
use Rattle.juqabhino_c.proofs.juqabhino_check.Goals as goal

pub returns-in-Ok : goal.returns-in-Ok
returns-in-Ok c = inl (record {
  set = c.in-Ok.query.options;
  expr = c.in-Ok.query.expr;
  asks = c.in-Ok.ensures.asks;
  holds = record { is_status = refl; is_read = c.number_of.ensures ∙ ap number_of c.check.ensures };
})
