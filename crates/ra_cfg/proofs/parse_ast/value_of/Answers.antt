use Rattle.std.proofs.Common.{Err, ap, ◌∙◌}
use Rattle.std.proofs.lemmas.Result.{IfOk-weaker}
use Rattle.ra_cfg.proofs.Meanings.{value-none}
use Rattle.ra_cfg.proofs.parse_ast.value_of.Goals as goal

pub returns-in-Err : goal.returns-in-Err
returns-in-Err c = IfOk-weaker c.refused.result _ _ (λ value told. told.0 ∙ value-none _ (c.value.ensures.escape (c.in-Err.is ∙ ap Err told.1))) c.refused.ensures
