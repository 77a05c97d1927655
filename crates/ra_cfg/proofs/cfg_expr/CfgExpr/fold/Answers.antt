use Rattle.std.proofs.Common.{None, rules, of_calls}
use Rattle.ra_cfg.proofs.Folding.{agrees_on}
use Rattle.ra_cfg.proofs.cfg_expr.CfgExpr.fold.Goals as goal

pub returns : goal.returns
returns g c = λ holds atoms. c.fold_with.ensures holds (λ text. None) atoms (agrees_on _ _ _ (λ text r told. search (rules, of_calls)))
