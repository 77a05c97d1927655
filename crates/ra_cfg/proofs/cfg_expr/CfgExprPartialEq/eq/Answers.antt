use Rattle.ra_cfg.specs.contracts.cfg_expr.CfgExpr.{the_row}
use Rattle.ra_cfg.proofs.Deciding.{tells_equal}
use Rattle.ra_cfg.proofs.cfg_expr.CfgExprPartialEq.eq.Goals as goal

pub returns : goal.returns
returns c = tells_equal the_row.coded c.is_same.result c.args.self.now c.args.other.now c.is_same.ensures
