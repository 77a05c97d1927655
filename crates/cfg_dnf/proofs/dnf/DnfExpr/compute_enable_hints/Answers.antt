use Rattle.std.proofs.Common.{◌∙◌}
use Rattle.cfg_dnf.proofs.Steps.{all_left}
use Rattle.cfg_dnf.proofs.dnf.DnfExpr.compute_enable_hints.Goals as goal

pub returns-clause-left : goal.returns-clause-left
returns-clause-left c = all_left c.new.result c.args.self.now c.args.opts.now (c.new.ensures.expr ∙ c.expr.ensures) c.new.ensures.opts c.new.ensures.start
