use Rattle.std.proofs.Common.{◌≡◌, Some, None, subst}
use Rattle.ra_cfg.specs.declared.cfg_expr.CfgExpr.{CfgExpr}
use Rattle.cfg_dnf.specs.Hints.{reason}
use Rattle.cfg_dnf.proofs.Reasoned.{none_where_true, none_where_open, some_gathered}
use Rattle.cfg_dnf.proofs.dnf.DnfExpr.why_inactive.Goals as goal

pub returns-then-is_true : goal.returns-then-is_true
returns-then-is_true c = subst (λ (e : CfgExpr). None ≡ reason c.args.opts.now e) c.expr-expr.ensures (none_where_true c.args.opts.now c.expr-expr.result.now _ c.is_true.ensures c.if-is_true.true)

pub returns-then-not-branch : goal.returns-then-not-branch
returns-then-not-branch c = subst (λ (e : CfgExpr). None ≡ reason c.args.opts.now e) c.expr-expr.ensures (none_where_open c.args.opts.now c.expr-expr.result.now _ _ _ c.if-not-branch.true c.in_ok-gather.ensures)

pub returns : goal.returns
returns c =
    subst (λ (e : CfgExpr). Some c.in_ok-reason.reason ≡ reason c.args.opts.now e) c.expr-expr.ensures
    (some_gathered c.args.opts.now c.expr-expr.result.now _ _ _ _ c.in_ok-reason.reason c.is_true.ensures c.if-is_true.false c.if-not-branch.false c.in_ok-gather.ensures c.new-found.ensures.enabled c.new-found.ensures.disabled c.in_ok-reason.ensures.enabled_are c.in_ok-reason.ensures.disabled_are)
