use Rattle.hir_lower.proofs.Statements.{statements_next}
use Rattle.hir_lower.proofs.format_args.push_statements.Goals as goal

pub loop-expr-preserved : goal.loop-expr-preserved
loop-expr-preserved c = statements_next _ _ c.args.statements.now.items c.args.exprs.now c.loop-expr.expr-index _ c.loop-expr-test.true c.loop-expr.invariant c.in_ok-push.ensures.items
