use Rattle.hir_fmt.proofs.Walks.{on_err}
use Rattle.hir_fmt.proofs.Lookups.{stops_used, stops_made}
use Rattle.hir_fmt.proofs.look_up.capture.Goals as goal

pub returns-in_err-expr-clause-stopped : goal.returns-in_err-expr-clause-stopped
returns-in_err-expr-clause-stopped g c = on_err _ (stops_used _ _ _ _ _ c.in_ok-tell.ensures.logged c.in_err-expr.ensures.logged)

pub returns-in_err-clone-clause-stopped : goal.returns-in_err-clone-clause-stopped
returns-in_err-clone-clause-stopped g c = on_err _ (stops_made _ _ _ _ _ _ c.in_ok-tell.ensures.logged c.in_ok-expr.ensures.logged)

pub returns-in_err-place-clause-stopped : goal.returns-in_err-place-clause-stopped
returns-in_err-place-clause-stopped g c = on_err _ (stops_made _ _ _ _ _ _ c.in_ok-tell.ensures.logged c.in_ok-expr.ensures.logged)
