use Rattle.std.specs.Prelude.{length}
use Rattle.std.proofs.Common.{sym, ap, subst, arith}
use Rattle.hir_build.specs.Building.{Outgrows}
use Rattle.hir_lower.specs.Collector.{Collector, around}
use Rattle.hir_lower.specs.Lowered.{IsMost}
use Rattle.hir_lower.proofs.collector.ExprCollector.collect_format_args.Goals as goal

pub returns-clause-count : goal.returns-clause-count
returns-clause-count g c most size =
    let builds = c.lower_format_call.ensures.within most (subst (λ collector. IsMost (around (g.M.Macros.resolved c.args.macros.now) (g.M.Macros.expanded c.args.macros.now) collector) c.args.f.now most) (sym c.self.view_is) size) in
    let same = ap (λ (collector : Collector). length collector.store.exprs) c.self.view_is in
    omega (arith, builds.exprs, same)

pub returns-clause-full : goal.returns-clause-full
returns-clause-full g c full most size =
    subst (λ (collector : Collector). Outgrows collector.store most 2) c.self.view_is
    (c.lower_format_call.ensures.full full most (subst (λ collector. IsMost (around (g.M.Macros.resolved c.args.macros.now) (g.M.Macros.expanded c.args.macros.now) collector) c.args.f.now most) (sym c.self.view_is) size))
