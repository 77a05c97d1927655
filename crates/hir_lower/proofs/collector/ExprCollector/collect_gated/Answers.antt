use Rattle.std.specs.Prelude.{length, IfOk}
use Rattle.std.proofs.Common.{subst}
use Rattle.std.proofs.lemmas.Result.{IfOk-weaker}
use Rattle.hir_lower.specs.Collector.{Collector, around}
use Rattle.hir_lower.specs.Lowered.{AreOutcomes, AreRising}
use Rattle.hir_lower.proofs.Outcomes.{outcomes_are, rising_are, in_store_are}
use Rattle.hir_lower.proofs.collector.ExprCollector.collect_gated.Goals as goal

pub returns-clause-outcomes : goal.returns-clause-outcomes
returns-clause-outcomes g c =
    subst (λ (collector : Collector). IfOk c.lower_all.result (λ outcomes. AreOutcomes c.args.opts.now (around (g.M.Macros.resolved c.args.macros.now) (g.M.Macros.expanded c.args.macros.now) collector) c.lower_all.new.self.builder.store c.args.calls.now outcomes.items)) c.self.view_is
    (IfOk-weaker c.lower_all.result _ _ (λ outcomes lowers. outcomes_are c.args.opts.now _ c.args.calls.now outcomes.items c.self.inside.inside.builder c.lower_all.new.self.builder lowers) c.lower_all.ensures.lowers)

pub returns-clause-rising : goal.returns-clause-rising
returns-clause-rising g c =
    subst (λ (collector : Collector). IfOk c.lower_all.result (λ outcomes. AreRising (length collector.store.exprs) outcomes.items)) c.self.view_is
    (IfOk-weaker c.lower_all.result _ _ (λ outcomes lowers. rising_are c.args.opts.now _ c.args.calls.now outcomes.items c.self.inside.inside.builder c.lower_all.new.self.builder lowers) c.lower_all.ensures.lowers)

pub returns-clause-within : goal.returns-clause-within
returns-clause-within g c =
    IfOk-weaker c.lower_all.result _ _ (λ outcomes lowers. in_store_are c.args.opts.now _ c.args.calls.now outcomes.items c.self.inside.inside.builder c.lower_all.new.self.builder lowers) c.lower_all.ensures.lowers
