use Rattle.std.proofs.Common.{◌≡◌, refl, sym, ◌∙◌, ap, arith, subst, Err}
use Rattle.std.proofs.lemmas.Result.{err_from_is_err_and}
use Rattle.std.proofs.lemmas.List.{take_all}
use Rattle.hir_build.specs.declared.error.LowerError.TheVariants.{ArenaFull}
use Rattle.hir_build.specs.Building.{Builds}
use Rattle.hir_build.proofs.Builds.{builds_none}
use Rattle.hir_lower.specs.Collector.{around, collector_of}
use Rattle.hir_lower.specs.CallParsed.{GrowsSome}
use Rattle.hir_lower.specs.Lowered.{IsMostGated, AreMost, most_lets, LowersCall, Lowers}
use Rattle.hir_lower.proofs.Outcomes.{lowers_grow}
use Rattle.hir_lower.proofs.Gated.{around_then, rest_then, within_next, within_all, full_all, lowers_next, some_next}
use Rattle.hir_lower.proofs.lowering.Lowering.lower_all.Goals as goal

pub loop-call-init : goal.loop-call-init
loop-call-init g c = record {
  lowers = rw c.new-outcomes.ensures.items refl;
  within = λ most none. subst (λ n. Builds c.args.self.now.builder c.args.self.now.builder n 0) (sym none) (builds_none c.args.self.now.builder);
  unchanged = refl;
}

pub lower_gated-requires : goal.lower_gated-requires
lower_gated-requires g c = record { rest = rest_then c.args.opts.now _ _ c.args.self.now.builder c.loop-call.self.builder c.args.self.now.expander c.loop-call.self.expander _ _ c.loop-call.invariant.lowers c.loop-call.invariant.unchanged c.requires.rest }

pub returns-in_err-outcome-clause-within : goal.returns-in_err-outcome-clause-within
returns-in_err-outcome-clause-within g c = within_all c.args.calls.now c.loop-call.call-index c.call-item.result c.loop-call-test.true c.call-item.is c.args.opts.now _ c.loop-call.invariant.within (λ one is. c.in_err-outcome.ensures.within one (subst (λ at. IsMostGated c.args.opts.now at c.call-item.result one) (sym (around_then c.args.opts.now _ _ c.args.self.now.builder c.loop-call.self.builder c.args.self.now.expander c.loop-call.self.expander _ _ c.loop-call.invariant.lowers c.loop-call.invariant.unchanged)) is))

pub returns-in_err-outcome-clause-full : goal.returns-in_err-outcome-clause-full
returns-in_err-outcome-clause-full g c refusal =
    let refused = err_from_is_err_and c.from_residual.result c.from_residual.ensures.1 in
    let same : refused.0 ≡ ArenaFull = let e = sym refused.1 ∙ refusal in cc in
    full_all c.args.calls.now c.loop-call.call-index c.call-item.result c.loop-call-test.true c.call-item.is c.args.opts.now _ c.loop-call.invariant.within
    (λ one is. c.in_err-outcome.ensures.full (ap Err (sym refused.2 ∙ same)) one (subst (λ at. IsMostGated c.args.opts.now at c.call-item.result one) (sym (around_then c.args.opts.now _ _ c.args.self.now.builder c.loop-call.self.builder c.args.self.now.expander c.loop-call.self.expander _ _ c.loop-call.invariant.lowers c.loop-call.invariant.unchanged)) is))

pub returns-in_err-outcome-clause-builds : goal.returns-in_err-outcome-clause-builds
returns-in_err-outcome-clause-builds g c = some_next c.args.calls.now c.loop-call.call-index c.call-item.result c.loop-call-test.true c.call-item.is c.args.opts.now _ c.args.self.now.builder c.loop-call.self.builder c.lower_gated.new.self.builder c.loop-call.outcomes.items c.loop-call.invariant.lowers c.in_err-outcome.ensures.builds

pub returns-in_err-outcome-clause-unchanged : goal.returns-in_err-outcome-clause-unchanged
returns-in_err-outcome-clause-unchanged g c = c.in_err-outcome.ensures.unchanged ∙ c.loop-call.invariant.unchanged

pub returns-in_err-push-clause-within : goal.returns-in_err-push-clause-within
returns-in_err-push-clause-within g c = within_all c.args.calls.now c.loop-call.call-index c.call-item.result c.loop-call-test.true c.call-item.is c.args.opts.now _ c.loop-call.invariant.within (λ one is. c.in_ok-outcome.ensures.within one (subst (λ at. IsMostGated c.args.opts.now at c.call-item.result one) (sym (around_then c.args.opts.now _ _ c.args.self.now.builder c.loop-call.self.builder c.args.self.now.expander c.loop-call.self.expander _ _ c.loop-call.invariant.lowers c.loop-call.invariant.unchanged)) is))

pub returns-in_err-push-clause-builds : goal.returns-in_err-push-clause-builds
returns-in_err-push-clause-builds g c = some_next c.args.calls.now c.loop-call.call-index c.call-item.result c.loop-call-test.true c.call-item.is c.args.opts.now _ c.args.self.now.builder c.loop-call.self.builder c.lower_gated.new.self.builder c.loop-call.outcomes.items c.loop-call.invariant.lowers c.in_ok-outcome.ensures.builds

pub returns-in_err-push-clause-unchanged : goal.returns-in_err-push-clause-unchanged
returns-in_err-push-clause-unchanged g c = c.in_ok-outcome.ensures.unchanged ∙ c.loop-call.invariant.unchanged

pub loop-call-preserved : goal.loop-call-preserved
loop-call-preserved g c = record {
  lowers = rw c.in_ok-push.ensures.items (lowers_next c.args.calls.now c.loop-call.call-index c.call-item.result c.loop-call-test.true c.call-item.is c.args.opts.now _ c.args.self.now.builder c.loop-call.self.builder c.lower_gated.new.self.builder c.loop-call.outcomes.items c.loop-call.invariant.lowers c.in_ok-outcome.outcome
      (subst (λ at. LowersCall c.args.opts.now at c.call-item.result c.in_ok-outcome.outcome c.loop-call.self.builder c.lower_gated.new.self.builder) (around_then c.args.opts.now _ _ c.args.self.now.builder c.loop-call.self.builder c.args.self.now.expander c.loop-call.self.expander _ _ c.loop-call.invariant.lowers c.loop-call.invariant.unchanged) c.in_ok-outcome.ensures.lowers));
  within = within_next c.args.calls.now c.loop-call.call-index c.call-item.result c.loop-call-test.true c.call-item.is c.args.opts.now _ c.loop-call.invariant.within (λ one is. c.in_ok-outcome.ensures.within one (subst (λ at. IsMostGated c.args.opts.now at c.call-item.result one) (sym (around_then c.args.opts.now _ _ c.args.self.now.builder c.loop-call.self.builder c.args.self.now.expander c.loop-call.self.expander _ _ c.loop-call.invariant.lowers c.loop-call.invariant.unchanged)) is));
  unchanged = c.in_ok-outcome.ensures.unchanged ∙ c.loop-call.invariant.unchanged;
}

pub returns-clause-lowers : goal.returns-clause-lowers
returns-clause-lowers g c = subst (λ calls. Lowers c.args.opts.now (around (g.M.Macros.resolved c.args.macros.now) (g.M.Macros.expanded c.args.macros.now) (collector_of c.args.self.now.builder c.args.self.now.expander)) calls c.loop-call.outcomes.items c.args.self.now.builder c.loop-call.self.builder) (take_all c.loop-call.call-index c.args.calls.now (omega (arith, c.loop-call-test.false))) c.loop-call.invariant.lowers

pub returns-clause-within : goal.returns-clause-within
returns-clause-within g c most = subst (λ calls. AreMost c.args.opts.now (around (g.M.Macros.resolved c.args.macros.now) (g.M.Macros.expanded c.args.macros.now) (collector_of c.args.self.now.builder c.args.self.now.expander)) calls most → Builds c.args.self.now.builder c.loop-call.self.builder most (most_lets c.args.opts.now calls)) (take_all c.loop-call.call-index c.args.calls.now (omega (arith, c.loop-call-test.false))) (c.loop-call.invariant.within most)

pub returns-clause-builds : goal.returns-clause-builds
returns-clause-builds g c = subst (λ calls. GrowsSome c.args.self.now.builder c.loop-call.self.builder (most_lets c.args.opts.now calls)) (take_all c.loop-call.call-index c.args.calls.now (omega (arith, c.loop-call-test.false)))
    (lowers_grow c.args.opts.now _ _ _ c.args.self.now.builder c.loop-call.self.builder c.loop-call.invariant.lowers)

pub returns-clause-unchanged : goal.returns-clause-unchanged
returns-clause-unchanged g c = c.loop-call.invariant.unchanged
