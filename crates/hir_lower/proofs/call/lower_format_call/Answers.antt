use Rattle.std.specs.Prelude.{length, ◌+◌}
use Rattle.std.proofs.Common.{◌≡◌, ◌∙◌, refl, sym, ap, arith, Err}
use Rattle.std.proofs.lemmas.Result.{err_from_is_err_and}
use Rattle.hir_build.specs.declared.error.LowerError.TheVariants.{ArenaFull}
use Rattle.hir_build.proofs.Builds.{builds_then, builds_within, outgrows_later}
use Rattle.hir_lower.specs.Collector.{around, collector_of}
use Rattle.hir_lower.proofs.CallLowered.{walked, arguments_in_store, orphans_in_store, builds_call, outgrows_call, call_code}
use Rattle.hir_lower.proofs.call.lower_format_call.Goals as goal

pub returns-in_err-args-clause-builds : goal.returns-in_err-args-clause-builds
returns-in_err-args-clause-builds g c = (length c.as_slice.result.now, builds_within c.in_err-args.ensures.builds (omega arith) (omega arith))

pub returns-in_err-parsed-clause-builds : goal.returns-in_err-parsed-clause-builds
returns-in_err-parsed-clause-builds g c = (length c.as_slice.result.now + c.in_err-parsed.ensures.builds.0, builds_within (builds_then c.in_ok-args.ensures.builds c.in_err-parsed.ensures.builds.1) (omega arith) (omega arith))

pub finish_call-requires-clause-arguments : goal.finish_call-requires-clause-arguments
finish_call-requires-clause-arguments g c =
    arguments_in_store _ c.args.call.now
    (walked _ c.args.call.now c.as_slice.result.now c.as_slice.ensures refl refl c.in_ok-args.ensures.builds c.in_ok-args.ensures.written c.in_ok-parsed.ensures.places
    (c.in_ok-parsed.ensures.parsed (around (g.M.Macros.resolved c.args.macros.now) (g.M.Macros.expanded c.args.macros.now) (collector_of c.args.builder.now c.args.expander.now)) (c.reach-reached.ensures.reached _ (record { resolved_by = refl; expanded_by = refl; file = sym c.requires.rest.file; limit = refl }))))

pub finish_call-requires-clause-orphans : goal.finish_call-requires-clause-orphans
finish_call-requires-clause-orphans g c =
    orphans_in_store _ c.args.call.now
    (walked _ c.args.call.now c.as_slice.result.now c.as_slice.ensures refl refl c.in_ok-args.ensures.builds c.in_ok-args.ensures.written c.in_ok-parsed.ensures.places
    (c.in_ok-parsed.ensures.parsed (around (g.M.Macros.resolved c.args.macros.now) (g.M.Macros.expanded c.args.macros.now) (collector_of c.args.builder.now c.args.expander.now)) (c.reach-reached.ensures.reached _ (record { resolved_by = refl; expanded_by = refl; file = sym c.requires.rest.file; limit = refl }))))

pub returns-in_err-code-clause-within : goal.returns-in_err-code-clause-within
returns-in_err-code-clause-within g c =
    builds_call _ c.args.call.now
    (walked _ c.args.call.now c.as_slice.result.now c.as_slice.ensures refl refl c.in_ok-args.ensures.builds c.in_ok-args.ensures.written c.in_ok-parsed.ensures.places
    (c.in_ok-parsed.ensures.parsed (around (g.M.Macros.resolved c.args.macros.now) (g.M.Macros.expanded c.args.macros.now) (collector_of c.args.builder.now c.args.expander.now)) (c.reach-reached.ensures.reached _ (record { resolved_by = refl; expanded_by = refl; file = sym c.requires.rest.file; limit = refl }))))
    c.in_err-code.ensures.builds

pub returns-clause-within : goal.returns-clause-within
returns-clause-within g c =
    builds_call _ c.args.call.now
    (walked _ c.args.call.now c.as_slice.result.now c.as_slice.ensures refl refl c.in_ok-args.ensures.builds c.in_ok-args.ensures.written c.in_ok-parsed.ensures.places
    (c.in_ok-parsed.ensures.parsed (around (g.M.Macros.resolved c.args.macros.now) (g.M.Macros.expanded c.args.macros.now) (collector_of c.args.builder.now c.args.expander.now)) (c.reach-reached.ensures.reached _ (record { resolved_by = refl; expanded_by = refl; file = sym c.requires.rest.file; limit = refl }))))
    c.in_ok-code.ensures.builds

pub returns-clause-code : goal.returns-clause-code
returns-clause-code g c =
    call_code _ c.args.call.now
    (walked _ c.args.call.now c.as_slice.result.now c.as_slice.ensures refl refl c.in_ok-args.ensures.builds c.in_ok-args.ensures.written c.in_ok-parsed.ensures.places
    (c.in_ok-parsed.ensures.parsed (around (g.M.Macros.resolved c.args.macros.now) (g.M.Macros.expanded c.args.macros.now) (collector_of c.args.builder.now c.args.expander.now)) (c.reach-reached.ensures.reached _ (record { resolved_by = refl; expanded_by = refl; file = sym c.requires.rest.file; limit = refl }))))
    c.finish_call.new.builder c.in_ok-code.code c.in_ok-code.ensures.code c.in_ok-code.ensures.captures

pub returns-in_err-parsed-clause-within : goal.returns-in_err-parsed-clause-within
returns-in_err-parsed-clause-within g c most size =
    let reached = (c.reach-reached.ensures.reached (around (g.M.Macros.resolved c.args.macros.now) (g.M.Macros.expanded c.args.macros.now) (collector_of c.args.builder.now c.args.expander.now)) (record { resolved_by = refl; expanded_by = refl; file = sym c.requires.rest.file; limit = refl })) in
    let grown = c.in_err-parsed.ensures.within _ reached most size in
    builds_within (builds_then c.in_ok-args.ensures.builds grown.builds) (omega (arith, grown.fits, ap length c.as_slice.ensures)) (omega arith)

pub returns-in_err-parsed-clause-full : goal.returns-in_err-parsed-clause-full
returns-in_err-parsed-clause-full g c full most size =
    let reached = (c.reach-reached.ensures.reached (around (g.M.Macros.resolved c.args.macros.now) (g.M.Macros.expanded c.args.macros.now) (collector_of c.args.builder.now c.args.expander.now)) (record { resolved_by = refl; expanded_by = refl; file = sym c.requires.rest.file; limit = refl })) in
    let refused = err_from_is_err_and c.from_residual-in_err-parsed.result c.from_residual-in_err-parsed.ensures.1 in
    let same : refused.0 ≡ ArenaFull = let e = sym refused.1 ∙ full in cc in
    let outgrown = c.in_err-parsed.ensures.full (ap Err (sym refused.2 ∙ same)) _ reached most size in
    outgrows_later _ 0 most 2 c.in_ok-args.ensures.builds outgrown.outgrows (omega (arith, outgrown.fits, ap length c.as_slice.ensures)) (omega arith)

pub returns-in_err-code-clause-full : goal.returns-in_err-code-clause-full
returns-in_err-code-clause-full g c full most size =
    let refused = err_from_is_err_and c.from_residual-in_err-code.result c.from_residual-in_err-code.ensures.1 in
    let same : refused.0 ≡ ArenaFull = let e = sym refused.1 ∙ full in cc in
    outgrows_call _ c.args.call.now
    (walked _ c.args.call.now c.as_slice.result.now c.as_slice.ensures refl refl c.in_ok-args.ensures.builds c.in_ok-args.ensures.written c.in_ok-parsed.ensures.places
    (c.in_ok-parsed.ensures.parsed (around (g.M.Macros.resolved c.args.macros.now) (g.M.Macros.expanded c.args.macros.now) (collector_of c.args.builder.now c.args.expander.now)) (c.reach-reached.ensures.reached _ (record { resolved_by = refl; expanded_by = refl; file = sym c.requires.rest.file; limit = refl }))))
    (c.in_err-code.ensures.full (ap Err (sym refused.2 ∙ same))) most size

pub returns-in_err-code-clause-builds : goal.returns-in_err-code-clause-builds
returns-in_err-code-clause-builds g c = (_, builds_then (builds_then c.in_ok-args.ensures.builds c.in_ok-parsed.ensures.places.builds) c.in_err-code.ensures.builds)

pub returns-clause-builds : goal.returns-clause-builds
returns-clause-builds g c = (_, builds_then (builds_then c.in_ok-args.ensures.builds c.in_ok-parsed.ensures.places.builds) c.in_ok-code.ensures.builds)
