use Rattle.std.proofs.Common.{refl, subst, ap, arith, length}
use Rattle.std.proofs.lemmas.Result.{IfOk-weaker}
use Rattle.hir_fmt.specs.declared.format_args.FormatArguments.{FormatArguments}
use Rattle.hir_build.proofs.Builds.{builds_none}
use Rattle.hir_lower.specs.CallParsed.{IsReached}
use Rattle.hir_lower.proofs.CallLowered.{parses, places_arguments, grows_within, outgrows_within}
use Rattle.hir_lower.proofs.call.parse_call.Goals as goal

pub returns-clause-parsed : goal.returns-clause-parsed
returns-clause-parsed c a reached =
    IfOk-weaker c.parse_captured.result _ _
    (λ parsed is. parses a c.args.call.now (c.in-Some.literal, c.in-Some.is_direct) (subst (IsReached a c.args.call.now) c.in-Some.is reached) c.args.args c.parse_captured.new.builder is.entries parsed is.usages _ is.places.made is.makes)
    c.parse_captured.ensures.parsed

pub returns-clause-places : goal.returns-clause-places
returns-clause-places c =
    IfOk-weaker c.parse_captured.result _ _
    (λ parsed is. places_arguments c.args.args c.args.builder.now c.parse_captured.new.builder parsed is.entries _ _ _ is.places.builds is.makes)
    c.parse_captured.ensures.parsed

pub returns-clause-within : goal.returns-clause-within
returns-clause-within c a reached most size =
    grows_within a c.args.call.now c.in-Some.literal c.in-Some.is_direct (subst (IsReached a c.args.call.now) c.in-Some.is reached) c.args.builder.now.store c.args.builder.now.file c.args.args c.requires.written most size _ refl refl c.parse_captured.ensures.builds

pub returns-clause-full : goal.returns-clause-full
returns-clause-full c full a reached most size =
    outgrows_within a c.args.call.now c.in-Some.literal c.in-Some.is_direct (subst (IsReached a c.args.call.now) c.in-Some.is reached) c.args.builder.now.store c.args.builder.now.file c.args.args c.requires.written most size _ c.args.builder.now.store refl refl (c.parse_captured.ensures.full full)

pub returns-in_default-clause-places : goal.returns-in_default-clause-places
returns-in_default-clause-places c = record { count = 0; builds = builds_none c.args.builder.now; sum = omega (arith, ap (λ (args : FormatArguments). length args.arguments) c.finish.ensures.value) }
