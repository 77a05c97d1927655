use Rattle.std.proofs.Common.{◌+◌, ap, length, ◌∙◌, arith, le_of_eq}
use Rattle.std.proofs.lemmas.Result.{IfOk-weaker}
use Rattle.hir_build.proofs.Builds.{builds_then, builds_within}
use Rattle.hir_build.proofs.Within.{placed_below}
use Rattle.hir_lower.proofs.Nodes.{tuple_as, let_as}
use Rattle.hir_lower.proofs.Elements.{references_placed, exprs_count}
use Rattle.hir_lower.proofs.format_args.build_tuple.Goals as goal

pub tuple-requires : goal.tuple-requires
tuple-requires c = record { within = placed_below _ _ _ _ c.in_ok-references.ensures.placed }

pub returns-in_err-tuple-clause-builds : goal.returns-in_err-tuple-clause-builds
returns-in_err-tuple-clause-builds c =
    let count = ap length (c.as_slice.ensures.value ∙ c.in_ok-exprs.ensures) ∙ exprs_count c.args.args.now in
    builds_within (builds_then c.in_ok-references.ensures.builds c.in_err-tuple.ensures.builds) (le_of_eq (ap (λ n. n + 1) count)) (omega arith)

pub returns-clause-is : goal.returns-clause-is
returns-clause-is c = IfOk-weaker c.let_fresh.result _ _ (λ made is.
    let references = references_placed _ _ _ _ _ _ (c.as_slice.ensures.value ∙ c.in_ok-exprs.ensures) c.in_ok-references.ensures.placed in
    let_as _ _ _ _ _ _ _ (tuple_as _ _ _ _ _ _ _ references c.in_ok-tuple.ensures.placed) is) c.let_fresh.ensures.is

pub returns-clause-builds : goal.returns-clause-builds
returns-clause-builds c =
    let count = ap length (c.as_slice.ensures.value ∙ c.in_ok-exprs.ensures) ∙ exprs_count c.args.args.now in
    builds_within (builds_then c.in_ok-references.ensures.builds (builds_then c.in_ok-tuple.ensures.builds c.let_fresh.ensures.builds)) (le_of_eq (ap (λ n. n + 1) count)) (omega arith)
