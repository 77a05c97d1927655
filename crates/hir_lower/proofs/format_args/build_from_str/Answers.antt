use Rattle.std.proofs.Common.{arith}
use Rattle.std.proofs.lemmas.Result.{IfOk-weaker}
use Rattle.hir_store.specs.declared.lang_item.LangItem.TheVariants.{FormatArguments}
use Rattle.hir_build.proofs.Builds.{builds_then, builds_within}
use Rattle.hir_lower.proofs.Nodes.{placed_kept, row_of_one, callee_bare, call_as}
use Rattle.hir_lower.proofs.format_args.build_from_str.Goals as goal

pub returns-clause-placed : goal.returns-clause-placed
returns-clause-placed c = IfOk-weaker c.call.result _ _ (λ made call.
    let function = rw (callee_bare c.args.builder.now.items FormatArguments c.args.builder.now.file) at (placed_kept _ _ _ c.in_ok-text.ensures.builds c.in_ok-from_str.ensures.placed) in
    let built = builds_then c.in_ok-from_str.ensures.builds c.in_ok-text.ensures.builds in
    rw (← built.file) (call_as _ _ _ _ _ _ _ _ _ _ function (row_of_one _ _ _ _ _ c.in_ok-args.ensures c.in_ok-text.ensures.placed) call)) c.call.ensures.placed

pub returns-clause-builds : goal.returns-clause-builds
returns-clause-builds c = builds_within (builds_then c.in_ok-from_str.ensures.builds (builds_then c.in_ok-text.ensures.builds c.call.ensures.builds)) (omega arith) (omega arith)
