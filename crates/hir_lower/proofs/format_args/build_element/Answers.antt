use Rattle.std.proofs.lemmas.Result.{IfOk-weaker}
use Rattle.hir_build.proofs.Builds.{builds_then}
use Rattle.hir_lower.proofs.Nodes.{placed_kept, row_of_one, call_as}
use Rattle.hir_lower.proofs.format_args.build_element.Goals as goal

pub returns-clause-placed : goal.returns-clause-placed
returns-clause-placed c = IfOk-weaker c.call.result _ _ (λ made call.
    let field = placed_kept _ _ _ c.in_ok-callee.ensures.builds c.in_ok-field.ensures.placed in
    let function = rw (c.in_ok-field.ensures.builds.items, c.in_ok-field.ensures.builds.file, c.function_of-function.ensures) at c.in_ok-callee.ensures.placed in
    call_as _ _ _ _ _ _ _ _ _ _ function (row_of_one _ _ _ _ _ c.in_ok-args.ensures field) call) c.call.ensures.placed

pub returns-clause-builds : goal.returns-clause-builds
returns-clause-builds c = builds_then c.in_ok-field.ensures.builds (builds_then c.in_ok-callee.ensures.builds c.call.ensures.builds)
