use Rattle.std.proofs.Common.{refl, ap, arith}
use Rattle.std.proofs.lemmas.Result.{IfOk-weaker}
use Rattle.hir_store.specs.declared.lang_item.LangItem.TheVariants.{FormatArguments}
use Rattle.hir_store.specs.Tree.{Bytes}
use Rattle.hir_build.proofs.Placed.{placed_as}
use Rattle.hir_build.proofs.Builds.{builds_then, builds_within}
use Rattle.hir_lower.proofs.Nodes.{placed_kept, row_of_two, callee_bare, reference_kept, call_as}
use Rattle.hir_lower.proofs.format_args.build_new_call.Goals as goal

pub returns-in_err-reference-clause-builds : goal.returns-in_err-reference-clause-builds
returns-in_err-reference-clause-builds c = builds_within (builds_then c.in_ok-template.ensures.builds (builds_then c.in_ok-new.ensures.builds c.in_err-reference.ensures.builds)) (omega arith) (omega arith)

pub returns-in_err-args-clause-builds : goal.returns-in_err-args-clause-builds
returns-in_err-args-clause-builds c = builds_within (builds_then c.in_ok-template.ensures.builds (builds_then c.in_ok-new.ensures.builds c.in_ok-reference.ensures.builds)) (omega arith) (omega arith)

pub returns-clause-placed : goal.returns-clause-placed
returns-clause-placed c = IfOk-weaker c.call.result _ _ (λ made call.
    let template = placed_as _ _ _ _ _ _ (ap Bytes c.in_ok-bytes.ensures) refl (placed_kept _ _ _ (builds_then c.in_ok-new.ensures.builds c.in_ok-reference.ensures.builds) c.in_ok-template.ensures.placed) in
    let bare = callee_bare c.literal.new.self.items FormatArguments c.literal.new.self.file in
    let function = rw (bare, c.in_ok-template.ensures.builds.items) at (placed_kept _ _ _ c.in_ok-reference.ensures.builds c.in_ok-new.ensures.placed) in
    let reference = reference_kept _ _ _ (builds_then c.in_ok-template.ensures.builds c.in_ok-new.ensures.builds) c.requires.within c.in_ok-reference.ensures.placed in
    call_as _ _ _ _ _ _ _ _ _ _ function (row_of_two _ _ _ _ _ _ _ _ c.in_ok-args.ensures template reference) call) c.call.ensures.placed

pub returns-clause-builds : goal.returns-clause-builds
returns-clause-builds c = builds_then c.in_ok-template.ensures.builds (builds_then c.in_ok-new.ensures.builds (builds_then c.in_ok-reference.ensures.builds c.call.ensures.builds))
