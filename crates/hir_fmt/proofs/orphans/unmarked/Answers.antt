use Rattle.std.proofs.Common.{ap, ◌∙◌, sym, take, ◌≡◌, ◌<◌, length, ◌∷◌, [], ◌++◌, arith}
use Rattle.std.proofs.lemmas.List.{take_more, length-take-le}
use Rattle.hir_fmt.proofs.Marks.{unmarked_turn}
use Rattle.hir_fmt.proofs.orphans.unmarked.Goals as goal

pub loop-at-preserved : goal.loop-at-preserved
loop-at-preserved c =
    let i = c.loop-at.at in
    let marks = c.args.marks.now in
    let args = c.args.args.now in
    let in_args : i < length args = omega arith in
    let in_marks : i < length marks = omega arith in
    let same : length (take i marks) ≡ length (take i args) = length-take-le i marks (omega arith) ∙ sym (length-take-le i args (omega arith)) in
    unmarked_turn marks args i _ c.index-args-at.result _ _ same
    (take_more marks i _ in_marks)
    (take_more args i c.index-args-at.result in_args ∙ ap (λ x. take i args ++ x ∷ []) (sym c.index-args-at.is))
    c.loop-at.invariant c.in_ok-keep.ensures
