use Rattle.std.proofs.Common.{ap, ◌∙◌, sym, take, ◌∷◌, [], ◌++◌}
use Rattle.std.proofs.lemmas.List.{take_more}
use Rattle.hir_fmt.proofs.Marks.{marked_turn}
use Rattle.hir_fmt.proofs.orphans.marks_of.Goals as goal

pub loop-piece-preserved : goal.loop-piece-preserved
loop-piece-preserved c =
    let i = c.loop-piece.piece-index in
    let pieces = c.args.template.now in
    record {
      marks = marked_turn pieces i c.piece-item.result _ _ _
          (take_more pieces i c.piece-item.result c.loop-piece-test.true ∙ ap (λ x. take i pieces ++ x ∷ []) (sym c.piece-item.is))
          c.loop-piece.invariant.marks c.mark_piece.ensures.marks;
      len = c.mark_piece.ensures.len ∙ c.loop-piece.invariant.len;
    }
