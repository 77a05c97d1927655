use Rattle.std.proofs.Common.{ap, ◌++◌, ◌∙◌, string_bytes}
use Rattle.hir_lower.proofs.Pieces.{text_by_literal, text_by_placeholder}
use Rattle.hir_lower.proofs.format_args.text_of.Goals.{in-Literal+in_ok-push_str-in-Literal, in-Placeholder}
use Rattle.hir_lower.proofs.format_args.text_of.Goals as goal

pub loop-piece-preserved : goal.loop-piece-preserved
loop-piece-preserved c = elim c.match-piece.branch [
  | in-Literal+in_ok-push_str-in-Literal w ↦
      let on = ap string_bytes w.text-is ∙ w.in_ok-push_str-in-Literal.ensures.bytes ∙ ap (λ l. string_bytes c.loop-piece.text ++ l) w.as_str.ensures in
      text_by_literal _ _ _ c.loop-piece-test.true c.piece-item.is _ _ _ _ on w.in-Literal.is c.loop-piece.invariant
  | in-Placeholder w ↦ rw w.text-is (text_by_placeholder _ _ _ c.loop-piece-test.true c.piece-item.is _ _ _ w.in-Placeholder.is c.loop-piece.invariant)
]
