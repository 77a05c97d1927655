use Rattle.std.specs.Prelude.{take}
use Rattle.std.proofs.Common.{◌≡◌, ◌∙◌, ap, sym, subst, Err}
use Rattle.std.proofs.lemmas.Result.{err_from_is_err_and}
use Rattle.template_bytes.specs.Encoder.{HasTaken}
use Rattle.template_bytes.specs.declared.error.EncodeError.TheVariants.{TooManyPairs}
use Rattle.template_bytes.proofs.EncoderLaws.{next_piece, too_many_of_all}
use Rattle.template_bytes.proofs.encoder.encode.Goals as goal

pub loop-piece-preserved : goal.loop-piece-preserved
loop-piece-preserved c =
    subst (HasTaken c.push.new.self) (sym (next_piece c.args.template.now c.loop-piece.piece-index c.piece-item.result c.loop-piece-test.true c.piece-item.is))
    (c.in_ok-push.ensures.taken (take c.loop-piece.piece-index c.args.template.now) c.loop-piece.invariant)

pub returns-in_err-push-clause-full : goal.returns-in_err-push-clause-full
returns-in_err-push-clause-full c full =
    let refused = err_from_is_err_and c.from_residual.result c.from_residual.ensures.1 in
    let same : refused.0 ≡ TooManyPairs = let e = sym refused.1 ∙ full in cc in
    too_many_of_all c.args.template.now c.loop-piece.piece-index c.piece-item.result
    (next_piece c.args.template.now c.loop-piece.piece-index c.piece-item.result c.loop-piece-test.true c.piece-item.is)
    (c.in_err-push.ensures.full (ap Err (sym refused.2 ∙ same)) (take c.loop-piece.piece-index c.args.template.now) c.loop-piece.invariant)
