use Rattle.std.proofs.Common.{◌≡◌, ◌∙◌, ap, sym, Err}
use Rattle.std.proofs.lemmas.Result.{err_from_is_err_and}
use Rattle.template_bytes.specs.declared.error.EncodeError.TheVariants.{TooManyPairs}
use Rattle.template_bytes.proofs.EncoderLaws.{placeholder_taken, too_many}
use Rattle.template_bytes.proofs.encoder.Encoder.push_placeholder.Goals as goal

pub returns-clause-taken : goal.returns-clause-taken
returns-clause-taken c pieces taken =
    placeholder_taken pieces c.args.self.now.pairs _ c.args.placeholder.now c.in_ok-slot.slot c.in_ok-slot.ensures.pairs c.in_ok-slot.ensures.room c.in_ok-slot.ensures.slot
    c.in_ok-push_slot.ensures.bytes c.in_ok-push_slot.ensures.next c.in_ok-push_slot.ensures.literal taken

pub returns-in_err-slot-clause-full : goal.returns-in_err-slot-clause-full
returns-in_err-slot-clause-full c full pieces taken =
    let refused = err_from_is_err_and c.from_residual.result c.from_residual.ensures.1 in
    let same : refused.0 ≡ TooManyPairs = let e = sym refused.1 ∙ full in cc in
    too_many pieces c.args.self.now.pairs c.args.placeholder.now (c.in_err-slot.ensures.full (ap Err (sym refused.2 ∙ same))) taken
