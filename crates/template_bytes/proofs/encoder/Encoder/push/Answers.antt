use Rattle.std.specs.Prelude.{[], ◌∷◌, ◌++◌}
use Rattle.std.proofs.Common.{sym, subst, ap}
use Rattle.hir_fmt.specs.declared.format_args.FormatArgsPiece.TheVariants.{Literal}
use Rattle.template_bytes.specs.Encoder.{HasTaken}
use Rattle.template_bytes.proofs.EncoderLaws.{text_taken}
use Rattle.template_bytes.proofs.encoder.Encoder.push.Goals as goal

pub returns-in_ok-push_text-in-Literal-clause-taken : goal.returns-in_ok-push_text-in-Literal-clause-taken
returns-in_ok-push_text-in-Literal-clause-taken c pieces taken =
    let more = c.in_ok-push_text-in-Literal.ensures in
    subst (λ piece. HasTaken (record { pairs = c.args.self.now.pairs; draft = c.push_text.new.self }) (pieces ++ piece ∷ [])) (sym c.in-Literal.is)
    (subst (λ text. HasTaken (record { pairs = c.args.self.now.pairs; draft = c.push_text.new.self }) (pieces ++ Literal text ∷ [])) c.as_str.ensures
    (text_taken pieces c.args.self.now.pairs c.as_str.result.now c.as_str.utf8 more.literal (ap (λ v. v.items) more.bytes) more.next taken))
