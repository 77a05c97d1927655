use Rattle.std.proofs.Common.{◌∙◌}
use Rattle.template_bytes.proofs.EncoderLaws.{end_taken}
use Rattle.template_bytes.proofs.encoder.Encoder.finish.Goals as goal

pub returns-clause-encoded : goal.returns-clause-encoded
returns-clause-encoded c pieces taken = record {
  bytes = end_taken pieces c.args.self.pairs c.in_ok-bytes.ensures taken;
  pairs = c.into_set.ensures ∙ taken.pairs_are;
}
