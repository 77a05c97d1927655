use Rattle.template_bytes.proofs.EncoderLaws.{taken_begun}
use Rattle.template_bytes.proofs.encoder.Encoder.new.Goals as goal

pub returns : goal.returns
returns c = taken_begun c.new.ensures c.new-2.ensures.bytes c.new-2.ensures.next c.new-2.ensures.literal
