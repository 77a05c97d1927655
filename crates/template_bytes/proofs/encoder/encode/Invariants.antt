use Rattle.std.specs.Prelude.{take}
use Rattle.template_bytes.specs.Encoder.{HasTaken}
use Rattle.template_bytes.proofs.encoder.encode.Given as goal

abbrev pub invariant-loop-piece : goal.invariant-loop-piece
invariant-loop-piece l = HasTaken l.encoder (take l.piece-index l.template)
