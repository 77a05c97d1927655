use Rattle.fmt_parse.proofs.Ranges.{asm_pieces_within}
use Rattle.fmt_parse.proofs.laws.asm_pieces_stand_within.Goals as goal

pub returns : goal.returns
returns c = record { within = asm_pieces_within }
