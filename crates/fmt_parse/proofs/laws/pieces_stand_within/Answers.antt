use Rattle.fmt_parse.proofs.Ranges.{pieces_within}
use Rattle.fmt_parse.proofs.laws.pieces_stand_within.Goals as goal

pub returns : goal.returns
returns c = record { within = pieces_within }
