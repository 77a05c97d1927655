use Rattle.format_code.proofs.Within.{pairs_within}
use Rattle.format_code.proofs.laws.pairs_within.Goals as goal

pub returns : goal.returns
returns c = record { within = pairs_within }
