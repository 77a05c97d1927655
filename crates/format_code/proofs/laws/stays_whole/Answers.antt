use Rattle.format_code.proofs.Whole.{stays_whole}
use Rattle.format_code.proofs.laws.stays_whole.Goals as goal

pub returns : goal.returns
returns c = record { whole = stays_whole }
