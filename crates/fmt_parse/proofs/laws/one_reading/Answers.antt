use Rattle.fmt_parse.proofs.Readings.{has_one_reading}
use Rattle.fmt_parse.proofs.laws.one_reading.Goals as goal

pub returns : goal.returns
returns c = has_one_reading
