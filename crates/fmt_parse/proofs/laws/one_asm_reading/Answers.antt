use Rattle.fmt_parse.proofs.AsmReadings.{has_one_asm_reading}
use Rattle.fmt_parse.proofs.laws.one_asm_reading.Goals as goal

pub returns : goal.returns
returns c = has_one_asm_reading
