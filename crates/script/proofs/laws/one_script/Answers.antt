use Rattle.script.proofs.OneScript.{has_one_reading}
use Rattle.script.proofs.laws.one_script.Goals as goal

pub returns : goal.returns
returns c = has_one_reading
