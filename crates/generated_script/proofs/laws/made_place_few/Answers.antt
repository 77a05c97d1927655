use Rattle.generated_script.proofs.MadeFew.{made_place_few}
use Rattle.generated_script.proofs.laws.made_place_few.Goals as goal

pub returns : goal.returns
returns c = made_place_few
