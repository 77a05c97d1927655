use Rattle.generated_script.proofs.MadeScript.{made_are_scripts}
use Rattle.generated_script.proofs.laws.made_are_scripts.Goals as goal

pub returns : goal.returns
returns c = made_are_scripts
