use Rattle.cfg_dnf.proofs.Joined.{hints_of_all}
use Rattle.cfg_dnf.proofs.laws.hints_of_all.Goals as goal

pub returns : goal.returns
returns c = hints_of_all
