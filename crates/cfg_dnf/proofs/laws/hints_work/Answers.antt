use Rattle.cfg_dnf.proofs.HintLaws.{hints_work}
use Rattle.cfg_dnf.proofs.laws.hints_work.Goals as goal

pub returns : goal.returns
returns c = hints_work
