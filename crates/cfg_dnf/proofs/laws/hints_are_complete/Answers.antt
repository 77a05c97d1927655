use Rattle.cfg_dnf.proofs.HintLaws.{hints_are_complete}
use Rattle.cfg_dnf.proofs.laws.hints_are_complete.Goals as goal

pub returns : goal.returns
returns c = hints_are_complete
