use Rattle.cfg_dnf.proofs.ReasonLaws.{reasons_by_leaves}
use Rattle.cfg_dnf.proofs.laws.reasons_by_leaves.Goals as goal

pub returns : goal.returns
returns c = reasons_by_leaves
