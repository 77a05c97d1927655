use Rattle.cfg_dnf.proofs.WalkLaws.{walks_in_order}
use Rattle.cfg_dnf.proofs.laws.walks_in_order.Goals as goal

pub returns : goal.returns
returns c = walks_in_order
