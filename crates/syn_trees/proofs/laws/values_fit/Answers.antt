use Rattle.syn_trees.proofs.Lengths.{values_fit as law}
use Rattle.syn_trees.proofs.laws.values_fit.Goals as goal

pub returns : goal.returns
returns c = law
