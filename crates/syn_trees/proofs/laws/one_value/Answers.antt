use Rattle.syn_trees.proofs.Values.{one_value, value_found, value_is}
use Rattle.syn_trees.proofs.laws.one_value.Goals as goal

pub returns : goal.returns
returns c = record { one = one_value; found = value_found; is = value_is }
