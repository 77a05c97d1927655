use Rattle.syn_trees.proofs.AsWritten.{value_written}
use Rattle.syn_trees.proofs.laws.values_as_written.Goals as goal

pub returns : goal.returns
returns c = record { same = value_written }
