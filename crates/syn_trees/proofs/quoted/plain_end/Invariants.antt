use Rattle.std.proofs.Common.{◌≡◌, false, ◌≤◌, length}
use Rattle.text_cut.specs.Seen.{seen}
use Rattle.syn_trees.specs.ReadString.{plain_in}
use Rattle.syn_trees.proofs.quoted.plain_end.Given as goal

-- the end of what is left is that of the whole
abbrev pub invariant-loop-c : goal.invariant-loop-c
invariant-loop-c l = record {
  same : plain_in l.escaped (seen l.here).at (seen l.here).left ≡ plain_in false (seen l.fn.from).at (seen l.fn.from).left;
  shorter : length l.here.rest.now ≤ length l.fn.from.rest.now;
}

abbrev pub decreases-loop-c : goal.decreases-loop-c
decreases-loop-c l = length l.here.rest.now
