use Rattle.std.proofs.Common.{◌≡◌, ◌≤◌, length}
use Rattle.text_cut.specs.Seen.{seen}
use Rattle.syn_trees.specs.ReadString.{raw_in}
use Rattle.syn_trees.proofs.quoted.raw_ends.Given as goal

-- the end of what is left is that of the whole
abbrev pub invariant-loop-behind : goal.invariant-loop-behind
invariant-loop-behind l = record {
  same : raw_in l.marks (seen l.here).at (seen l.here).left ≡ raw_in l.marks (seen l.fn.from).at (seen l.fn.from).left;
  shorter : length l.here.rest.now ≤ length l.fn.from.rest.now;
}

abbrev pub decreases-loop-behind : goal.decreases-loop-behind
decreases-loop-behind l = length l.here.rest.now
