use Rattle.std.proofs.Common.{◌≡◌, ◌+◌, ◌*◌, ◌≤◌, length}
use Rattle.script_tokens.specs.Ahead.{ahead, end}
use Rattle.script_tokens.specs.Many.{ManySoFar}
use Rattle.script_grammar.specs.Trees.{tree_by, group_in}
use Rattle.script_grammar.proofs.trees.+trees.Given as goal

-- A group's trees have less depth left; among the functions at one depth, each is below its caller.
abbrev pub decreases-group : goal.decreases-group
decreases-group l = 8 * l.depth

abbrev pub decreases-tree_of : goal.decreases-tree_of
decreases-tree_of l = 8 * l.depth + 1

abbrev pub decreases-tree : goal.decreases-tree
decreases-tree l = 8 * l.depth + 2

abbrev pub decreases-trees_in : goal.decreases-trees_in
decreases-trees_in l = 8 * l.depth + 3

-- these trees were read from the start on
abbrev pub invariant-trees_in-loop-trees : goal.invariant-trees_in-loop-trees
invariant-trees_in-loop-trees l = record {
  so_far : ManySoFar (tree_by (group_in l.fn.depth)) (ahead l.fn.here) l.trees (ahead l.after);
  same_end : end l.after ≡ end l.fn.here;
  fewer : length (ahead l.after) ≤ length (ahead l.fn.here);
}

abbrev pub decreases-trees_in-loop-trees : goal.decreases-trees_in-loop-trees
decreases-trees_in-loop-trees l = length (ahead l.after)
