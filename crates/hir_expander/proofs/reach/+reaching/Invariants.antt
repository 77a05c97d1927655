use Rattle.std.proofs.Common.{◌+◌, ◌-◌, ◌*◌}
use Rattle.hir_expander.proofs.reach.+reaching.Given as goal

abbrev pub decreases-reach : goal.decreases-reach
decreases-reach g l = 2 * (l.expander.now.limit + 1 - l.expander.now.depth)

abbrev pub decreases-reach_inside : goal.decreases-reach_inside
decreases-reach_inside g l = 2 * (l.expander.now.limit + 1 - l.expander.now.depth) + 1
