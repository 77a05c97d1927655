use Rattle.std.proofs.Common.{length, ◌-◌, ◌+◌}
use Rattle.ra_cfg.proofs.Walking.{IsWalked}
use Rattle.ra_cfg.proofs.cfg_diff.keep_apart.Given as goal

abbrev pub invariant-loop-i : goal.invariant-loop-i
invariant-loop-i l = IsWalked l.fn.left.items l.fn.right.items l.left.items l.right.items l.kept_left l.i l.kept_right l.j

abbrev pub decreases-loop-i : goal.decreases-loop-i
decreases-loop-i l = (length l.left.items - l.i) + (length l.right.items - l.j)
