use Rattle.std.proofs.Common.{length, ◌-◌, ◌≡◌, ◌≤◌, ◌++◌, take, drop}
use Rattle.ra_cfg.proofs.cfg_diff.keep_rest.Given as goal

abbrev pub invariant-loop-next : goal.invariant-loop-next
invariant-loop-next l = record {
  behind : l.end ≤ l.next;
  within : l.next ≤ length l.atoms.items;
  kept : take l.end l.atoms.items ++ drop l.next l.atoms.items ≡ take l.fn.kept l.fn.atoms.items ++ drop l.fn.first l.fn.atoms.items;
}

abbrev pub decreases-loop-next : goal.decreases-loop-next
decreases-loop-next l = length l.atoms.items - l.next
