use Rattle.std.proofs.Common.{◌≡◌, length}
use Rattle.ra_cfg.specs.Options.{values_at}
use Rattle.ra_cfg.proofs.cfg_iter.CfgValuesIterator.next.Given as goal

abbrev pub invariant-loop-atom : goal.invariant-loop-atom
invariant-loop-atom l = values_at l.self-inside.key.now l.self-inside.atoms ≡ l.fn.self

abbrev pub decreases-loop-atom : goal.decreases-loop-atom
decreases-loop-atom l = length l.self-inside.atoms
