use Rattle.std.proofs.Common.{◌≡◌, ◌++◌}
use Rattle.ra_cfg.proofs.cfg_options.listed_atoms.Given as goal

abbrev pub invariant-loop-atom : goal.invariant-loop-atom
invariant-loop-atom l = l.atoms.items ++ l.atom-iterator ≡ l.enabled.keys
