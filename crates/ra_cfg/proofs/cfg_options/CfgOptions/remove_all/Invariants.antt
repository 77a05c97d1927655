use Rattle.std.proofs.Common.{◌≡◌, drop}
use Rattle.ra_cfg.specs.Options.{without_all}
use Rattle.ra_cfg.proofs.cfg_options.CfgOptions.remove_all.Given as goal

abbrev pub invariant-loop-atom : goal.invariant-loop-atom
invariant-loop-atom l = without_all l.self (drop l.atom-index l.atoms) ≡ without_all l.fn.self l.atoms
