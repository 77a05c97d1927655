use Rattle.std.proofs.Common.{◌≡◌, drop}
use Rattle.ra_cfg.specs.Options.{with_all}
use Rattle.ra_cfg.proofs.cfg_options.CfgOptions.insert_all.Given as goal

abbrev pub invariant-loop-atom : goal.invariant-loop-atom
invariant-loop-atom l = with_all l.self (drop l.atom-index l.atoms) ≡ with_all l.fn.self l.atoms
