use Rattle.ra_cfg.specs.Options.{TakesIn}
use Rattle.ra_cfg.proofs.cfg_options.CfgOptions.extend.Given as goal

abbrev pub invariant-loop-atom : goal.invariant-loop-atom
invariant-loop-atom g l = TakesIn l.fn.self l.yielded l.self
