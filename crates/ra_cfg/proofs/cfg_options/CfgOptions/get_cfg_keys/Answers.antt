use Rattle.std.proofs.Common.{ap}
use Rattle.ra_cfg.specs.Options.{OptionSet}
use Rattle.ra_cfg.proofs.Kept.{lists_kept}
use Rattle.ra_cfg.proofs.cfg_options.CfgOptions.get_cfg_keys.Goals as goal

pub returns : goal.returns
returns c = (c.iter.result, lists_kept _ _ c.args.self.now c.iter.ensures.ordered c.iter.ensures.rest (ap (λ (o : OptionSet). o.atoms) c.self.view_is), c.new.ensures)
