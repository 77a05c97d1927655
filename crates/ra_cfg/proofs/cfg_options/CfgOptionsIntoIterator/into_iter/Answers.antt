use Rattle.std.proofs.Common.{◌∙◌, ap}
use Rattle.ra_cfg.specs.Options.{OptionSet}
use Rattle.ra_cfg.proofs.Kept.{lists_kept}
use Rattle.ra_cfg.proofs.cfg_options.CfgOptionsIntoIterator.into_iter.Goals as goal

pub returns : goal.returns
returns c = record { into_iter_gives = lists_kept _ _ c.args.self c.into_iter.ensures.into_iter_gives.4 (c.new.ensures ∙ c.into_iter.ensures.into_iter_gives.0) (ap (λ (o : OptionSet). o.atoms) c.self.view_is) }
