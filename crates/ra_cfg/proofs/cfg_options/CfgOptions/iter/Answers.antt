use Rattle.std.proofs.Common.{◌∙◌, ap, subst}
use Rattle.ra_cfg.specs.Options.{OptionSet, IsSettable}
use Rattle.ra_cfg.proofs.Kept.{lists_kept}
use Rattle.ra_cfg.proofs.cfg_options.CfgOptions.iter.Goals as goal

pub returns-clause-lists : goal.returns-clause-lists
returns-clause-lists c = lists_kept _ _ c.args.self.now c.iter.ensures.ordered (c.new.ensures ∙ c.iter.ensures.rest) (ap (λ (o : OptionSet). o.atoms) c.self.view_is)

pub returns-clause-settable : goal.returns-clause-settable
returns-clause-settable c = subst IsSettable (ap (λ (o : OptionSet). o.atoms) c.self.view_is) c.self.invariant
