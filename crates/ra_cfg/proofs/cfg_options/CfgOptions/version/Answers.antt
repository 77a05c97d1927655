use Rattle.std.proofs.Common.{ap, ◌∙◌}
use Rattle.std.specs.FinMap as finite
use Rattle.ra_cfg.specs.Options.{OptionSet}
use Rattle.ra_cfg.proofs.OptionSets.{kept_answer}
use Rattle.ra_cfg.proofs.cfg_options.CfgOptions.version.Goals as goal

pub returns : goal.returns
returns c = c.copied.ensures ∙ c.get.ensures.value ∙ kept_answer _ _ ∙ ap (λ (o : OptionSet). finite.get o.versions c.args.text.now) c.self.view_is
