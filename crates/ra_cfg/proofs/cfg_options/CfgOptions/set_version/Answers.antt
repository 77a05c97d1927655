use Rattle.std.proofs.Common.{ap, ◌∙◌}
use Rattle.ra_cfg.specs.Options.{OptionSet, with_answer}
use Rattle.ra_cfg.proofs.OptionSets.{map_of_insert, options}
use Rattle.ra_cfg.proofs.cfg_options.CfgOptions.set_version.Goals as goal

pub returns-clause-ok : goal.returns-clause-ok
returns-clause-ok c =
    ap (options _) (map_of_insert c.self.inside.versions c.insert.new.self c.args.text c.args.answer c.in_ok-insert.ensures.updates) ∙ ap (λ (o : OptionSet). with_answer o c.args.text c.args.answer) c.self.view_is
