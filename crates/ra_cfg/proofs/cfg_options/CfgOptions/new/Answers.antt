use Rattle.ra_cfg.proofs.OptionSets.{settable_first}
use Rattle.ra_cfg.proofs.cfg_options.CfgOptions.new.Goals as goal

pub invariant_of-result : goal.invariant_of-result
invariant_of-result c = settable_first _ _ _ c.new-enabled.ensures.empty c.in_ok-name.ensures c.in_ok-insert.ensures.updates
