use Rattle.std.specs.Prelude.{◌≡◌, drop}
use Rattle.ra_cfg.specs.Reading.{is_off}
use Rattle.hir_expander.specs.Gate.{first_off}
use Rattle.hir_expander.proofs.expander.Expander.is_cfg_enabled.Given as goal

abbrev pub invariant-loop-cfg : goal.invariant-loop-cfg
invariant-loop-cfg l = (first_off l.opts (drop l.cfg-index l.cfgs) ≡ first_off l.opts l.cfgs) × (is_off l.opts (drop l.cfg-index l.cfgs) ≡ is_off l.opts l.cfgs)
