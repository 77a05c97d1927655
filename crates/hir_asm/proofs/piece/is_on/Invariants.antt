use Rattle.std.specs.Prelude.{◌≡◌, drop, map}
use Rattle.ra_cfg.specs.Reading.{is_off}
use Rattle.ra_cfg.specs.Syntax.{meaning}
use Rattle.hir_asm.proofs.piece.is_on.Given as goal

abbrev pub invariant-loop-cfg : goal.invariant-loop-cfg
invariant-loop-cfg l = is_off l.opts (map meaning (drop l.cfg-index l.cfgs)) ≡ is_off l.opts (map meaning l.cfgs)
