use Rattle.std.proofs.Common.{◌∙◌, arith}
use Rattle.ra_cfg.proofs.Walking.{moved}
use Rattle.ra_cfg.proofs.cfg_diff.keep_rest.Goals as goal

pub loop-next-preserved : goal.loop-next-preserved
loop-next-preserved c = record {
  behind = omega (arith, c.loop-next.invariant.behind);
  within = omega (arith, c.loop-next-test.true, c.keep.ensures.length);
  kept = moved c.loop-next.atoms.items c.keep.new.atoms.items c.loop-next.end c.loop-next.next (omega (arith, c.loop-next-test.true)) c.keep.ensures.front c.keep.ensures.rest ∙ c.loop-next.invariant.kept;
}
