use Rattle.std.proofs.Common.{rules}
use Rattle.ra_cfg.proofs.Writing.{wrote_more, wrote_all}
use Rattle.ra_cfg.proofs.cfg_text.write_inside.Goals as goal

pub loop-c-preserved : goal.loop-c-preserved
loop-c-preserved g c = wrote_more _ _ _ _ _ _ _ _ _ c.loop-c.invariant c.in-Some.ensures.steps.0 (λ plain. c.write_escaped.ensures plain (search rules))

pub returns : goal.returns
returns g c = λ plain ok. wrote_all _ _ _ _ _ _ c.utf8.text c.loop-c.invariant c.in-None.ensures.steps.0.0 plain
