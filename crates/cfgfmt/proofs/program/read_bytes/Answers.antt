use Rattle.std.proofs.Common.{arith, ◌∙◌}
use Rattle.cfgfmt.proofs.Refusals.{not_script}
use Rattle.cfgfmt.proofs.program.read_bytes.Goals as goal

pub returns-clause-refused : goal.returns-clause-refused
returns-clause-refused c = not_script _ _ _ _ (omega (arith, c.args.bytes.ok)) (c.deref.ensures.value ∙ c.in-Ok.ensures.ended) c.refusal_of.ensures c.in-Err-read_ended.ensures.fault
