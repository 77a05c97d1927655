use Rattle.std.proofs.Common.{inl, subst, ◌∙◌}
use Rattle.cfgfmt.specs.Run.{IsSent}
use Rattle.cfgfmt.proofs.program.tell_line.Goals as goal

pub returns-in-Ok-clause-told : goal.returns-in-Ok-clause-told
returns-in-Ok-clause-told g c = inl (subst (IsSent 3 c.send.result (g.K.Sink.state c.args.sink.now) (g.K.Sink.state c.send.new.sink)) (c.as_bytes.ensures.value ∙ c.in-Ok.ensures.ok) c.send.ensures.sent)
