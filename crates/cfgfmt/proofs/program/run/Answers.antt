use Rattle.std.proofs.Common.{inr, subst, sym}
use Rattle.cfgfmt.specs.Session.{IsNew}
use Rattle.cfgfmt.proofs.Complete.{success_sent, good_told}
use Rattle.cfgfmt.proofs.Refusals.{told_front, told_whole}
use Rattle.cfgfmt.proofs.Room.{small_room}
use Rattle.cfgfmt.proofs.program.run.Goals as goal

pub returns-in-Err-clause-refuses : goal.returns-in-Err-clause-refuses
returns-in-Err-clause-refuses g c = λ zero five. told_whole c.args.words.now (g.S.Source.state c.args.source.now) (g.S.Source.state c.answer.new.source)
    (g.K.Sink.state c.args.sink.now) (g.K.Sink.state c.tell.new.sink) c.answer.new.session (subst IsNew (sym c.in-Err.ensures.kept) c.requires) c.tell.result
    c.in-Err.refusal c.in-Err.ensures.refused five c.tell.ensures.told

pub returns-in-Err-clause-part : goal.returns-in-Err-clause-part
returns-in-Err-clause-part g c five = inr (told_front c.args.words.now (g.S.Source.state c.args.source.now) (g.S.Source.state c.answer.new.source)
    (g.K.Sink.state c.args.sink.now) (g.K.Sink.state c.tell.new.sink) c.answer.new.session (subst IsNew (sym c.in-Err.ensures.kept) c.requires) c.tell.result
    c.in-Err.refusal c.in-Err.ensures.refused five c.tell.ensures.told)

pub returns-in-Err-clause-room : goal.returns-in-Err-clause-room
returns-in-Err-clause-room g c five room is = small_room c.args.words.now (g.S.Source.state c.args.source.now) (g.S.Source.state c.answer.new.source)
    (g.K.Sink.state c.args.sink.now) (g.K.Sink.state c.tell.new.sink) c.answer.new.session room is (returns-in-Err-clause-part g c five)

pub returns-in-Err-clause-complete : goal.returns-in-Err-clause-complete
returns-in-Err-clause-complete g c good = good_told c.args.words.now (g.S.Source.state c.args.source.now) (g.S.Source.state c.answer.new.source) c.tell.result good
    (g.K.Sink.state c.args.sink.now) (g.K.Sink.state c.tell.new.sink) c.in-Err.refusal c.in-Err.ensures.refused c.tell.ensures.told

pub returns-in-Ok-clause-complete : goal.returns-in-Ok-clause-complete
returns-in-Ok-clause-complete g c = λ good. success_sent good.command c.send.result (g.K.Sink.state c.args.sink.now) (g.K.Sink.state c.send.new.sink) c.deref.result.now c.send.ensures.sent
