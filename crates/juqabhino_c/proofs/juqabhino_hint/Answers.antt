use Rattle.std.proofs.Common.{inl, subst}
use Rattle.juqabhino_c.specs.Questions.{TellsHint}
use Rattle.juqabhino_c.proofs.juqabhino_hint.Goals as goal

pub returns-in-Ok : goal.returns-in-Ok
returns-in-Ok c = inl (record {
  set = c.in-Ok.ensures.asks.set;
  expr = c.in-Ok.ensures.asks.expr;
  asks = c.in-Ok.ensures.asks.asks;
  holds = subst (λ found. TellsHint found c.args.number.now c.tell_hint.new.number c.args.room.now c.tell_hint.new.room c.tell_hint.new.told c.tell_hint.result) c.in-Ok.ensures.asks.holds c.tell_hint.ensures;
})
