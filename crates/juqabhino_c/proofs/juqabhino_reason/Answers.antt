use Rattle.std.proofs.Common.{inl, subst}
use Rattle.juqabhino_c.specs.Questions.{Tells}
use Rattle.juqabhino_c.proofs.juqabhino_reason.Goals as goal

pub returns-in-Ok : goal.returns-in-Ok
returns-in-Ok c = inl (record {
  set = c.in-Ok.ensures.asks.set;
  expr = c.in-Ok.ensures.asks.expr;
  asks = c.in-Ok.ensures.asks.asks;
  holds = subst (λ text. Tells text c.args.room.now c.tell.new.room c.tell.new.told c.tell.result) c.in-Ok.ensures.asks.holds c.tell.ensures;
})
