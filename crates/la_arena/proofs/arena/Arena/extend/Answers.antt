use Rattle.std.proofs.Common.{sym, append-nil}
use Rattle.la_arena.proofs.arena.Arena.extend.Goals as goal

pub loop-value-init : goal.loop-value-init
loop-value-init g c =
    let ready = c.requires _ c.into_iter-value-iterator.ensures.into_iter_gives in
    (ready.0, ready.1, sym (append-nil _))
