use Rattle.std.proofs.Common.{◌∙◌}
use Rattle.std.proofs.lemmas.Result.{err_from_is_err_and}
use Rattle.la_arena.proofs.map.ArenaMap+Idx+T+V.extend.Goals as goal

pub returns-in_err-insert : goal.returns-in_err-insert
returns-in_err-insert g c =
    let told = err_from_is_err_and c.from_residual.result c.from_residual.ensures.1 in
    rw told.1 (
      c.into_iter-idx-iterator.result,
      c.loop-idx.yielded,
      c.into_iter-idx-iterator.ensures.into_iter_gives,
      c.in_err-insert.ensures.err ∙ c.loop-idx.invariant.2,
      ((c.in-Some.idx, c.in-Some.value), c.next.new.self, (c.loop-idx.idx-iterator, c.loop-idx.yielded_by, c.in-Some.ensures.steps)),
    )
