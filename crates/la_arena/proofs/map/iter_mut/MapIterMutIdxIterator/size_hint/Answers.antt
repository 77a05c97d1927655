use Rattle.std.proofs.Common.{arith}
use Rattle.la_arena.specs.MapIterMut.{pairs_mut_left}
use Rattle.la_arena.proofs.MapIterLemmas.{length-pairs_left}
use Rattle.la_arena.proofs.map.iter_mut.MapIterMutIdxIterator.size_hint.Goals as goal

pub returns-clause-upper : goal.returns-clause-upper
returns-clause-upper g c =
    (tt, omega (arith, length-pairs_left (pairs_mut_left c.args.self.now), c.len.ensures.value))
