use Rattle.std.proofs.Common.{rules}
use Rattle.la_arena.proofs.MapIterLemmas.{SkipsValuesBack-empty, SkipsValuesBack-held}
use Rattle.la_arena.proofs.map.iter.MapValuesDoubleEndedIterator.next_back.Goals as goal

pub returns-in-Some-slot-clause-steps : goal.returns-in-Some-slot-clause-steps
returns-in-Some-slot-clause-steps g c =
    let found = SkipsValuesBack-held _ _ _ c.in-Some-slot.value (rw c.in-Some-slot.is at c.in-Some.ensures.steps) c.loop-slot.invariant in
    (found.all, found.leaves)

pub returns-in-Some-slot-clause-goes : goal.returns-in-Some-slot-clause-goes
returns-in-Some-slot-clause-goes g c =
    let found = SkipsValuesBack-held _ _ _ c.in-Some-slot.value (rw c.in-Some-slot.is at c.in-Some.ensures.steps) c.loop-slot.invariant in
    let fewer = found.fewer in
    search rules

pub loop-slot-preserved : goal.loop-slot-preserved
loop-slot-preserved g c =
    SkipsValuesBack-empty _ _ _ (rw c.in_default-slot.is at c.in-Some.ensures.steps) c.loop-slot.invariant
