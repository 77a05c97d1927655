use Rattle.std.proofs.Common.{length}
use Rattle.la_arena.specs.MapIterMut.{values_mut_left}
use Rattle.la_arena.proofs.MapIterLemmas.{SkipsValuesBack}
use Rattle.la_arena.proofs.map.iter_mut.MapValuesMutDoubleEndedIterator.next_back.Given as goal

-- only empty slots were passed over
abbrev pub invariant-loop-slot : goal.invariant-loop-slot
invariant-loop-slot g l = SkipsValuesBack (values_mut_left l.fn.self) (values_mut_left l.self)

abbrev pub decreases-loop-slot : goal.decreases-loop-slot
decreases-loop-slot g l = length (values_mut_left l.self)
