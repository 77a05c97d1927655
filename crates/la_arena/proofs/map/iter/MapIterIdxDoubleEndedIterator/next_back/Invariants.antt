use Rattle.std.proofs.Common.{length}
use Rattle.std.specs.Slice.Iter.{iter_rest}
use Rattle.la_arena.proofs.MapIterLemmas.{SkipsBack}
use Rattle.la_arena.proofs.map.iter.MapIterIdxDoubleEndedIterator.next_back.Given as goal

-- only empty slots were passed over
abbrev pub invariant-loop-slot : goal.invariant-loop-slot
invariant-loop-slot g l = SkipsBack l.fn.self (l.self-inside.first, iter_rest l.self-inside.slots)

abbrev pub decreases-loop-slot : goal.decreases-loop-slot
decreases-loop-slot g l = length (iter_rest l.self-inside.slots)
