use Rattle.std.proofs.Common.{length}
use Rattle.std.specs.Vec.Iter.{into_iter_items}
use Rattle.la_arena.proofs.MapIterLemmas.{SkipsBack}
use Rattle.la_arena.proofs.map.into_iter.ArenaMapIterIdxDoubleEndedIterator.next_back.Given as goal

-- only empty slots were passed over
abbrev pub invariant-loop-slot : goal.invariant-loop-slot
invariant-loop-slot g l = SkipsBack l.fn.self (l.self-inside.first, into_iter_items l.self-inside.slots)

abbrev pub decreases-loop-slot : goal.decreases-loop-slot
decreases-loop-slot g l = length (into_iter_items l.self-inside.slots)
