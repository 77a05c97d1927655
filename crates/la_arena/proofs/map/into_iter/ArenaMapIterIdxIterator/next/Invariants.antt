use Rattle.std.proofs.Common.{◌≡◌, ◌+◌, length}
use Rattle.std.specs.Vec.Iter.{into_iter_items}
use Rattle.la_arena.specs.SlotsLeft.{pairs_from, pairs_left, behind_first, HasIndexes}
use Rattle.la_arena.proofs.map.into_iter.ArenaMapIterIdxIterator.next.Given as goal

-- only empty slots were passed over
abbrev pub invariant-loop-slot : goal.invariant-loop-slot
invariant-loop-slot g l =
    (pairs_from l.self-inside.first (into_iter_items l.self-inside.slots) ≡ pairs_left l.fn.self)
    × (behind_first (into_iter_items l.self-inside.slots) ≡ behind_first l.fn.self.1)
    × (l.self-inside.first + length (into_iter_items l.self-inside.slots) ≡ l.fn.self.0 + length l.fn.self.1)
    × HasIndexes (l.self-inside.first, into_iter_items l.self-inside.slots)

abbrev pub decreases-loop-slot : goal.decreases-loop-slot
decreases-loop-slot g l = length (into_iter_items l.self-inside.slots)
