use Rattle.std.proofs.Common.{◌≡◌, ◌+◌, length}
use Rattle.std.specs.Slice.Iter.{iter_mut_rest}
use Rattle.la_arena.specs.SlotsLeft.{pairs_left, behind_first, HasIndexes}
use Rattle.la_arena.specs.MapIterMut.{pairs_mut_left}
use Rattle.la_arena.proofs.map.iter_mut.MapIterMutIdxIterator.next.Given as goal

-- only empty slots were passed over
abbrev pub invariant-loop-slot : goal.invariant-loop-slot
invariant-loop-slot g l =
    (pairs_left (pairs_mut_left l.self) ≡ pairs_left (pairs_mut_left l.fn.self))
    × (behind_first (iter_mut_rest l.self.slots) ≡ behind_first (iter_mut_rest l.fn.self.slots))
    × (l.self.first + length (iter_mut_rest l.self.slots) ≡ l.fn.self.first + length (iter_mut_rest l.fn.self.slots))
    × HasIndexes (pairs_mut_left l.self)

abbrev pub decreases-loop-slot : goal.decreases-loop-slot
decreases-loop-slot g l = length (iter_mut_rest l.self.slots)
