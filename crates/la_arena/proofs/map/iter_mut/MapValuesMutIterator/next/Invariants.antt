use Rattle.std.proofs.Common.{◌≡◌, length}
use Rattle.la_arena.specs.SlotsLeft.{values, behind_first}
use Rattle.la_arena.specs.MapIterMut.{values_mut_left}
use Rattle.la_arena.proofs.map.iter_mut.MapValuesMutIterator.next.Given as goal

-- only empty slots were passed over
abbrev pub invariant-loop-slot : goal.invariant-loop-slot
invariant-loop-slot g l =
    (values (values_mut_left l.self) ≡ values (values_mut_left l.fn.self))
    × (behind_first (values_mut_left l.self) ≡ behind_first (values_mut_left l.fn.self))

abbrev pub decreases-loop-slot : goal.decreases-loop-slot
decreases-loop-slot g l = length (values_mut_left l.self)
