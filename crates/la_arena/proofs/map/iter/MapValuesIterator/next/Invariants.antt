use Rattle.std.proofs.Common.{◌≡◌, length}
use Rattle.std.specs.Slice.Iter.{iter_rest}
use Rattle.la_arena.specs.SlotsLeft.{values, behind_first}
use Rattle.la_arena.proofs.map.iter.MapValuesIterator.next.Given as goal

-- only empty slots were passed over
abbrev pub invariant-loop-slot : goal.invariant-loop-slot
invariant-loop-slot g l =
    (values (iter_rest l.self-inside.slots) ≡ values l.fn.self)
    × (behind_first (iter_rest l.self-inside.slots) ≡ behind_first l.fn.self)

abbrev pub decreases-loop-slot : goal.decreases-loop-slot
decreases-loop-slot g l = length (iter_rest l.self-inside.slots)
