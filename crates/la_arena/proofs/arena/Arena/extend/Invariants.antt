use Rattle.std.proofs.Common.{◌≡◌, ◌++◌}
use Rattle.la_arena.proofs.arena.Arena.extend.Given as goal

-- the items that came so far stand behind the old values
abbrev pub invariant-loop-value : goal.invariant-loop-value
invariant-loop-value g l = (goal.iterator-loop-value g).can_next l.value-iterator
    × (goal.iterator-loop-value g).is_finite l.value-iterator
    × (l.self ≡ l.initial.self ++ l.yielded)
