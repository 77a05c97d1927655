use Rattle.std.proofs.Common.{◌≡◌}
use Rattle.la_arena.specs.MapExtend.{insert_all}
use Rattle.la_arena.proofs.map.ArenaMap+Idx+T+V.extend.Given as goal

-- the pairs that came so far are inserted
abbrev pub invariant-loop-idx : goal.invariant-loop-idx
invariant-loop-idx g l =
    (goal.iterator-loop-idx g).can_next l.idx-iterator
    × (goal.iterator-loop-idx g).is_finite l.idx-iterator
    × (l.self ≡ insert_all l.initial.self l.yielded)
