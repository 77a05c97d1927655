use Rattle.std.proofs.Common.{◌≡◌, ◌≤◌, ◌+◌, ◌++◌, None, length, replicate, vec_len, vec_capacity}
use Rattle.la_arena.proofs.map.ArenaMap+Idx+T+V.grow.Given as goal

-- there are as many new slots as turns, and room for the rest
abbrev pub invariant-loop : goal.invariant-loop
invariant-loop g l =
    (l.self-inside.slots.items ≡ l.fn.self ++ replicate l.counter None)
    × (vec_len l.self-inside.slots ≡ length l.fn.self + l.counter)
    × (length l.fn.self + l.missing ≤ vec_capacity l.self-inside.slots)
