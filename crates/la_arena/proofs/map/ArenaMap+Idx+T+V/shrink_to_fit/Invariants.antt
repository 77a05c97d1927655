use Rattle.std.proofs.Common.{◌≡◌, ℕ, ◌≤◌, ◌^◌, length, vec_len}
use Rattle.la_arena.specs.Map.{slot_at}
use Rattle.la_arena.proofs.map.ArenaMap+Idx+T+V.shrink_to_fit.Given as goal

-- each number has what it had
abbrev pub invariant-loop-self : goal.invariant-loop-self
invariant-loop-self g l =
    ((number : ℕ) → slot_at l.self-inside.slots.items number ≡ slot_at l.fn.self number)
    × (length l.self-inside.slots.items ≤ 2 ^ 32)

abbrev pub decreases-loop-self : goal.decreases-loop-self
decreases-loop-self g l = vec_len l.self-inside.slots
