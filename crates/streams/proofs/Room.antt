-- What pieces take of a sink's room.
use Rattle.std.proofs.Common.{◌≡◌, ℕ, ◌+◌, ◌<◌, List, length, arith, ap, ◌∙◌, length-append, None, Some}
use Rattle.std.specs.declared.option.Option.{Option}
use Rattle.streams.specs.Streams.{SinkState, TakesRoom, IsFull, Fits}
use Rattle.streams.specs.ReadWrite.{WritesFront}

-- a further piece takes its room
pub takes_room_then : (a b c : Option ℕ) (first second : ℕ) → TakesRoom a b first → TakesRoom b c second → TakesRoom a c (first + second)
takes_room_then None b c first second p q = tt
takes_room_then (Some x) None c first second p q = absurd p
takes_room_then (Some x) (Some y) None first second p q = absurd q
takes_room_then (Some x) (Some y) (Some z) first second p q = omega (arith, p, q)

-- what filled the room is no less than what fits
filled_by_most : (a b : Option ℕ) (front whole : ℕ) → TakesRoom a b front → IsFull b → Fits a whole → front < whole → ⊥
filled_by_most None b front whole took full fits less = absurd fits
filled_by_most (Some x) None front whole took full fits less = absurd took
filled_by_most (Some x) (Some y) front whole took full fits less = omega (arith, took, full, fits, less)

-- where bytes fit, they are written whole
pub fits_no_front : (old new : SinkState) (bytes : List ℕ) → WritesFront old new bytes → Fits old.room (length bytes) → ⊥
fits_no_front old new bytes wrote fits =
    let lengths : length bytes ≡ length wrote.front + length wrote.rest = ap (λ l. length l) wrote.cut ∙ length-append wrote.front wrote.rest in
    filled_by_most old.room new.room (length wrote.front) (length bytes) wrote.room wrote.full fits (omega (arith, lengths, wrote.more))
