-- Where writing fails for want of room alone, the room was small.
use Rattle.std.specs.Prelude.{true, false, Bool, cond, nat_eq, ◌≡◌, ℕ, ◌≤◌, ◌<◌, ◌+◌, List, [], ◌∷◌, length, ◌++◌, codes, Option, Some, None}
use Rattle.std.specs.Fmt.{decimal}
use Rattle.std.proofs.Common.{ap, inl, inr, arith, length-append}
use Rattle.std.proofs.lemmas.Option.{same_Some, none-some}
use Rattle.std.proofs.lemmas.List.Sums.{count_by-le-length}
use Rattle.std.proofs.lemmas.Fmt.{length-decimal-le}
use Rattle.streams.specs.Streams.{SourceState, SinkState, TakesRoom, IsFull}
use Rattle.streams.specs.ReadWrite.{WritesFront}
use Rattle.script.specs.Script.{ends_line, with_end}
use Rattle.cfgfmt.specs.declared.session.Session.{Session}
use Rattle.cfgfmt.specs.declared.refusal.Refusal.{Refusal}
use Rattle.cfgfmt.specs.declared.refusal.Refusal.TheVariants.{Usage, Syntax, Read, Memory, ArenaFull, TooLong}
use Rattle.cfgfmt.specs.Session.{output_of}
use Rattle.cfgfmt.specs.Refusal.{IsFaulty, line_of, IsJustified}
use Rattle.cfgfmt.specs.Run.{WritesPart, IsSmall}

-- a front that filled a sink is as long as its room was
filled : (old new : Option ℕ) (room count : ℕ) → old ≡ Some room → TakesRoom old new count → IsFull new → room ≡ count
filled None new room count is takes full = absurd (none-some room is)
filled (Some r) None room count is takes full = absurd takes
filled (Some r) (Some left) room count is takes full = omega (arith, same_Some r room is, takes, full)

-- the room of a sink to which a front of bytes was written is less than the bytes
room_of_front : (old new : SinkState) (bytes : List ℕ) (room : ℕ) → old.room ≡ Some room → WritesFront old new bytes → room < length bytes
room_of_front old new bytes room is wrote =
    omega (arith, filled old.room new.room room (length wrote.front) is wrote.room wrote.full, ap length wrote.cut, length-append wrote.front wrote.rest, wrote.more)

-- an added line feed is one byte
length_end : (ends : Bool) (bytes : List ℕ) → length (cond ends bytes (bytes ++ 10 ∷ [])) ≤ length bytes + 1
length_end true bytes = omega arith
length_end false bytes = omega (arith, length-append bytes (10 ∷ []))

length_with_end : (bytes : List ℕ) → length (with_end bytes) ≤ length bytes + 1
length_with_end [] = omega arith
length_with_end (b ∷ bytes) = length_end (ends_line (b ∷ bytes)) (b ∷ bytes)

-- a script that is not too long has few lines
few_lines : (bytes : List ℕ) (line : ℕ) → IsFaulty bytes line → line < 100000000
few_lines bytes line faulty =
    let breaks = faulty.is_line in
    omega (arith, breaks.counts, count_by-le-length (λ b. nat_eq b 10) breaks.front, ap length breaks.is_longest.there, length-append breaks.front breaks.is_longest.rest, length_with_end bytes, faulty.fits)

-- the line of a broken item is short
short_line : (bytes : List ℕ) (line : ℕ) → IsFaulty bytes line → length (line_of (Syntax line)) < 64
short_line bytes line faulty =
    let few : line < 100000000 = few_lines bytes line faulty in
    let digits : length (decimal line) ≤ 8 = length-decimal-le 8 line (omega arith) (omega (arith, few)) (omega (arith, few)) in
    omega (arith, length-append (codes "error syntax at line " ++ decimal line) (codes "\n"), length-append (codes "error syntax at line ") (decimal line), digits)

module _ (words : List (List ℕ)) (old new : SourceState) where
  -- and so is that of every refusal
  short_told : (refusal : Refusal) → IsJustified words old new refusal → length (line_of refusal) < 64
  short_told (Syntax line) cause = short_line cause.holds.bytes line cause.holds.holds
  short_told Usage cause = omega arith
  short_told Read cause = omega arith
  short_told Memory cause = omega arith
  short_told ArenaFull cause = omega arith
  short_told TooLong cause = omega arith

  -- where a part was written, the room was small
  pub small_room : (sink sink_now : SinkState) (session : Session) (room : ℕ) → sink.room ≡ Some room → WritesPart words old new sink sink_now session → IsSmall words session room
  small_room sink sink_now session room is (inl prints) = inr (record {
    command = prints.command;
    asked = prints.asked;
    holds = room_of_front sink sink_now (output_of prints.command session) room is prints.holds.printed;
  })
  small_room sink sink_now session room is (inr refuses) =
      inl (omega (arith, room_of_front sink sink_now (line_of refuses.refusal) room is refuses.told, short_told refuses.refusal refuses.cause))
