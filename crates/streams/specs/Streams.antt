-- What callers see of a source and of a sink.
use Rattle.std.specs.Prelude.{◌≡◌, ℕ, ◌+◌, ◌<◌, ◌≤◌, List, length, is_some, None, Some, Result, Ok, Err, IfOk, ⊤}
use Rattle.std.specs.declared.option.Option.{Option}

-- a source: the bytes that are left in it, where its content is known, and how often reading has failed
pub record SourceState : Type 0 where
  pub left : Option (List ℕ)
  pub faults : ℕ

-- a sink: the bytes that were written to it, where its content is known; how often writing has failed; and how many bytes more it takes,
-- where writing fails for want of room alone
pub record SinkState : Type 0 where
  pub written : Option (List ℕ)
  pub faults : ℕ
  pub room : Option ℕ

-- the content is known afterwards exactly where it was known before
abbrev pub StaysKnown : Option (List ℕ) → Option (List ℕ) → Type 0
StaysKnown old new = is_some new ≡ is_some old

-- of a piece that is not empty, at least one byte was written
abbrev pub WritesSome : {E : Type 0} → Result ℕ E → List ℕ → Type 0
WritesSome result piece = IfOk result (λ count. 0 < length piece → 0 < count)

-- so many bytes took their room, where the room is known
abbrev pub TakesRoom : Option ℕ → Option ℕ → ℕ → Type 0
TakesRoom None new count = ⊤
TakesRoom (Some room) None count = ⊥
TakesRoom (Some room) (Some left) count = room ≡ left + count

-- where the room is known, none is left
abbrev pub IsFull : Option ℕ → Type 0
IsFull None = ⊤
IsFull (Some room) = room ≡ 0

-- the room is known, and so many bytes fit
abbrev pub Fits : Option ℕ → ℕ → Type 0
Fits None count = ⊥
Fits (Some room) count = count ≤ room

-- a write takes room for what it writes, and where the room is known it fails only where none is left
abbrev pub WritesInRoom : {E : Type 0} → Option ℕ → Option ℕ → Result ℕ E → Type 0
WritesInRoom old new (Ok count) = TakesRoom old new count
WritesInRoom old new (Err _) = TakesRoom old new 0 × IsFull new
