-- Reading a source to its end, and writing bytes whole.
use Rattle.std.specs.Prelude.{◌≡◌, ℕ, ◌<◌, ◌≤◌, List, ◌++◌, length, IfSome}
use Rattle.std.specs.Io.KnownBytes.{Appends, Consumes, IsAtEnd}
use Rattle.causes.specs.Causes.{Rose}
use Rattle.streams.specs.Streams.{SourceState, SinkState, TakesRoom, IsFull}
use Rattle.streams.specs.declared.read_write.ReadRefused.{ReadRefused}
use Rattle.streams.specs.declared.read_write.ReadRefused.TheVariants.{Failed, TooLong, Memory}

-- these bytes were all that was left, now nothing is, and no read failed
pub record ReadsAll (old new : SourceState) (bytes : List ℕ) : Type 0 where
  pub all : IfSome old.left (λ left. left ≡ bytes)
  pub none_left : IsAtEnd new.left
  pub calm : new.faults ≡ old.faults

-- so many bytes were taken from the front of what was left
abbrev pub TakesCount : SourceState → SourceState → ℕ → Type 0
TakesCount old new count = (taken : List ℕ) × (length taken ≡ count) × Consumes old.left new.left taken

-- at most so many bytes were taken from the front of what was left
abbrev pub TakesAtMost : SourceState → SourceState → ℕ → Type 0
TakesAtMost old new most = (taken : List ℕ) × (length taken ≤ most) × Consumes old.left new.left taken

-- the count of faults rose where a read failed, and no other refusal moved it
abbrev pub CountsFault : SourceState → SourceState → ReadRefused → Type 0
CountsFault old new Failed = Rose old.faults new.faults
CountsFault old new TooLong = new.faults ≡ old.faults
CountsFault old new (Memory _) = new.faults ≡ old.faults

-- the bytes stand behind what was written before, and took room, and no write failed
pub record WritesWhole (old new : SinkState) (bytes : List ℕ) : Type 0 where
  pub whole : Appends old.written new.written bytes
  pub room : TakesRoom old.room new.room (length bytes)
  pub calm : new.faults ≡ old.faults

-- a front of the bytes was written, and not the whole of them, since a write failed; where the room is known, this front filled it
pub record WritesFront (old new : SinkState) (bytes : List ℕ) : Type 0 where
  pub front : List ℕ
  pub rest : List ℕ
  pub cut : bytes ≡ front ++ rest
  pub more : 0 < length rest
  pub written : Appends old.written new.written front
  pub room : TakesRoom old.room new.room (length front)
  pub full : IsFull new.room
  pub failed : Rose old.faults new.faults
