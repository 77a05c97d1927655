-- A source and a sink in memory fail in the calls whose numbers they were given, and move a piece in each other call.
use Rattle.std.specs.Prelude.{ℕ, ◌+◌, ◌-◌, ◌^◌, List, [], ◌++◌, take, drop, length, min, None, Some, Result, Ok, Err}
use Rattle.streams.specs.Streams.{SourceState, SinkState}

-- one more, where a count of 64 bits stays at its last value
abbrev pub next : ℕ → ℕ
next n = min (n + 1) (2 ^ 64 - 1)

-- what a source in memory is
pub record MemSourceState : Type 0 where
  pub left : List ℕ
  pub piece : ℕ
  pub failing : List ℕ
  pub call : ℕ
  pub faults : ℕ

-- what a caller of any source sees of it
abbrev pub source_state : MemSourceState → SourceState
source_state source = record { left = Some source.left; faults = source.faults }

-- a source with these bytes, before its first call
abbrev pub new_source : List ℕ → ℕ → List ℕ → MemSourceState
new_source bytes piece failing = record { left = bytes; piece = piece; failing = failing; call = 0; faults = 0 }

-- how many bytes a call gives that does not fail, into a buffer with so much room
abbrev pub given : MemSourceState → ℕ → ℕ
given source room = min source.piece (min room (length source.left))

-- the source after a call with this answer
abbrev pub after_read : {E : Type 0} → MemSourceState → Result ℕ E → MemSourceState
after_read source (Ok count) = record source { left = drop count source.left; call = next source.call }
after_read source (Err _) = record source { call = next source.call; faults = next source.faults }

-- what a sink in memory is
pub record MemSinkState : Type 0 where
  pub bytes : List ℕ
  pub room : ℕ
  pub piece : ℕ
  pub failing : List ℕ
  pub call : ℕ
  pub faults : ℕ

-- what a caller of any sink sees of it: it fails in other calls too than those for which no room is left
abbrev pub sink_state : MemSinkState → SinkState
sink_state sink = record { written = Some sink.bytes; faults = sink.faults; room = None }

-- an empty sink with room for so many bytes, before its first call
abbrev pub new_sink : ℕ → ℕ → List ℕ → MemSinkState
new_sink room piece failing = record { bytes = []; room = room; piece = piece; failing = failing; call = 0; faults = 0 }

-- how many bytes of a piece a call takes that does not fail
abbrev pub taken : MemSinkState → List ℕ → ℕ
taken sink piece = min sink.piece (min (length piece) sink.room)

-- the sink after a call with this piece and this answer
abbrev pub after_write : {E : Type 0} → MemSinkState → List ℕ → Result ℕ E → MemSinkState
after_write sink piece (Ok count) = record sink { bytes = sink.bytes ++ take count piece; room = sink.room - count; call = next sink.call }
after_write sink piece (Err _) = record sink { call = next sink.call; faults = next sink.faults }
