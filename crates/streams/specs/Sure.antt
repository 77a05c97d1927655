-- A source in memory that never fails, and a sink in memory that fails only where it is full.
use Rattle.std.specs.Prelude.{ℕ, ◌-◌, List, [], ◌++◌, take, length, min, Some, Result, Ok, Err}
use Rattle.streams.specs.Streams.{SourceState, SinkState}
use Rattle.streams.specs.Memory.{next}

-- what a caller of any source sees of one with these bytes left: no read fails
abbrev pub sure_source_state : List ℕ → SourceState
sure_source_state left = record { left = Some left; faults = 0 }

-- what a sink is: its bytes, how many bytes more it takes, and how often writing has failed
pub record SureSinkState : Type 0 where
  pub bytes : List ℕ
  pub room : ℕ
  pub faults : ℕ

-- what a caller of any sink sees of it
abbrev pub sure_sink_state : SureSinkState → SinkState
sure_sink_state sink = record { written = Some sink.bytes; faults = sink.faults; room = Some sink.room }

-- an empty sink with room for so many bytes
abbrev pub empty_sink : ℕ → SureSinkState
empty_sink room = record { bytes = []; room = room; faults = 0 }

-- how many bytes of a piece fit
abbrev pub fitting : SureSinkState → List ℕ → ℕ
fitting sink piece = min (length piece) sink.room

-- the sink after a call with this piece and this answer
abbrev pub after_sure_write : {E : Type 0} → SureSinkState → List ℕ → Result ℕ E → SureSinkState
after_sure_write sink piece (Ok count) = record sink { bytes = sink.bytes ++ take count piece; room = sink.room - count }
after_sure_write sink piece (Err _) = record sink { faults = next sink.faults }
