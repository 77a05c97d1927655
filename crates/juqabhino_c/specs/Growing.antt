-- A sink in memory that grows with what is written, and fails only where memory is refused.
use Rattle.std.specs.Prelude.{ℕ, List, [], Some, None}
use Rattle.streams.specs.Streams.{SinkState}

-- what a sink is: its bytes, and how often writing has failed
pub record GrowingState : Type 0 where
  pub bytes : List ℕ
  pub faults : ℕ

-- what a caller of any sink sees of it: no room is known after which it fails
abbrev pub growing_state : GrowingState → SinkState
growing_state sink = record { written = Some sink.bytes; faults = sink.faults; room = None }

-- one to which nothing was written
abbrev pub new_growing : GrowingState
new_growing = record { bytes = []; faults = 0 }
