use Rattle.std.proofs.Common.{◌≡◌, ◌-◌, ◌≤◌, length, take}
use Rattle.std.specs.Io.KnownBytes.{Appends}
use Rattle.streams.specs.Streams.{StaysKnown, TakesRoom}
use Rattle.streams.proofs.read_write.write_whole.Given as goal

-- a front of the bytes is written, and no write failed
abbrev pub invariant-loop-at : goal.invariant-loop-at
invariant-loop-at g l = record {
  within : l.at ≤ length l.bytes;
  front : Appends (g.K.Sink.state l.fn.sink).written (g.K.Sink.state l.sink).written (take l.at l.bytes);
  idle : length l.bytes ≡ 0 → l.sink ≡ l.fn.sink;
  room : TakesRoom (g.K.Sink.state l.fn.sink).room (g.K.Sink.state l.sink).room l.at;
  known : StaysKnown (g.K.Sink.state l.fn.sink).written (g.K.Sink.state l.sink).written;
  calm : (g.K.Sink.state l.sink).faults ≡ (g.K.Sink.state l.fn.sink).faults;
}

abbrev pub decreases-loop-at : goal.decreases-loop-at
decreases-loop-at g l = length l.bytes - l.at
