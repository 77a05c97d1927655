use Rattle.std.proofs.Common.{◌≡◌, ◌+◌, ◌-◌, ◌≤◌, vec_len}
use Rattle.std.specs.Io.KnownBytes.{Consumes}
use Rattle.streams.specs.Streams.{StaysKnown}
use Rattle.streams.proofs.read_write.read_whole.Given as goal

-- the bytes so far are what was taken from the source, and no read failed
abbrev pub invariant-loop-chunk : goal.invariant-loop-chunk
invariant-loop-chunk g l = record {
  taken : Consumes (g.S.Source.state l.fn.source).left (g.S.Source.state l.source).left l.bytes.items;
  most : vec_len l.bytes ≤ l.most + 1;
  known : StaysKnown (g.S.Source.state l.fn.source).left (g.S.Source.state l.source).left;
  calm : (g.S.Source.state l.source).faults ≡ (g.S.Source.state l.fn.source).faults;
}

abbrev pub decreases-loop-chunk : goal.decreases-loop-chunk
decreases-loop-chunk g l = l.most + 1 - vec_len l.bytes
