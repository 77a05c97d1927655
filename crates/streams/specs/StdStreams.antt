-- A reader or a writer of the standard library stands behind a source or a sink, beside its count of faults.
use Rattle.std.specs.Prelude.{ℕ, None}
use Rattle.streams.specs.Streams.{SourceState, SinkState}
use Rattle.streams.specs.declared.std_streams.StdSource.{StdSource}
use Rattle.streams.specs.declared.std_streams.StdSink.{StdSink}

-- the reader behind a source
abbrev pub reader_of : {R : Type 0} → StdSource R → R
reader_of source = source.reader

-- how often reading has failed
abbrev pub read_faults : {R : Type 0} → StdSource R → ℕ
read_faults source = source.faults

-- what a caller of any source sees of it: its content is not known
abbrev pub std_source_state : {R : Type 0} → StdSource R → SourceState
std_source_state source = record { left = None; faults = source.faults }

-- the writer behind a sink
abbrev pub writer_of : {W : Type 0} → StdSink W → W
writer_of sink = sink.writer

-- how often writing has failed
abbrev pub write_faults : {W : Type 0} → StdSink W → ℕ
write_faults sink = sink.faults

-- what a caller of any sink sees of it: neither its content nor its room is known
abbrev pub std_sink_state : {W : Type 0} → StdSink W → SinkState
std_sink_state sink = record { written = None; faults = sink.faults; room = None }
