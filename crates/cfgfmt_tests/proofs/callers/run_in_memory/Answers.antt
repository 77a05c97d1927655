use Rattle.std.proofs.Common.{refl, ap, arith, []}
use Rattle.streams.specs.Memory.{MemSourceState, MemSinkState, source_state}
use Rattle.cfgfmt.proofs.CallerLemmas.{line_told}
use Rattle.cfgfmt_tests.proofs.callers.run_in_memory.Goals as goal

pub returns : goal.returns
returns c = λ three. line_told [] refl c.args.script.items c.new-source.result.left c.run-status.new.sink.bytes c.in_ok-sink.sink.bytes
    (ap (λ (s : MemSourceState). s.left) c.new-source.ensures) (ap (λ (s : MemSinkState). s.bytes) c.in_ok-sink.ensures)
    c.new-source.result.faults c.in_ok-sink.sink.faults c.run-status.new.sink.faults (source_state c.run-status.new.source) c.run-status.result three
    c.run-status.new.session (c.run-status.ensures.refuses (λ e. omega (arith, e, three)) (λ e. omega (arith, e, three)))
