use Rattle.std.proofs.Common.{Some, ap}
use Rattle.streams.specs.Sure.{SureSinkState}
use Rattle.cfgfmt_tests.proofs.callers.run_surely.Goals as goal

pub returns-clause-sink : goal.returns-clause-sink
returns-clause-sink c = λ five. c.run-status.ensures.room five c.args.room (ap (λ (s : SureSinkState). Some s.room) c.in_ok-sink.ensures)
