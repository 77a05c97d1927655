use Rattle.std.proofs.Common.{◌≡◌, rules, ap}
use Rattle.juqabhino_c.specs.Growing.{GrowingState}
use Rattle.juqabhino_c.proofs.RunAnswers.{answer_of}
use Rattle.juqabhino_c.proofs.answer.run_words.Goals as goal

pub returns : goal.returns
returns c =
    let same : c.new-source.result ≡ c.args.script.now = search rules in
    answer_of c.args.words.now c.args.script.now c.new-source.result c.run-status.new.source same c.new-sink.result.bytes c.run-status.new.sink.bytes (ap (λ (s : GrowingState). s.bytes) c.new-sink.ensures)
    c.new-sink.result.faults c.run-status.new.sink.faults c.run-status.new.session c.run-status.result c.run-status.ensures.prints (λ zero. c.run-status.ensures.refuses zero c.if-status-eq5.false)
