use Rattle.std.proofs.Common.{sym, subst}
use Rattle.script.specs.Script.{Says}
use Rattle.script.proofs.Lines.{whole_read, breaks_at}
use Rattle.script.proofs.script.read_ended.Goals as goal

pub returns-then-at-bytes-clause-fault : goal.returns-then-at-bytes-clause-fault
returns-then-at-bytes-clause-fault c = breaks_at _ _ _ _ _ c.valid_front.ensures c.in_ok-reading.ensures c.if-at-bytes.true c.line_behind.ensures

pub returns-clause-script : goal.returns-clause-script
returns-clause-script c =
    subst (λ l. Says c.args.bytes.now (record { options = c.in_ok-reading.reading.options; macros = c.in_ok-reading.reading.macros; limit = l; items = c.in_ok-reading.reading.items; calls = c.in_ok-reading.reading.calls.items })) (sym c.get.ensures.value) (whole_read _ _ _ _ c.valid_front.ensures c.in_ok-reading.ensures c.if-at-bytes.false)
