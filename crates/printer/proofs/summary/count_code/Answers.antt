use Rattle.std.proofs.Common.{◌≡◌, arith}
use Rattle.printer.proofs.Counted.{off_or_code}
use Rattle.printer.proofs.summary.count_code.Goals as goal

pub returns : goal.returns
returns c = omega (arith, off_or_code c.args.outcomes.now, c.count_off.ensures.value)
