use Rattle.std.proofs.Common.{length}
use Rattle.printer_tests.proofs.printed.+steps_stand.Given as goal

abbrev pub decreases-steps_stand : goal.decreases-steps_stand
decreases-steps_stand l = length l.statements.now
