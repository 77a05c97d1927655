use Rattle.std.proofs.Common.{length}
use Rattle.hir_lower_tests.proofs.templates.+are_within.Given as goal

abbrev pub decreases-are_within : goal.decreases-are_within
decreases-are_within l = length l.ids.now
