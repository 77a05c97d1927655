use Rattle.std.proofs.Common.{length}
use Rattle.hir_lower_tests.proofs.templates.+have_place.Given as goal

abbrev pub decreases-have_place : goal.decreases-have_place
decreases-have_place l = length l.args.now
