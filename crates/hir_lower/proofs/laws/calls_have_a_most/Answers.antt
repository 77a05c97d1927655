use Rattle.hir_lower.proofs.Most.{some_most, one_most}
use Rattle.hir_lower.proofs.laws.calls_have_a_most.Goals as goal

pub returns : goal.returns
returns c = record { some = some_most; one = one_most }
