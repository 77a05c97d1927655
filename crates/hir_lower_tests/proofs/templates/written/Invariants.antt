use Rattle.hir_fmt.specs.Arguments.{AreExplicit}
use Rattle.hir_lower_tests.proofs.templates.written.Given as goal

abbrev pub invariant-loop-node : goal.invariant-loop-node
invariant-loop-node l = AreExplicit l.args
