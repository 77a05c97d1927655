use Rattle.hir_fmt.specs.Arguments.{AreExplicit}
use Rattle.template_bytes_tests.proofs.tokens.written.Given as goal

abbrev pub invariant-loop-node : goal.invariant-loop-node
invariant-loop-node l = AreExplicit l.args
