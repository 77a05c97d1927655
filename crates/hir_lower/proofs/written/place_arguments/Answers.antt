use Rattle.std.proofs.Common.{arith}
use Rattle.hir_build.proofs.Builds.{builds_then, builds_within}
use Rattle.hir_lower.proofs.WrittenLaws.{written_turn}
use Rattle.hir_lower.proofs.written.place_arguments.Goals as goal

pub loop-arg-preserved : goal.loop-arg-preserved
loop-arg-preserved c = record {
  written = written_turn c.args.written.now c.loop-arg.arg-index c.arg-item.result c.loop-arg.args c.add.new.self c.in_ok-argument.argument c.loop-arg-test.true c.arg-item.is
      c.loop-arg.invariant.builds c.in_ok-argument.ensures.builds c.in_ok-add.ensures.added c.loop-arg.invariant.written c.in_ok-argument.ensures.written;
  builds = builds_then c.loop-arg.invariant.builds c.in_ok-argument.ensures.builds;
}

pub returns-in_err-argument-clause-builds : goal.returns-in_err-argument-clause-builds
returns-in_err-argument-clause-builds c = builds_within (builds_then c.loop-arg.invariant.builds c.in_err-argument.ensures.builds) (omega (arith, c.loop-arg-test.true)) (omega arith)

pub returns-in_err-add-clause-builds : goal.returns-in_err-add-clause-builds
returns-in_err-add-clause-builds c = builds_within (builds_then c.loop-arg.invariant.builds c.in_ok-argument.ensures.builds) (omega (arith, c.loop-arg-test.true)) (omega arith)
