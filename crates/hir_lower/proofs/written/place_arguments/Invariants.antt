use Rattle.std.specs.Prelude.{take}
use Rattle.hir_build.specs.Building.{Builds}
use Rattle.hir_lower.specs.Written.{AreWritten}
use Rattle.hir_lower.proofs.written.place_arguments.Given as goal

abbrev pub invariant-loop-arg : goal.invariant-loop-arg
invariant-loop-arg l = record {
  written : AreWritten l.builder.store l.fn.builder.file (take l.arg-index l.written) l.args;
  builds : Builds l.fn.builder l.builder l.arg-index 0;
}
