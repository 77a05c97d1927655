use Rattle.std.proofs.Common.{arith}
use Rattle.hir_build.proofs.Builds.{builds_none, builds_within}
use Rattle.hir_lower.proofs.lowering.Lowering.lower_gated.Goals as goal

pub returns-then-is_err-clause-builds : goal.returns-then-is_err-clause-builds
returns-then-is_err-clause-builds g c = (0, builds_within (builds_none c.args.self.now.builder) (omega arith) (omega arith))
