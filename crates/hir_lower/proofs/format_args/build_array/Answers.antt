use Rattle.std.proofs.Common.{arith}
use Rattle.std.proofs.lemmas.Result.{IfOk-weaker}
use Rattle.hir_build.proofs.Builds.{builds_then, builds_within}
use Rattle.hir_build.proofs.Within.{placed_below}
use Rattle.hir_lower.proofs.Nodes.{array_as, let_as}
use Rattle.hir_lower.proofs.format_args.build_array.Goals as goal

pub array-requires : goal.array-requires
array-requires c = record { within = placed_below _ _ _ _ c.in_ok-elements.ensures.placed }

pub returns-in_err-array-clause-builds : goal.returns-in_err-array-clause-builds
returns-in_err-array-clause-builds c = builds_within (builds_then c.in_ok-elements.ensures.builds c.in_err-array.ensures.builds) (omega arith) (omega arith)

pub returns-clause-is : goal.returns-clause-is
returns-clause-is c = IfOk-weaker c.let_fresh.result _ _ (λ made is. let_as _ _ _ _ _ _ _ (array_as _ _ _ _ _ _ _ c.in_ok-elements.ensures.placed c.in_ok-array.ensures.placed) is) c.let_fresh.ensures.is

pub returns-clause-builds : goal.returns-clause-builds
returns-clause-builds c = builds_within (builds_then c.in_ok-elements.ensures.builds (builds_then c.in_ok-array.ensures.builds c.let_fresh.ensures.builds)) (omega arith) (omega arith)
