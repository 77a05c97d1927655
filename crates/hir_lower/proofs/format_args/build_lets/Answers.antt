use Rattle.std.proofs.Common.{arith}
use Rattle.hir_build.proofs.Builds.{builds_then, builds_within}
use Rattle.hir_build.proofs.Placed.{let_later}
use Rattle.hir_lower.proofs.format_args.build_lets.Goals as goal

pub returns-clause-are : goal.returns-clause-are
returns-clause-are c = record {
  tuple = c.in_ok-tuple.tuple;
  array = c.in_ok-array.array;
  are = c.in_ok-from_slice.ensures.items;
  binds_tuple = let_later _ _ c.in_ok-array.ensures.builds.grows _ _ _ _ c.in_ok-tuple.ensures.is;
  binds_array = rw (c.in_ok-tuple.ensures.builds.items, c.in_ok-tuple.ensures.builds.file) at c.in_ok-array.ensures.is;
}

pub returns-clause-builds : goal.returns-clause-builds
returns-clause-builds c = builds_within (builds_then c.in_ok-tuple.ensures.builds c.in_ok-array.ensures.builds) (omega arith) (omega arith)
