use Rattle.std.proofs.Common.{◌≡◌, false, length, replicate, take}
use Rattle.hir_fmt.specs.Orphans.{resolved_all, marked}
use Rattle.hir_fmt.proofs.orphans.marks_of.Given as goal

abbrev pub invariant-loop-piece : goal.invariant-loop-piece
invariant-loop-piece l = record {
  marks : l.marks.items ≡ marked (resolved_all (take l.piece-index l.template)) (replicate l.count false);
  len : length l.marks.items ≡ l.count;
}
