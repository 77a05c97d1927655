use Rattle.std.specs.Prelude.{◌≡◌, ◌-◌, length}
use Rattle.hir_asm.specs.Heads.{filled}
use Rattle.hir_asm.proofs.mapping.fill.Given as goal

abbrev pub invariant-loop-alloc : goal.invariant-loop-alloc
invariant-loop-alloc l = filled l.rows l.count ≡ filled l.fn.rows l.count

abbrev pub decreases-loop-alloc : goal.decreases-loop-alloc
decreases-loop-alloc l = l.count - length l.rows
