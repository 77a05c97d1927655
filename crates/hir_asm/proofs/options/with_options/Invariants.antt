use Rattle.std.proofs.Common.{◌≡◌}
use Rattle.std.specs.Prelude.{take}
use Rattle.hir_asm.specs.Operands.{with_bits}
use Rattle.hir_asm.proofs.options.with_options.Given as goal

abbrev pub invariant-loop-word : goal.invariant-loop-word
invariant-loop-word l = l.all.0 ≡ with_bits l.fn.options.0 (take l.word-index l.words)
