use Rattle.std.proofs.Common.{ap, ◌∙◌}
use Rattle.std.specs.Int.RustNames.{bit_or}
use Rattle.hir_asm.specs.Operands.{bit_of}
use Rattle.hir_asm.proofs.Parts.{bits_next}
use Rattle.hir_asm.proofs.options.with_options.Goals as goal

pub loop-word-preserved : goal.loop-word-preserved
loop-word-preserved c =
    c.union-all.ensures tt ∙ ap (bit_or c.loop-word.all.0) (c.option_of.ensures ∙ ap bit_of c.as_str.ensures)
    ∙ bits_next c.args.options.0 c.loop-word.all.0 c.args.words.now c.loop-word.word-index c.word-item.result c.loop-word-test.true c.word-item.is c.loop-word.invariant
