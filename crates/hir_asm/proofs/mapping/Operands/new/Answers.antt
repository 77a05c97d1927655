use Rattle.std.proofs.Common.{◌∙◌, sym, ap₂}
use Rattle.std.specs.Option.{option_or}
use Rattle.hir_asm.specs.Mapping.{place_if}
use Rattle.hir_asm.proofs.Places.{last_next}
use Rattle.hir_asm.proofs.mapping.Operands.new.Goals as goal

pub loop-place-preserved : goal.loop-place-preserved
loop-place-preserved c name =
    c.in_ok-enter.ensures name ∙ ap₂ (λ bearer found. option_or (place_if c.loop-place.place name bearer) found) c.as_ref.ensures.value (c.loop-place.invariant name)
    ∙ sym (last_next c.args.list.now c.loop-place.place c.index-list-place.result c.loop-place-test.true c.index-list-place.is name)
