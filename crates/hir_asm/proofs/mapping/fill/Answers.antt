use Rattle.std.proofs.Common.{◌∙◌, ◌++◌, ◌∷◌, [], ap, arith}
use Rattle.hir_asm.specs.Heads.{filled}
use Rattle.hir_asm.proofs.Rows.{filled_on}
use Rattle.hir_asm.proofs.mapping.fill.Goals as goal

pub loop-alloc-preserved : goal.loop-alloc-preserved
loop-alloc-preserved c =
    ap (λ rows. filled rows c.args.count) (c.in_ok-push.ensures.ok ∙ ap (λ places. c.loop-alloc.rows ++ record { places = places } ∷ []) c.new.ensures)
    ∙ filled_on c.loop-alloc.rows c.args.count (omega (arith, c.loop-alloc-test.true, c.len.ensures)) ∙ c.loop-alloc.invariant
