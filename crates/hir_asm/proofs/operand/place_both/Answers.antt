use Rattle.std.proofs.Common.{◌∷◌, [], refl, subst}
use Rattle.hir_store.specs.declared.asm.AsmOperand.TheVariants as operand
use Rattle.hir_build.specs.Placed.{Placed}
use Rattle.hir_asm.specs.Operands.{collected, stored}
use Rattle.hir_asm.specs.Code.{leaf_tree, leaf_origin}
use Rattle.hir_asm.specs.Placing.{IsPart}
use Rattle.hir_asm.proofs.Parts.{split_part, placed_in_front}
use Rattle.hir_asm.proofs.operand.place_both.Goals as goal

pub returns-clause-part : goal.returns-clause-part
returns-clause-part c =
    let first = subst (λ leaf. Placed c.place_leaf.new.builder.store c.in_ok-first.first (leaf_tree leaf) (leaf_origin c.args.builder.now.file leaf ∷ [])) c.collected.ensures c.in_ok-first.ensures.placed in
    subst (λ part. IsPart c.place_stored.new.builder.store c.args.builder.now.file part (operand.SplitInOut c.args.reg c.in_ok-first.first c.in_ok-second.second c.args.late)) (split_part c.args.reg c.args.late c.args.exprs.now c.if-not-exprs.false)
    (record {
      shape = refl;
      placed = placed_in_front c.in_ok-first.first _ (collected c.args.exprs.now.first) (stored c.args.exprs.now.second) c.in_ok-first.ensures.builds c.in_ok-second.ensures.builds first c.in_ok-second.ensures.placed;
    })
