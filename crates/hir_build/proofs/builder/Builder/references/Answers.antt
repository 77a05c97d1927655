use Rattle.std.proofs.Common.{arith, ◌<◌, List, length, ap, sym, subst, ◌∙◌, ◌∷◌, slice_index_or}
use Rattle.std.proofs.lemmas.List.{take_more}
use Rattle.hir_store.specs.declared.ids.ExprId.{ExprId}
use Rattle.hir_store.specs.Tree.{Ref}
use Rattle.hir_store.specs.Unfolding.{place_of}
use Rattle.hir_store.specs.PartsBelow.{AllBelow}
use Rattle.hir_store.proofs.Grown.{longer}
use Rattle.hir_build.specs.Origins.{Origin, bare}
use Rattle.hir_build.proofs.Origins.{origins_later}
use Rattle.hir_build.proofs.Placed.{placed_as, all_placed_later, references_on}
use Rattle.hir_build.proofs.Within.{below_at, placed_below}
use Rattle.hir_build.proofs.Builds.{builds_then, builds_within}
use Rattle.hir_build.proofs.builder.Builder.references.Goals as goal

pub reference-requires : goal.reference-requires
reference-requires c =
    let lt : place_of (slice_index_or c.args.ids.now c.loop-id.id-index (record { raw = record { 0 = 0 } })) < length c.args.self.now.store.exprs =
    below_at _ c.args.ids.now c.loop-id.id-index _ c.loop-id-test.true c.requires.within in
    record { within = omega (arith, lt, longer _ _ c.loop-id.invariant.builds.grows) }

pub returns-in_err-reference-clause-builds : goal.returns-in_err-reference-clause-builds
returns-in_err-reference-clause-builds c = builds_within (builds_then c.loop-id.invariant.builds c.in_err-reference.ensures.builds) (omega (arith, c.loop-id-test.true)) (omega arith)

pub returns-in_err-push-clause-builds : goal.returns-in_err-push-clause-builds
returns-in_err-push-clause-builds c = builds_within (builds_then c.loop-id.invariant.builds c.in_ok-reference.ensures.builds) (omega (arith, c.loop-id-test.true)) (omega arith)

pub loop-id-preserved : goal.loop-id-preserved
loop-id-preserved c =
    let none : ExprId = record { raw = record { 0 = 0 } } in
    let id = slice_index_or c.args.ids.now c.loop-id.id-index none in
    let lt = below_at _ c.args.ids.now c.loop-id.id-index none c.loop-id-test.true c.requires.within in
    let one = placed_as _ _ _ _ _ _ (ap Ref (c.loop-id.invariant.builds.trees id lt))
    (ap (λ (os : List Origin). bare ∷ os) (origins_later _ _ id c.loop-id.invariant.builds.grows lt)) c.in_ok-reference.ensures.placed in
    let before = all_placed_later _ _ c.in_ok-reference.ensures.builds.grows _ _ _ c.loop-id.invariant.placed in
    record {
      placed = rw (c.in_ok-push.ensures.items, take_more c.args.ids.now c.loop-id.id-index none c.loop-id-test.true) (references_on _ _ _ _ _ _ id before one);
      builds = builds_then c.loop-id.invariant.builds c.in_ok-reference.ensures.builds;
      captures = c.in_ok-reference.ensures.captures ∙ c.loop-id.invariant.captures;
    }

pub returns-clause-within : goal.returns-clause-within
returns-clause-within c = subst (AllBelow (length c.loop-id.self.store.exprs)) (sym (c.in_ok-from_slice.ensures ∙ c.as_slice.ensures.value)) (placed_below _ _ _ _ c.loop-id.invariant.placed)
