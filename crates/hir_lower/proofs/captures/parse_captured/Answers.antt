use Rattle.std.proofs.Common.{◌∙◌, subst}
use Rattle.hir_build.specs.Building.{Builds, Outgrows}
use Rattle.hir_build.proofs.Builds.{same_refusal}
use Rattle.hir_lower.specs.Captures.{made_count}
use Rattle.hir_lower.proofs.Counts.{builds_some, outgrows_some, builds_nothing}
use Rattle.hir_lower.proofs.captures.parse_captured.Goals as goal

pub returns-in_err-fmt-clause-builds : goal.returns-in_err-fmt-clause-builds
returns-in_err-fmt-clause-builds c = builds_nothing _ _ _

pub returns-in_err-usages-clause-builds : goal.returns-in_err-usages-clause-builds
returns-in_err-usages-clause-builds c = builds_nothing _ _ _

pub returns-in_err-place_all-clause-builds : goal.returns-in_err-place_all-clause-builds
returns-in_err-place_all-clause-builds c =
    let built = subst (λ entries. Builds c.args.builder.now c.place_all.new.builder (made_count entries) 0) c.entries-2.ensures c.place_all.ensures.builds in
    builds_some c.args.template c.args.args c.in_ok-fmt.fmt _ _ _ c.in_ok-fmt.ensures.makes built

pub returns-in_err-place_all-clause-full : goal.returns-in_err-place_all-clause-full
returns-in_err-place_all-clause-full c = λ full.
    let same = c.in_err-place_all.was ∙ same_refusal c.from_residual-in_err-place_all.result _ c.from_residual-in_err-place_all.ensures.1 full in
    let outgrows = subst (λ entries. Outgrows c.args.builder.now.store (made_count entries) 0) c.entries-2.ensures (c.place_all.ensures.full same) in
    outgrows_some c.args.template c.args.args c.in_ok-fmt.fmt _ c.args.builder.now c.in_ok-fmt.ensures.makes outgrows

pub returns-clause-builds : goal.returns-clause-builds
returns-clause-builds c =
    let built = subst (λ entries. Builds c.args.builder.now c.place_all.new.builder (made_count entries) 0) c.entries-2.ensures c.place_all.ensures.builds in
    builds_some c.args.template c.args.args c.in_ok-fmt.fmt _ _ _ c.in_ok-fmt.ensures.makes built
