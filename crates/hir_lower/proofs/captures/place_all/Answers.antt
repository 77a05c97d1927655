use Rattle.std.proofs.Common.{sym, subst, ◌∙◌}
use Rattle.hir_build.proofs.Builds.{same_refusal}
use Rattle.hir_lower.specs.Captures.{Places}
use Rattle.hir_lower.specs.NameLog.{entry_of}
use Rattle.hir_lower.proofs.Entries.{entries_more, entries_around}
use Rattle.hir_lower.proofs.Placed.{places_none, places_then, numbered_next, builds_next, outgrows_next}
use Rattle.hir_lower.proofs.captures.place_all.Goals as goal

pub loop-logged-init : goal.loop-logged-init
loop-logged-init c = places_none _ _

pub place_captured-requires : goal.place_captured-requires
place_captured-requires c =
    let around = entries_around c.args.entries.now c.loop-logged.logged-index c.logged-item.result c.loop-logged-test.true c.logged-item.is in
    record { numbered = numbered_next (entry_of c.logged-item.result) _ around c.loop-logged.invariant c.requires.numbered }

pub loop-logged-preserved : goal.loop-logged-preserved
loop-logged-preserved c =
    subst (λ entries. Places c.args.template c.args.builder.now entries c.place_captured.new.builder)
    (sym (entries_more c.args.entries.now c.loop-logged.logged-index c.logged-item.result c.loop-logged-test.true c.logged-item.is))
    (places_then c.loop-logged.invariant c.in_ok-place_captured.ensures.placed)

pub returns-in_err-place_captured-clause-builds : goal.returns-in_err-place_captured-clause-builds
returns-in_err-place_captured-clause-builds c =
    let around = entries_around c.args.entries.now c.loop-logged.logged-index c.logged-item.result c.loop-logged-test.true c.logged-item.is in
    builds_next (entry_of c.logged-item.result) _ around c.loop-logged.invariant c.place_captured.ensures.builds

pub returns-in_err-place_captured-clause-full : goal.returns-in_err-place_captured-clause-full
returns-in_err-place_captured-clause-full c = λ full.
    let around = entries_around c.args.entries.now c.loop-logged.logged-index c.logged-item.result c.loop-logged-test.true c.logged-item.is in
    let same = c.in_err-place_captured.was ∙ same_refusal c.from_residual.result _ c.from_residual.ensures.1 full in
    outgrows_next (entry_of c.logged-item.result) _ around c.loop-logged.invariant (c.place_captured.ensures.full same)
