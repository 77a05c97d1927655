use Rattle.std.proofs.Common.{◌∷◌, [], ◌++◌, map, take, sym, ap, ◌∙◌}
use Rattle.hir_lower.specs.Captures.{usages_of}
use Rattle.hir_lower.specs.NameLog.{entry_of}
use Rattle.hir_lower.proofs.Entries.{entries_more, usages_append}
use Rattle.hir_lower.proofs.captures.usages.Goals as goal

pub loop-logged-preserved : goal.loop-logged-preserved
loop-logged-preserved c =
    let front = map entry_of (take c.loop-logged.logged-index c.args.entries.now) in
    let entry = entry_of c.logged-item.result in
    c.in_ok-keep_usage.ensures
    ∙ ap (λ us. us ++ usages_of (entry ∷ [])) c.loop-logged.invariant
    ∙ sym (usages_append front (entry ∷ []))
    ∙ ap usages_of (sym (entries_more c.args.entries.now c.loop-logged.logged-index c.logged-item.result c.loop-logged-test.true c.logged-item.is))
