use Rattle.std.proofs.lemmas.Result.{IfOk-weaker}
use Rattle.hir_store.proofs.Grown.{longer}
use Rattle.hir_build.proofs.Builds.{builds_then}
use Rattle.hir_build.proofs.Within.{below_later}
use Rattle.hir_lower.proofs.Nodes.{trees_kept, origins_kept}
use Rattle.hir_lower.proofs.format_args.build_without_arguments.Goals as goal

pub build_behind-requires-clause-within : goal.build_behind-requires-clause-within
build_behind-requires-clause-within c = below_later _ _ _ (longer _ _ (builds_then c.in_ok-list.ensures.builds c.in_ok-new.ensures.builds).grows) c.requires.orphans

pub returns-clause-placed : goal.returns-clause-placed
returns-clause-placed c = IfOk-weaker c.build_behind.result _ _ (λ made was.
    let built = builds_then c.in_ok-list.ensures.builds c.in_ok-new.ensures.builds in
    let list = rw c.new.ensures at c.in_ok-list.ensures.placed in
    let new = rw (c.in_ok-list.ensures.builds.items, c.in_ok-list.ensures.builds.file, list.stands.tree, list.comes) at c.in_ok-new.ensures.placed in
    rw (trees_kept c.args.orphans.now built c.requires.orphans, origins_kept c.args.orphans.now built c.requires.orphans, built.file) at (was _ _ new)) c.build_behind.ensures.placed

pub returns-clause-builds : goal.returns-clause-builds
returns-clause-builds c = builds_then c.in_ok-list.ensures.builds (builds_then c.in_ok-new.ensures.builds c.build_behind.ensures.builds)
