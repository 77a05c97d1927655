use Rattle.std.proofs.lemmas.Result.{IfOk-weaker}
use Rattle.hir_store.proofs.Grown.{longer}
use Rattle.hir_build.proofs.Within.{below_later}
use Rattle.hir_lower.proofs.Nodes.{trees_kept, origins_kept}
use Rattle.hir_lower.proofs.format_args.build_text.Goals as goal

pub build_behind-requires-clause-within : goal.build_behind-requires-clause-within
build_behind-requires-clause-within c = below_later _ _ _ (longer _ _ c.in_ok-from_str.ensures.builds.grows) c.requires.within

pub returns-clause-placed : goal.returns-clause-placed
returns-clause-placed c = IfOk-weaker c.build_behind.result _ _ (λ made was.
    let built = c.in_ok-from_str.ensures.builds in
    rw (trees_kept c.args.args.now built c.requires.within, origins_kept c.args.args.now built c.requires.within, built.file) at (was _ _ c.in_ok-from_str.ensures.placed)) c.build_behind.ensures.placed
