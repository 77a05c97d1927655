use Rattle.std.proofs.Common.{ap, length, arith}
use Rattle.std.proofs.lemmas.Result.{IfOk-weaker}
use Rattle.hir_store.proofs.Grown.{longer}
use Rattle.hir_build.proofs.Builds.{builds_then, builds_within}
use Rattle.hir_build.proofs.Within.{below_later}
use Rattle.hir_lower.proofs.Nodes.{trees_kept, origins_kept}
use Rattle.hir_lower.proofs.Statements.{lets_later, lets_within, lets_as}
use Rattle.hir_lower.proofs.format_args.build_with_arguments.Goals as goal

pub block-requires-clause-within : goal.block-requires-clause-within
block-requires-clause-within c =
    let built = builds_then c.in_ok-statements.ensures.builds c.in_ok-new.ensures.builds in
    rw (c.from_vec.ensures, c.in_ok-push_statements.ensures, c.as_slice.ensures)
    (lets_within _ _ _ _ _ _ _ (lets_later _ _ _ _ _ _ _ c.in_ok-new.ensures.builds.grows c.in_ok-statements.ensures.are) (below_later _ _ _ (longer _ _ built.grows) c.requires.orphans))

pub returns-clause-placed : goal.returns-clause-placed
returns-clause-placed c = IfOk-weaker c.block.result _ _ (λ made was.
    let built = builds_then c.in_ok-statements.ensures.builds c.in_ok-new.ensures.builds in
    let lets = rw (c.next_fresh-number.ensures, c.as_slice-args.ensures) at (lets_later _ _ _ _ _ _ _ c.in_ok-new.ensures.builds.grows c.in_ok-statements.ensures.are) in
    let new = rw (c.in_ok-statements.ensures.builds.items, c.in_ok-statements.ensures.builds.file, c.next_fresh-number.ensures) at c.in_ok-new.ensures.placed in
    let block = rw (c.from_vec.ensures, c.in_ok-push_statements.ensures, c.as_slice.ensures) at was in
    rw (trees_kept c.args.fmt.now.orphans built c.requires.orphans, origins_kept c.args.fmt.now.orphans built c.requires.orphans, built.file)
    at (lets_as _ _ _ _ _ _ _ _ _ _ c.args.fmt.now.orphans _ _ lets new block)) c.block.ensures.placed

pub returns-clause-builds : goal.returns-clause-builds
returns-clause-builds c =
    builds_within (builds_then c.in_ok-statements.ensures.builds (builds_then c.in_ok-new.ensures.builds c.block.ensures.builds)) (omega (arith, ap length c.as_slice-args.ensures)) (omega arith)
