use Rattle.std.proofs.Common.{ap, Some, rules}
use Rattle.cfg_query.proofs.TreeLines.{trees_of, none_told, more_told, all_told}
use Rattle.cfg_query.proofs.predicate.line_trees.Goals as goal

pub returns-in_default : goal.returns-in_default
returns-in_default c =
    none_told c.args.line.now c.utf8.line _ c.begin.ensures
    (c.in_default.ensures trees_of c.begin.result (record { is = ap Some c.in_ok-read.ensures.value; same_line = c.in_ok-read.ensures.end; fewer = c.in_ok-read.ensures.fewer }))

pub returns-then-end-line : goal.returns-then-end-line
returns-then-end-line c =
    more_told c.args.line.now c.utf8.line _ c.begin.ensures c.in-Some.trees _
    (c.in-Some.ensures trees_of c.begin.result (record { is = ap Some c.in_ok-read.ensures.value; same_line = c.in_ok-read.ensures.end; fewer = c.in_ok-read.ensures.fewer }))
    (search rules)

pub returns : goal.returns
returns c =
    all_told c.args.line.now c.utf8.line _ c.begin.ensures c.in-Some.trees _
    (c.in-Some.ensures trees_of c.begin.result (record { is = ap Some c.in_ok-read.ensures.value; same_line = c.in_ok-read.ensures.end; fewer = c.in_ok-read.ensures.fewer }))
    (search rules)
