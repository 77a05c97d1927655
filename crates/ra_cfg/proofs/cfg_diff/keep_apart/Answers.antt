use Rattle.std.proofs.Common.{◌≡◌, ◌++◌, take, drop, ◌∙◌, sym, arith}
use Rattle.ra_cfg.specs.Diff.{only}
use Rattle.ra_cfg.proofs.Walking.{walked_less, walked_equal, walked_greater, left_ends, right_ends}
use Rattle.ra_cfg.proofs.cfg_diff.keep_apart.Goals as goal
use Rattle.ra_cfg.proofs.cfg_diff.keep_apart.Goals.{then-loop-i-test+else-j-len, else-loop-i-test}

pub loop-i-preserved-in-Less : goal.loop-i-preserved-in-Less
loop-i-preserved-in-Less c =
    walked_less c.index.result.now c.index-in-loop-i.result.now c.loop-i.invariant (omega (arith, c.loop-i-test.true, c.len.ensures)) (omega (arith, c.if-j-len.true, c.len-in-loop-i.ensures)) c.index.ensures c.index-in-loop-i.ensures
    (sym c.cmp.ensures ∙ c.in-Less.is) c.keep.new.atoms.items c.keep.ensures.front c.keep.ensures.rest c.keep.ensures.length

pub loop-i-preserved-in-Equal : goal.loop-i-preserved-in-Equal
loop-i-preserved-in-Equal c =
    walked_equal c.index.result.now c.index-in-loop-i.result.now c.loop-i.invariant (omega (arith, c.loop-i-test.true, c.len.ensures)) (omega (arith, c.if-j-len.true, c.len-in-loop-i.ensures)) c.index.ensures c.index-in-loop-i.ensures
    (sym c.cmp.ensures ∙ c.in-Equal.is)

pub loop-i-preserved : goal.loop-i-preserved
loop-i-preserved c =
    walked_greater c.index.result.now c.index-in-loop-i.result.now c.loop-i.invariant (omega (arith, c.loop-i-test.true, c.len.ensures)) (omega (arith, c.if-j-len.true, c.len-in-loop-i.ensures)) c.index.ensures c.index-in-loop-i.ensures
    (sym c.cmp.ensures ∙ c.in-Greater.is) c.keep-in-Greater.new.atoms.items c.keep-in-Greater.ensures.front c.keep-in-Greater.ensures.rest c.keep-in-Greater.ensures.length

pub returns-clause-left : goal.returns-clause-left
returns-clause-left c =
    c.keep_rest.ensures ∙ elim c.loop-i-test.branch as (λ _. take c.loop-i.kept_left c.loop-i.left.items ++ drop c.loop-i.i c.loop-i.left.items ≡ only c.args.left.now.items c.args.right.now.items) [
      | then-loop-i-test+else-j-len w ↦ (right_ends c.loop-i.invariant (omega (arith, w.if-j-len, w.len-in-loop-i))).0
      | else-loop-i-test w ↦ (left_ends c.loop-i.invariant (omega (arith, w.loop-i-test, c.len.ensures))).0
    ]

pub returns-clause-right : goal.returns-clause-right
returns-clause-right c =
    c.keep_rest-2.ensures ∙ elim c.loop-i-test.branch as (λ _. take c.loop-i.kept_right c.loop-i.right.items ++ drop c.loop-i.j c.loop-i.right.items ≡ only c.args.right.now.items c.args.left.now.items) [
      | then-loop-i-test+else-j-len w ↦ (right_ends c.loop-i.invariant (omega (arith, w.if-j-len, w.len-in-loop-i))).1
      | else-loop-i-test w ↦ (left_ends c.loop-i.invariant (omega (arith, w.loop-i-test, c.len.ensures))).1
    ]
