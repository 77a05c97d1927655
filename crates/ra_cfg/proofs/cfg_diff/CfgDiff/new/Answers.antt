use Rattle.std.proofs.Common.{◌&&◌, not, ◌∙◌, ap}
use Rattle.ra_cfg.specs.Diff.{stands_in}
use Rattle.ra_cfg.proofs.Walking.{left_is_diff, stands_in-only}
use Rattle.ra_cfg.proofs.cfg_diff.CfgDiff.new.Goals as goal

pub invariant_of-result : goal.invariant_of-result
invariant_of-result c = left_is_diff _ _ _ _ c.in_order-enable.ensures.sorted c.in_order-disable.ensures.sorted c.keep_apart.ensures.left c.keep_apart.ensures.right

pub returns-clause-is_diff : goal.returns-clause-is_diff
returns-clause-is_diff c = left_is_diff _ _ _ _ c.in_order-enable.ensures.sorted c.in_order-disable.ensures.sorted c.keep_apart.ensures.left c.keep_apart.ensures.right

pub returns-clause-enabled : goal.returns-clause-enabled
returns-clause-enabled c a =
    ap (stands_in a) c.keep_apart.ensures.left
    ∙ stands_in-only _ _ c.in_order-enable.ensures.sorted c.in_order-disable.ensures.sorted a
    ∙ (λ i. c.in_order-enable.ensures.same a i && not (c.in_order-disable.ensures.same a i))

pub returns-clause-disabled : goal.returns-clause-disabled
returns-clause-disabled c a =
    ap (stands_in a) c.keep_apart.ensures.right
    ∙ stands_in-only _ _ c.in_order-disable.ensures.sorted c.in_order-enable.ensures.sorted a
    ∙ (λ i. c.in_order-disable.ensures.same a i && not (c.in_order-enable.ensures.same a i))
