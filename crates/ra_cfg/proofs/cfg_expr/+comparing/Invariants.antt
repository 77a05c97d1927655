use Rattle.std.proofs.Common.{◌≡◌, take}
use Rattle.ra_cfg.proofs.cfg_expr.+comparing.Given as goal

abbrev pub invariant-are_same-loop-i : goal.invariant-are_same-loop-i
invariant-are_same-loop-i l = take l.i l.parts ≡ take l.i l.others
