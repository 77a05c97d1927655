use Rattle.std.proofs.Common.{◌<◌, length, arith}
use Rattle.cfg_dnf.proofs.Gathered.{takes_one}
use Rattle.cfg_dnf.proofs.hinting.take_false.Goals as goal

pub loop-literal-preserved : goal.loop-literal-preserved
loop-literal-preserved c =
    let within : c.loop-literal.literal-index < length c.args.literals.now = omega arith in
    takes_one c.args.opts.now c.args.literals.now c.loop-literal.literal-index _ _ _ _ within c.literal-item.is c.loop-literal.invariant c.in_ok-take_literal.ensures
