use Rattle.std.proofs.Common.{◌<◌, length, arith}
use Rattle.std.specs.FinSet as set
use Rattle.cfg_dnf.proofs.Gathered.{put_one}
use Rattle.cfg_dnf.proofs.hinting.plain_atoms.Goals as goal

pub loop-literal-preserved : goal.loop-literal-preserved
loop-literal-preserved c =
    let within : c.loop-literal.literal-index < length c.args.literals.now = omega arith in
    put_one set.empty _ _ c.args.literals.now c.loop-literal.literal-index _ within c.literal-item.is c.loop-literal.invariant c.in_ok-take_plain.ensures
