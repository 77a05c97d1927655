use Rattle.std.proofs.Common.{ap}
use Rattle.cfg_dnf.specs.Hints.{leaf_atom}
use Rattle.cfg_dnf.proofs.Gathered.{takes_nothing}
use Rattle.cfg_dnf.proofs.hinting.take_leaf.Goals as goal

pub returns-in-Invalid : goal.returns-in-Invalid
returns-in-Invalid c = takes_nothing c.args.opts.now c.args.leaf.now c.args.negated _ (ap leaf_atom c.in-Invalid.is)

pub returns-in-Version : goal.returns-in-Version
returns-in-Version c = takes_nothing c.args.opts.now c.args.leaf.now c.args.negated _ (ap leaf_atom c.in-Version.is)
