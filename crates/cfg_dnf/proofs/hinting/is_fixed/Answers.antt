use Rattle.cfg_dnf.proofs.Gathered.{told_fixed}
use Rattle.cfg_dnf.proofs.hinting.is_fixed.Goals as goal

pub returns : goal.returns
returns c = told_fixed c.args.atom.now _ c.is_reserved.ensures
