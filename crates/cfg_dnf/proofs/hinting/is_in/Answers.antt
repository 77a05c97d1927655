use Rattle.std.proofs.Common.{sym, ◌∙◌}
use Rattle.std.specs.FinSet as set
use Rattle.ra_cfg.specs.AtomOrder.{atom_total}
use Rattle.cfg_dnf.proofs.Gathered.{in_atom}
use Rattle.cfg_dnf.proofs.hinting.is_in.Goals as goal

pub returns-in-Atom : goal.returns-in-Atom
returns-in-Atom c = in_atom _ c.args.leaf.now c.in-Atom.atom _ c.in-Atom.is (c.contains.ensures ∙ sym (set.contains-from_list atom_total c.args.plain.now.keys c.in-Atom.atom))
