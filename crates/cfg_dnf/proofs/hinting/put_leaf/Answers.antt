use Rattle.std.proofs.Common.{◌≡◌, rules}
use Rattle.ra_cfg.proofs.OptionSets.{set_of_insert}
use Rattle.cfg_dnf.proofs.Gathered.{put_atom}
use Rattle.cfg_dnf.proofs.hinting.put_leaf.Goals as goal

pub returns-in_ok-insert-in-Atom : goal.returns-in_ok-insert-in-Atom
returns-in_ok-insert-in-Atom c =
    let same : c.in_ok-clone-in-Atom.field-0 ≡ c.in-Atom.atom = search rules in
    put_atom _ _ c.args.leaf.now c.in-Atom.atom c.in_ok-clone-in-Atom.field-0 c.in-Atom.is same (set_of_insert c.args.atoms.now c.insert.new.self c.in_ok-clone-in-Atom.field-0 c.in_ok-insert-in-Atom.ensures.updates)
