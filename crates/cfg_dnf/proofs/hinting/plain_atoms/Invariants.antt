use Rattle.std.proofs.Common.{◌≡◌, take}
use Rattle.std.specs.List.{filter_map}
use Rattle.std.specs.FinSet as set
use Rattle.ra_cfg.specs.Options.{atom_cmp}
use Rattle.cfg_dnf.specs.Gathering.{put_in}
use Rattle.cfg_dnf.specs.Hints.{plain_atom}
use Rattle.cfg_dnf.proofs.hinting.plain_atoms.Given as goal

abbrev pub invariant-loop-literal : goal.invariant-loop-literal
invariant-loop-literal l = set.from_list {R = atom_cmp} l.atoms.keys ≡ put_in set.empty (filter_map plain_atom (take l.literal-index l.literals))
