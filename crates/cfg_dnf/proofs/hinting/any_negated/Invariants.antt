use Rattle.std.proofs.Common.{◌≡◌, drop}
use Rattle.std.specs.List.{list_any, filter_map}
use Rattle.std.specs.FinSet as set
use Rattle.ra_cfg.specs.Options.{atom_cmp}
use Rattle.cfg_dnf.specs.Hints.{negated_atom}
use Rattle.cfg_dnf.proofs.hinting.any_negated.Given as goal

abbrev pub invariant-loop-literal : goal.invariant-loop-literal
invariant-loop-literal l =
    list_any (set.contains (set.from_list {R = atom_cmp} l.plain.keys)) (filter_map negated_atom (drop l.literal-index l.literals)) ≡ list_any (set.contains (set.from_list {R = atom_cmp} l.plain.keys)) (filter_map negated_atom l.literals)
