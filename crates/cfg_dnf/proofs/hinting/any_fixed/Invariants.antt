use Rattle.std.proofs.Common.{◌≡◌, drop}
use Rattle.std.specs.List.{list_any}
use Rattle.cfg_dnf.specs.Hints.{is_fixed}
use Rattle.cfg_dnf.proofs.hinting.any_fixed.Given as goal

abbrev pub invariant-loop-atom : goal.invariant-loop-atom
invariant-loop-atom l = list_any is_fixed (drop l.atom-index l.atoms) ≡ list_any is_fixed l.atoms
