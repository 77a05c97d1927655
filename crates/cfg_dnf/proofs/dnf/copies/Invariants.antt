use Rattle.std.proofs.Common.{◌≡◌, take}
use Rattle.cfg_dnf.proofs.dnf.copies.Given as goal

abbrev pub invariant-loop-cfg : goal.invariant-loop-cfg
invariant-loop-cfg l = record { copied : l.copies ≡ take l.cfg-index l.cfgs }
