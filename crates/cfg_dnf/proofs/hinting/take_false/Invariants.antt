use Rattle.std.proofs.Common.{take}
use Rattle.cfg_dnf.specs.Gathering.{TakesIn}
use Rattle.cfg_dnf.proofs.hinting.take_false.Given as goal

abbrev pub invariant-loop-literal : goal.invariant-loop-literal
invariant-loop-literal l = TakesIn l.opts (take l.literal-index l.literals) l.initial.found l.found
