use Rattle.std.proofs.Common.{length}
use Rattle.cfg_dnf.specs.Walking.{ahead_of}
use Rattle.cfg_dnf.proofs.Steps.{HasCome}
use Rattle.cfg_dnf.proofs.enable_hints.EnableHints.next_hint.Given as goal

abbrev pub invariant-loop-self : goal.invariant-loop-self
invariant-loop-self l = HasCome l.initial.self l.self

abbrev pub decreases-loop-self : goal.decreases-loop-self
decreases-loop-self l = length (ahead_of l.self)
