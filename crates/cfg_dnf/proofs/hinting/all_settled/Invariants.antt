use Rattle.std.proofs.Common.{◌≡◌, drop}
use Rattle.std.specs.List.{list_all}
use Rattle.cfg_dnf.specs.Hints.{is_settled}
use Rattle.cfg_dnf.proofs.hinting.all_settled.Given as goal

abbrev pub invariant-loop-literal : goal.invariant-loop-literal
invariant-loop-literal l = list_all (is_settled l.opts) (drop l.literal-index l.literals) ≡ list_all (is_settled l.opts) l.literals
