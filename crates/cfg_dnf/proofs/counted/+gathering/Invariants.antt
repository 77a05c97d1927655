use Rattle.std.proofs.Common.{take}
use Rattle.cfg_dnf.specs.Form.{part_forms}
use Rattle.cfg_dnf.specs.Leaves.{all_counted}
use Rattle.cfg_dnf.specs.Gathering.{GathersSo}
use Rattle.cfg_dnf.proofs.counted.+gathering.Given as goal

abbrev pub invariant-gather_each-loop-part : goal.invariant-gather_each-loop-part
invariant-gather_each-loop-part l = GathersSo l.opts (all_counted (part_forms l.negated (take l.part-index l.parts))) l.initial.found l.found
