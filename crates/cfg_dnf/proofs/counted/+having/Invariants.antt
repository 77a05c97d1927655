use Rattle.std.proofs.Common.{◌≡◌, drop}
use Rattle.cfg_dnf.specs.Form.{part_forms}
use Rattle.cfg_dnf.specs.Leaves.{some_has, all_have}
use Rattle.cfg_dnf.proofs.counted.+having.Given as goal

abbrev pub invariant-one_has-loop-part : goal.invariant-one_has-loop-part
invariant-one_has-loop-part l = some_has (part_forms l.negated (drop l.part-index l.parts)) ≡ some_has (part_forms l.negated l.parts)

abbrev pub invariant-each_has-loop-part : goal.invariant-each_has-loop-part
invariant-each_has-loop-part l = all_have (part_forms l.negated (drop l.part-index l.parts)) ≡ all_have (part_forms l.negated l.parts)
