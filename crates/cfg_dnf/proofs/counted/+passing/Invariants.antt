use Rattle.std.proofs.Common.{◌≡◌, drop}
use Rattle.cfg_dnf.specs.Form.{part_forms}
use Rattle.cfg_dnf.specs.Hints.{is_true}
use Rattle.cfg_dnf.specs.Leaves.{some_passes, all_pass}
use Rattle.cfg_dnf.proofs.counted.+passing.Given as goal

abbrev pub invariant-one_true-loop-part : goal.invariant-one_true-loop-part
invariant-one_true-loop-part l = some_passes (is_true l.opts) (part_forms l.negated (drop l.part-index l.parts)) ≡ some_passes (is_true l.opts) (part_forms l.negated l.parts)

abbrev pub invariant-each_true-loop-part : goal.invariant-each_true-loop-part
invariant-each_true-loop-part l = all_pass (is_true l.opts) (part_forms l.negated (drop l.part-index l.parts)) ≡ all_pass (is_true l.opts) (part_forms l.negated l.parts)
