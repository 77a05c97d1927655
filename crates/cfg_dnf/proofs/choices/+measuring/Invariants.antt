use Rattle.std.proofs.Common.{◌≡◌, ◌+◌, ◌≤◌, length, drop}
use Rattle.cfg_dnf.specs.Form.{part_forms, product_width}
use Rattle.cfg_dnf.proofs.choices.+measuring.Given as goal

abbrev pub invariant-product_width-loop-part : goal.invariant-product_width-loop-part
invariant-product_width-loop-part l =
    (l.end ≤ length l.choices) × (l.end + product_width (part_forms l.negated (drop l.part-index l.parts)) (drop l.end l.choices) ≡ product_width (part_forms l.negated l.parts) l.choices)
