use Rattle.std.proofs.Common.{◌≡◌, ◌++◌, ◌≤◌, length, drop}
use Rattle.cfg_dnf.specs.Form.{part_forms, product_chosen}
use Rattle.cfg_dnf.proofs.conjunction.+choosing.Given as goal

abbrev pub invariant-take_product-loop-part : goal.invariant-take_product-loop-part
invariant-take_product-loop-part l =
    (l.end ≤ length l.choices)
    × (l.literals.items ++ product_chosen (part_forms l.negated (drop l.part-index l.parts)) (drop l.end l.choices) ≡ l.initial.literals.items ++ product_chosen (part_forms l.negated l.parts) l.choices)
