use Rattle.std.proofs.Common.{◌≡◌, ◌++◌, string_bytes}
use Rattle.script_generator.specs.Generated.{items_text}
use Rattle.script_generator.proofs.generated.push_items.Given as goal

-- the items so far are written
abbrev pub invariant-loop-number : goal.invariant-loop-number
invariant-loop-number l = string_bytes l.out ≡ string_bytes l.initial.out ++ items_text l.number
