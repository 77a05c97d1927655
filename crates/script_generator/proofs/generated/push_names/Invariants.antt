use Rattle.std.proofs.Common.{◌≡◌, ◌++◌, string_bytes}
use Rattle.script_generator.specs.Generated.{names_text}
use Rattle.script_generator.proofs.generated.push_names.Given as goal

-- the names so far are written
abbrev pub invariant-loop-number : goal.invariant-loop-number
invariant-loop-number l = string_bytes l.out ≡ string_bytes l.initial.out ++ names_text l.number
