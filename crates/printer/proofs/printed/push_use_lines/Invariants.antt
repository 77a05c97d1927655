use Rattle.std.proofs.Common.{◌≡◌, ◌++◌, string_bytes, take}
use Rattle.printer.specs.Printed.{use_lines_of}
use Rattle.printer.proofs.printed.push_use_lines.Given as goal

-- the lines so far are written
abbrev pub invariant-loop-range : goal.invariant-loop-range
invariant-loop-range l = string_bytes l.out ≡ string_bytes l.initial.out ++ use_lines_of l.number (take l.range-index l.usages)
