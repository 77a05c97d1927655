use Rattle.std.proofs.Common.{◌≡◌, ◌++◌, string_bytes, take}
use Rattle.printer.specs.Mapping.{row_lines}
use Rattle.printer.proofs.mapping.push_row_lines.Given as goal

-- the lines so far are written
abbrev pub invariant-loop-range : goal.invariant-loop-range
invariant-loop-range l = string_bytes l.out ≡ string_bytes l.initial.out ++ row_lines l.number l.row (take l.range-index l.places)
