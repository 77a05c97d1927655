use Rattle.std.proofs.Common.{◌≡◌, ◌++◌, string_bytes, drop}
use Rattle.printer.specs.Mapping.{row_lines_from}
use Rattle.printer.proofs.mapping.push_map_lines.Given as goal

-- the lines so far, with those of the rows that are left behind them, are all lines
abbrev pub invariant-loop-row : goal.invariant-loop-row
invariant-loop-row l = string_bytes l.out ++ row_lines_from l.number l.row (drop l.row l.rows) ≡ string_bytes l.initial.out ++ row_lines_from l.number 0 l.rows
