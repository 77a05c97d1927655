use Rattle.std.proofs.Common.{◌≡◌, ◌++◌, string_bytes}
use Rattle.std.specs.List.{flat_map}
use Rattle.cfg_dnf.specs.Walking.{IsStanding, left_of}
use Rattle.cfg_dnf.specs.Stepping.{most_left}
use Rattle.printer.specs.Printed.{hint_line, hint_lines}
use Rattle.printer.proofs.printed.push_hints.Given as goal

-- what is written, with the lines of the hints that are left, is what was there with the lines of all
abbrev pub invariant-loop-hint : goal.invariant-loop-hint
invariant-loop-hint l = record {
  standing : IsStanding l.hints;
  written : string_bytes l.out ++ flat_map (hint_line l.fn.number) (left_of l.hints) ≡ string_bytes l.initial.out ++ hint_lines l.fn.options l.fn.number l.fn.dnf;
}

abbrev pub decreases-loop-hint : goal.decreases-loop-hint
decreases-loop-hint l = most_left l.hints
