use Rattle.std.specs.Str.{chars}
use Rattle.text_cut.specs.Runs.{size}
use Rattle.text_cut.specs.Seen.{seen}
use Rattle.script.specs.ReadLines.{ReadSoFar}
use Rattle.script.proofs.script.read_lines.Given as goal

-- the lines up to here were read
abbrev pub invariant-loop-behind : goal.invariant-loop-behind
invariant-loop-behind l = record {
  so_far : ReadSoFar (chars l.fn.text) l.reading (seen l.here);
}

abbrev pub decreases-loop-behind : goal.decreases-loop-behind
decreases-loop-behind l = size (seen l.here).left
