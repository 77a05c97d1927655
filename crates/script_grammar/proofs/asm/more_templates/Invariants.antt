use Rattle.std.proofs.Common.{◌≡◌, ◌≤◌, length}
use Rattle.script_tokens.specs.Ahead.{ahead, end}
use Rattle.script_tokens.specs.Readers.{behind}
use Rattle.script_tokens.specs.Many.{ManySoFar}
use Rattle.script_grammar.specs.Asm.{asm_template}
use Rattle.script_grammar.proofs.asm.more_templates.Given as goal

-- these templates were read from the start on
abbrev pub invariant-loop-more : goal.invariant-loop-more
invariant-loop-more l = record {
  so_far : ManySoFar (behind 44 asm_template) (ahead l.fn.here) l.more (ahead l.after);
  same_end : end l.after ≡ end l.fn.here;
  fewer : length (ahead l.after) ≤ length (ahead l.fn.here);
}

abbrev pub decreases-loop-more : goal.decreases-loop-more
decreases-loop-more l = length (ahead l.after)
