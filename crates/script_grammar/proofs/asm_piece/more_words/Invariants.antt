use Rattle.std.proofs.Common.{◌≡◌, ◌≤◌, length}
use Rattle.script_tokens.specs.Ahead.{ahead, end}
use Rattle.script_tokens.specs.Readers.{word, behind}
use Rattle.script_tokens.specs.Many.{ManySoFar}
use Rattle.script_grammar.proofs.asm_piece.more_words.Given as goal

-- these words were read from the start on
abbrev pub invariant-loop-more : goal.invariant-loop-more
invariant-loop-more l = record {
  so_far : ManySoFar (behind 44 word) (ahead l.fn.here) l.more (ahead l.after);
  same_end : end l.after ≡ end l.fn.here;
  fewer : length (ahead l.after) ≤ length (ahead l.fn.here);
}

abbrev pub decreases-loop-more : goal.decreases-loop-more
decreases-loop-more l = length (ahead l.after)
