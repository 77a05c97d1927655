use Rattle.std.proofs.Common.{◌≡◌, ◌≤◌, length}
use Rattle.script_tokens.specs.Ahead.{ahead, end}
use Rattle.script_tokens.specs.Readers.{behind}
use Rattle.script_tokens.specs.Many.{ManySoFar}
use Rattle.script_grammar.specs.AsmPieces.{piece}
use Rattle.script_grammar.proofs.asm.pieces.Given as goal

-- these pieces were read from the start on
abbrev pub invariant-loop-pieces : goal.invariant-loop-pieces
invariant-loop-pieces l = record {
  so_far : ManySoFar (behind 59 (piece l.fn.ptr.node)) (ahead l.fn.here) l.pieces (ahead l.after);
  same_end : end l.after ≡ end l.fn.here;
  fewer : length (ahead l.after) ≤ length (ahead l.fn.here);
}

abbrev pub decreases-loop-pieces : goal.decreases-loop-pieces
decreases-loop-pieces l = length (ahead l.after)
