use Rattle.std.proofs.Common.{◌≡◌, ◌≤◌, length}
use Rattle.script_tokens.specs.Ahead.{ahead, end}
use Rattle.script_tokens.specs.Many.{ManySoFar}
use Rattle.script_grammar.specs.AsmPieces.{piece_cfg}
use Rattle.script_grammar.proofs.asm_piece.piece_cfgs.Given as goal

-- these predicates were read from the start on
abbrev pub invariant-loop-cfgs : goal.invariant-loop-cfgs
invariant-loop-cfgs l = record {
  so_far : ManySoFar piece_cfg (ahead l.fn.here) l.cfgs (ahead l.after);
  same_end : end l.after ≡ end l.fn.here;
  fewer : length (ahead l.after) ≤ length (ahead l.fn.here);
}

abbrev pub decreases-loop-cfgs : goal.decreases-loop-cfgs
decreases-loop-cfgs l = length (ahead l.after)
