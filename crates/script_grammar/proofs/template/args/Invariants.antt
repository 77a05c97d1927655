use Rattle.std.proofs.Common.{◌≡◌, ◌≤◌, length}
use Rattle.script_tokens.specs.Ahead.{ahead, end}
use Rattle.script_tokens.specs.Many.{ManySoFar}
use Rattle.script_grammar.specs.Templates.{arg}
use Rattle.script_grammar.proofs.template.args.Given as goal

-- these arguments were read from the start on
abbrev pub invariant-loop-args : goal.invariant-loop-args
invariant-loop-args l = record {
  so_far : ManySoFar (arg l.fn.ptr.node) (ahead l.fn.here) l.args.items (ahead l.after);
  same_end : end l.after ≡ end l.fn.here;
  fewer : length (ahead l.after) ≤ length (ahead l.fn.here);
}

abbrev pub decreases-loop-args : goal.decreases-loop-args
decreases-loop-args l = length (ahead l.after)
