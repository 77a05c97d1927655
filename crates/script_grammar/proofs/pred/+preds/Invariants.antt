use Rattle.std.proofs.Common.{◌≡◌, ◌+◌, ◌*◌, ◌≤◌, length}
use Rattle.script_tokens.specs.Ahead.{ahead, end}
use Rattle.script_tokens.specs.Readers.{behind}
use Rattle.script_tokens.specs.Many.{ManySoFar}
use Rattle.script_grammar.specs.Preds.{pred_in}
use Rattle.script_grammar.proofs.pred.+preds.Given as goal

-- In brackets less depth is left; among the functions at one depth, each is below its caller.
abbrev pub decreases-brackets : goal.decreases-brackets
decreases-brackets l = 16 * l.depth

abbrev pub decreases-behind_word : goal.decreases-behind_word
decreases-behind_word l = 16 * l.depth + 1

abbrev pub decreases-pred_in : goal.decreases-pred_in
decreases-pred_in l = 16 * l.depth + 2

abbrev pub decreases-next_pred : goal.decreases-next_pred
decreases-next_pred l = 16 * l.depth + 3

abbrev pub decreases-more_preds : goal.decreases-more_preds
decreases-more_preds l = 16 * l.depth + 4

abbrev pub decreases-and_more : goal.decreases-and_more
decreases-and_more l = 16 * l.depth + 5

abbrev pub decreases-preds : goal.decreases-preds
decreases-preds l = 16 * l.depth + 6

abbrev pub decreases-composite : goal.decreases-composite
decreases-composite l = 16 * l.depth + 7

abbrev pub decreases-in_brackets : goal.decreases-in_brackets
decreases-in_brackets l = 16 * l.depth + 8

-- these predicates were read from the start on
abbrev pub invariant-more_preds-loop-more : goal.invariant-more_preds-loop-more
invariant-more_preds-loop-more l = record {
  so_far : ManySoFar (behind 44 (pred_in l.fn.depth)) (ahead l.fn.here) l.more (ahead l.after);
  same_end : end l.after ≡ end l.fn.here;
  fewer : length (ahead l.after) ≤ length (ahead l.fn.here);
}

abbrev pub decreases-more_preds-loop-more : goal.decreases-more_preds-loop-more
decreases-more_preds-loop-more l = length (ahead l.after)
