use Rattle.std.proofs.Common.{rules, ◌≡◌, None}
use Rattle.script_tokens.specs.Ahead.{ahead}
use Rattle.script_tokens.specs.Readers.{behind}
use Rattle.script_tokens.proofs.Many.{many_ends}
use Rattle.script_grammar.specs.Preds.{pred_in}
use Rattle.script_grammar.proofs.pred.+preds.Goals as goal

pub more_preds-returns-clause-value : goal.more_preds-returns-clause-value
more_preds-returns-clause-value t c =
    let none : behind 44 (pred_in c.args.depth) (ahead c.loop-more.after) ≡ None = search rules in
    many_ends (behind 44 (pred_in c.args.depth)) (ahead c.args.here) c.loop-more.more (ahead c.loop-more.after) none c.loop-more.invariant.so_far
