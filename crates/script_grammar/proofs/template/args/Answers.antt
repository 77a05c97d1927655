use Rattle.std.proofs.Common.{rules, ◌≡◌, ◌∙◌, None, ap, sym}
use Rattle.script_tokens.specs.Ahead.{ahead}
use Rattle.script_tokens.proofs.Many.{many_ends}
use Rattle.script_grammar.specs.Templates.{arg}
use Rattle.script_grammar.proofs.template.args.Goals as goal

pub returns-clause-value : goal.returns-clause-value
returns-clause-value c =
    let none : arg c.args.ptr.node (ahead c.loop-args.after) ≡ None = search rules in
    many_ends (arg c.args.ptr.node) (ahead c.args.here) c.loop-args.args.items (ahead c.loop-args.after) none c.loop-args.invariant.so_far
    ∙ ap (λ args. (args, ahead c.loop-args.after)) (sym (c.from_vec.ensures ∙ c.shrink_to_fit.ensures.items))
