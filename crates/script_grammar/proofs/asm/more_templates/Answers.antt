use Rattle.std.proofs.Common.{rules, ◌≡◌, None}
use Rattle.script_tokens.specs.Ahead.{ahead}
use Rattle.script_tokens.specs.Readers.{behind}
use Rattle.script_tokens.proofs.Many.{many_ends}
use Rattle.script_grammar.specs.Asm.{asm_template}
use Rattle.script_grammar.proofs.asm.more_templates.Goals as goal

pub returns-clause-value : goal.returns-clause-value
returns-clause-value c =
    let none : behind 44 asm_template (ahead c.loop-more.after) ≡ None = search rules in
    many_ends (behind 44 asm_template) (ahead c.args.here) c.loop-more.more (ahead c.loop-more.after) none c.loop-more.invariant.so_far
