use Rattle.std.proofs.Common.{◌∙◌, ap, sym, Err}
use Rattle.syn_trees.specs.ReadString.{value_of}
use Rattle.syn_trees.proofs.Values.{value_found, value_none}
use Rattle.script_grammar.proofs.line.value_of.Goals as goal

pub returns-in-Ok : goal.returns-in-Ok
returns-in-Ok c = sym (value_found _ _ c.in-Ok.ensures.value) ∙ ap value_of c.in_ok-of_token.ensures

pub returns-in-Err-Escape : goal.returns-in-Err-Escape
returns-in-Err-Escape c = sym (value_none _ (c.value-2.ensures.escape (c.in-Err-Escape.is ∙ ap (λ e. Err e) c.in-Err-Escape.field-0-is))) ∙ ap value_of c.in_ok-of_token.ensures
