use Rattle.std.proofs.Common.{◌∙◌, sym}
use Rattle.script_tokens.proofs.Numbers.{number_parsed, none_parsed}
use Rattle.script_tokens.proofs.reader.number_of.Goals as goal

pub returns-in-Ok : goal.returns-in-Ok
returns-in-Ok c = number_parsed c.args.digits.now c.in-Ok.number (sym c.all_digits.ensures ∙ c.if-not-all_digits.false) c.in-Ok.ensures.value.0

pub returns-in-Err : goal.returns-in-Err
returns-in-Err c = none_parsed c.args.digits.now (sym c.all_digits.ensures ∙ c.if-not-all_digits.false) c.in-Err.ensures.value.0
