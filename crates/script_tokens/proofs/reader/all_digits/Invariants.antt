use Rattle.std.proofs.Common.{◌≡◌, drop}
use Rattle.script_tokens.specs.Numbers.{all_digits}
use Rattle.script_tokens.proofs.reader.all_digits.Given as goal

-- all are digits where those that are left are
abbrev pub invariant-loop-b : goal.invariant-loop-b
invariant-loop-b l = all_digits (drop l.b-index l.fn.text) ≡ all_digits l.fn.text
