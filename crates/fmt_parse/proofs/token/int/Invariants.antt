use Rattle.std.proofs.Common.{◌≡◌, ◌≤◌, length}
use Rattle.std.specs.Char.{is_ascii_digit}
use Rattle.text_cut.specs.Runs.{front}
use Rattle.text_cut.specs.Place.{past}
use Rattle.text_cut.specs.Seen.{seen}
use Rattle.fmt_parse.specs.Tokens.{number_from}
use Rattle.fmt_parse.proofs.token.int.Given as goal

-- the digits so far write the value, and the others go on
abbrev pub invariant-loop-c : goal.invariant-loop-c
invariant-loop-c l = record {
  past_it : past is_ascii_digit (seen l.end) ≡ past is_ascii_digit (seen l.fn.here);
  number : number_from l.value (front is_ascii_digit (seen l.end).left) ≡ number_from 0 (front is_ascii_digit (seen l.fn.here).left);
  small : l.value ≤ 65535;
}

abbrev pub decreases-loop-c : goal.decreases-loop-c
decreases-loop-c l = length l.end.rest.now
