use Rattle.std.proofs.Common.{◌≡◌, ◌≤◌, ◌+◌, length, chars}
use denote.Text.{Utf8}
use denote.Shadow.{shadow}
use Rattle.text_cut.specs.Place.{IsBehind}
use Rattle.text_cut.specs.Rules.{past_word}
use Rattle.text_cut.specs.Seen.{seen}
use Rattle.text_cut.proofs.walk.eat.Given as goal

-- the place behind what is left of the word, from here, is the place behind the word
abbrev pub invariant-loop-c : goal.invariant-loop-c
invariant-loop-c l = record {
  text : shadow (Utf8 l.left);
  word : past_word (chars l.left) (seen l.end) ≡ past_word (chars l.fn.word) (seen l.fn.here);
  behind : IsBehind (seen l.fn.here) (seen l.end);
  shorter : length l.end.rest.now + length (chars l.fn.word) ≤ length l.fn.here.rest.now + length (chars l.left);
}

abbrev pub decreases-loop-c : goal.decreases-loop-c
decreases-loop-c l = length l.left
