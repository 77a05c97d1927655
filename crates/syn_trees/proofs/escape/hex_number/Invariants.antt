use Rattle.std.specs.Str.{IsUtf8, chars}
use Rattle.syn_trees.proofs.Digits.{DigitsSoFar}
use Rattle.syn_trees.proofs.escape.hex_number.Given as goal

abbrev pub invariant-loop-c : goal.invariant-loop-c
invariant-loop-c l = record {
  utf8 : IsUtf8 l.c-iterator.rest.now;
  so_far : DigitsSoFar (chars l.fn.text) l.number l.count l.yielded (chars l.c-iterator.rest.now);
}
