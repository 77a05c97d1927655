use Rattle.std.proofs.Common.{◌≡◌, ◌+◌, ◌-◌, ◌≤◌, length, replicate}
use Rattle.text_cut.specs.Rules.{past_word}
use Rattle.text_cut.specs.Seen.{seen}
use Rattle.syn_trees.specs.StringToken.{raw_end}
use Rattle.syn_trees.proofs.quoted.raw_end.Given as goal

-- the marks that are left are to be passed here
abbrev pub invariant-loop : goal.invariant-loop
invariant-loop l = record {
  same : past_word (replicate (l.marks - l.counter) 35) (seen l.end) ≡ past_word (raw_end l.fn.marks) (seen l.fn.here);
  shorter : length l.end.rest.now + 1 ≤ length l.fn.here.rest.now;
}
