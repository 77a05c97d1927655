use Rattle.std.proofs.Common.{◌≡◌, ◌≤◌, ℕ, Bool, length}
use Rattle.text_cut.specs.Runs.{AnswersAs}
use Rattle.text_cut.specs.Place.{past, IsBehind}
use Rattle.text_cut.specs.Seen.{seen}
use Rattle.text_cut.proofs.walk.eat_while.Given as goal

-- what is past the run from here is past the run from the start
abbrev pub invariant-loop-c : goal.invariant-loop-c
invariant-loop-c g l = record {
  past_it : (p : ℕ → Bool) → AnswersAs (goal.F-post g l.passes) p → past p (seen l.end) ≡ past p (seen l.fn.here);
  behind : IsBehind (seen l.fn.here) (seen l.end);
  shorter : length l.end.rest.now ≤ length l.fn.here.rest.now;
}

abbrev pub decreases-loop-c : goal.decreases-loop-c
decreases-loop-c g l = length l.end.rest.now
