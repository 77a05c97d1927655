use Rattle.std.proofs.Common.{sym}
use Rattle.text_cut.specs.Seen.{seen}
use Rattle.syn_trees.proofs.Unescaped.{units-nothing, units-character, units_stop}
use Rattle.syn_trees.proofs.escape.unescape.Goals as goal

pub loop-meant-preserved-in_ok-push : goal.loop-meant-preserved-in_ok-push
loop-meant-preserved-in_ok-push c =
    units-character _ _ _ (seen c.loop-meant.here) (seen c.in-Some.behind) _ _ c.in-Some.ensures.value c.in-Some-meant.is c.in_ok-push.ensures.bytes c.loop-meant.invariant

pub loop-meant-preserved : goal.loop-meant-preserved
loop-meant-preserved c = units-nothing _ _ (seen c.loop-meant.here) (seen c.in-Some.behind) _ c.in-Some.ensures.value c.in_default-meant.is c.loop-meant.invariant

pub returns-then-not-is_at_end-clause-escape : goal.returns-then-not-is_at_end-clause-escape
returns-then-not-is_at_end-clause-escape c refused = units_stop _ _ (seen c.loop-meant.here) (sym c.in_default.ensures.value) c.if-not-is_at_end.ensures c.loop-meant.invariant
