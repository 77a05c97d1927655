use Rattle.std.proofs.Common.{◌≡◌, Some, None, rules, arith}
use Rattle.la_arena.proofs.MapLemmas.{slot_at-pop_empty}
use Rattle.la_arena.proofs.map.ArenaMap+Idx+T+V.shrink_to_fit.Goals as goal

pub loop-self-preserved : goal.loop-self-preserved
loop-self-preserved g c =
    let popped : c.pop.result ≡ Some None = search rules in
    let split = rw popped at c.pop.ensures.items in
    let shorter = rw popped at c.pop.ensures.cases in
    let kept = c.loop-self.invariant in
    (slot_at-pop_empty _ _ _ split kept.0, omega (arith, kept.1))
