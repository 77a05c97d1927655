use Rattle.std.proofs.Common.{rules}
use Rattle.la_arena.proofs.MapLemmas.{Updates-with_slot}
use Rattle.la_arena.proofs.map.ArenaMap+Idx+T+V.insert.Goals as goal

pub returns-clause-updates : goal.returns-clause-updates
returns-clause-updates g c = Updates-with_slot _ _ _ _ (search rules)
