use Rattle.script.proofs.Ends.{ended_by}
use Rattle.script.proofs.script.lacks_end.Goals as goal

pub returns-in-Some : goal.returns-in-Some
returns-in-Some c = ended_by _ _ c.in-Some.ensures.value
