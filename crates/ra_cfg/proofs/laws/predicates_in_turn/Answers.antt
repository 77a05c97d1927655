use Rattle.ra_cfg.proofs.Turns.{in_turn}
use Rattle.ra_cfg.proofs.laws.predicates_in_turn.Goals as goal

pub returns : goal.returns
returns c = in_turn
