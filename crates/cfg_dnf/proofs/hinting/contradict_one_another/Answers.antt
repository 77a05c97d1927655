use Rattle.cfg_dnf.proofs.Gathered.{contradicts_by}
use Rattle.cfg_dnf.proofs.hinting.contradict_one_another.Goals as goal

pub returns : goal.returns
returns c = contradicts_by c.args.literals.now _ _ c.in_ok-plain.ensures c.any_negated.ensures
