use Rattle.ra_cfg.proofs.SameDiffs.{same_diffs}
use Rattle.ra_cfg.proofs.laws.diff_has_its_atoms.Goals as goal

pub returns : goal.returns
returns c = same_diffs
