use Rattle.ra_cfg.proofs.DiffLaws.{diff_of_free, diff_of_reserved, diff_of_versions}
use Rattle.ra_cfg.proofs.laws.diff_decides.Goals as goal

pub returns-clause-atoms : goal.returns-clause-atoms
returns-clause-atoms c = diff_of_free

pub returns-clause-reserved : goal.returns-clause-reserved
returns-clause-reserved c = diff_of_reserved

pub returns-clause-versions : goal.returns-clause-versions
returns-clause-versions c = diff_of_versions
