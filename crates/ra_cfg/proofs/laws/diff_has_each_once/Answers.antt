use Rattle.std.proofs.lemmas.Map.Keys.{IsDistinct-from_sorted}
use Rattle.ra_cfg.specs.Options.{atom_cmp}
use Rattle.ra_cfg.proofs.laws.diff_has_each_once.Goals as goal

pub returns-clause-enabled : goal.returns-clause-enabled
returns-clause-enabled c = λ diff is. IsDistinct-from_sorted atom_cmp diff.enabled is.enabled

pub returns-clause-disabled : goal.returns-clause-disabled
returns-clause-disabled c = λ diff is. IsDistinct-from_sorted atom_cmp diff.disabled is.disabled

pub returns-clause-apart : goal.returns-clause-apart
returns-clause-apart c = λ diff a is. is.apart a
