use Rattle.std.proofs.Common.{◌≡◌, ◌++◌}
use Rattle.ra_cfg.proofs.cfg_options.listed_versions.Given as goal

abbrev pub invariant-loop-text : goal.invariant-loop-text
invariant-loop-text l = l.answers.items ++ l.text-iterator ≡ l.versions.entries
