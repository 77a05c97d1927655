use Rattle.ra_cfg.proofs.OptionSets.{settable_true}
use Rattle.ra_cfg.proofs.Settable.{settable-with_free, settable-with_all, settable-appended, settable-with_diff}
use Rattle.ra_cfg.proofs.laws.options_stay_settable.Goals as goal

pub returns-clause-first : goal.returns-clause-first
returns-clause-first c = settable_true

pub returns-clause-inserted : goal.returns-clause-inserted
returns-clause-inserted c = settable-with_free

pub returns-clause-extended : goal.returns-clause-extended
returns-clause-extended c = settable-with_all

pub returns-clause-appended : goal.returns-clause-appended
returns-clause-appended c = settable-appended

pub returns-clause-changed : goal.returns-clause-changed
returns-clause-changed c = settable-with_diff
