use Rattle.format_code.proofs.Runs.{runs_once, text_runs}
use Rattle.format_code.proofs.laws.code_runs.Goals as goal

pub returns-clause-once : goal.returns-clause-once
returns-clause-once c = runs_once

pub returns-clause-text : goal.returns-clause-text
returns-clause-text c = text_runs
