use Rattle.format_code.proofs.CallRuns.{complete_runs, empty_runs, well_formed_runs}
use Rattle.format_code.proofs.laws.call_runs.Goals as goal

pub returns : goal.returns
returns c = record { well_formed = well_formed_runs; complete = complete_runs; empty = empty_runs }
