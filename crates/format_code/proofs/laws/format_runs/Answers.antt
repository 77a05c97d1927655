use Rattle.format_code.proofs.Together.{format_runs}
use Rattle.format_code.proofs.laws.format_runs.Goals as goal

pub returns : goal.returns
returns c = record { evaluates = format_runs }
