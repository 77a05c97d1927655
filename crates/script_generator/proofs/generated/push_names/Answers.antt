use Rattle.script_generator.specs.Generated.{name_text}
use Rattle.script_generator.proofs.Below.{written_more}
use Rattle.script_generator.proofs.generated.push_names.Goals as goal

pub loop-number-preserved : goal.loop-number-preserved
loop-number-preserved c = written_more name_text c.loop-number.number _ _ _ c.loop-number.invariant c.in_ok-push_name.ensures
