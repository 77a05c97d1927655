use Rattle.text_cut.specs.Seen.{seen}
use Rattle.text_cut.proofs.Rules.{took_as}
use Rattle.text_cut.proofs.walk.text_between.Goals as goal

pub returns : goal.returns
returns c = took_as (seen c.args.here) (seen c.args.later) _ _ c.requires.took c.text_before.ensures
