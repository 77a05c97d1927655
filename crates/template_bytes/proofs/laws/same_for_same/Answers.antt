use Rattle.template_bytes.proofs.OneSpelling.{same_for_same}
use Rattle.template_bytes.proofs.laws.same_for_same.Goals as goal

pub returns : goal.returns
returns c = same_for_same
