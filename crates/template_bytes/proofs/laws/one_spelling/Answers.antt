use Rattle.template_bytes.proofs.OneSpelling.{one_spelling}
use Rattle.template_bytes.proofs.laws.one_spelling.Goals as goal

pub returns : goal.returns
returns c = one_spelling
