use Rattle.template_bytes.proofs.SomeSpelling.{some_spelling}
use Rattle.template_bytes.proofs.laws.some_spelling.Goals as goal

pub returns : goal.returns
returns c = some_spelling
