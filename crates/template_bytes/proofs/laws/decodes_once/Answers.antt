use Rattle.std.proofs.Common.{sym, ◌∙◌}
use Rattle.std.proofs.lemmas.Option.{same_Some}
use Rattle.template_bytes.proofs.laws.decodes_once.Goals as goal

pub returns : goal.returns
returns c = λ bytes items others is are. same_Some items others (sym is ∙ are)
