use Rattle.std.proofs.Common.{Some, ap, ◌∙◌}
use Rattle.hir_fmt.proofs.Placeholders.{finds_count}
use Rattle.hir_fmt.proofs.placeholder.find_count.Goals as goal

pub returns-in_ok-position-in-Some-Right-clause-found : goal.returns-in_ok-position-in-Some-Right-clause-found
returns-in_ok-position-in-Some-Right-clause-found g c = finds_count c.args.counted (c.in-Some-Right.is ∙ ap (λ e. Some e) c.in-Some-Right.field-0-is) c.in_ok-position-in-Some-Right.ensures.found
