use Rattle.std.proofs.Common.{Err, ap, ◌∙◌}
use Rattle.hir_fmt.proofs.read.literal_value.Goals as goal

pub returns-in-Err-Escape : goal.returns-in-Err-Escape
returns-in-Err-Escape c = c.value.ensures.escape (c.in-Err-Escape.is ∙ ap (λ e. Err e) c.in-Err-Escape.field-0-is)
