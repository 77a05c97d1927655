use Rattle.std.proofs.Common.{sym, subst}
use Rattle.std.specs.Str.{IsValidUpTo}
use Rattle.script.proofs.Ends.{valid_up_to}
use Rattle.script.proofs.script.valid_front.Goals as goal

pub returns-in-Ok-from_utf8 : goal.returns-in-Ok-from_utf8
returns-in-Ok-from_utf8 c = valid_up_to _ _ c.valid_up_to.result (subst (IsValidUpTo c.args.bytes.now) (sym c.valid_up_to.ensures) c.in-Err.ensures.cases.1) c.in-Ok-from_utf8.ensures.cases.0
