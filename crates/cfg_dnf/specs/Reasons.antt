-- A reason, by recursion over the predicate.
use Rattle.std.specs.Prelude.{Bool, true, false, ◌||◌, if◌then◌else◌, Option, Some, None, is_some}
use Rattle.std.specs.List.{list_any, list_all}
use Rattle.std.specs.FinMap as finite
use Rattle.ra_cfg.specs.declared.cfg_expr.CfgExpr.{CfgExpr, CfgExpr-F}
use Rattle.ra_cfg.specs.declared.cfg_expr.CfgExpr.TheFolds.{fold-CfgExpr}
use Rattle.ra_cfg.specs.Options.{OptionSet}
use Rattle.cfg_dnf.specs.declared.literal.Literal.{Literal}
use Rattle.cfg_dnf.specs.Form.{Form}
use Rattle.cfg_dnf.specs.Hints.{Reason, is_open, is_true, reason_of}
use Rattle.cfg_dnf.specs.Leaves.{passes, counted}

-- why a predicate is off, by the literals that count
abbrev pub reason_by_leaves : OptionSet → Form Literal → Option Reason
reason_by_leaves options f = if list_any (is_open options) (counted f) || passes (is_true options) f then None else Some (reason_of options (counted f))

-- whether all leaves have an answer, of whether those of the parts have
abbrev pub answered_step : OptionSet → CfgExpr-F Bool → Bool
answered_step options CfgExpr-F.Invalid = false
answered_step options (CfgExpr-F.Atom atom) = true
answered_step options (CfgExpr-F.All parts) = list_all (λ part. part) parts
answered_step options (CfgExpr-F.Any parts) = list_all (λ part. part) parts
answered_step options (CfgExpr-F.Not part) = part
answered_step options (CfgExpr-F.Version text) = is_some (finite.get options.versions text)

-- whether all leaves of a predicate have an answer: none is invalid, and each version is answered
abbrev pub all_answered : OptionSet → CfgExpr → Bool
all_answered options = fold-CfgExpr Bool (answered_step options)
