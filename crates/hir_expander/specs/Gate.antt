-- The first predicate that switches a thing off.
use Rattle.std.specs.Prelude.{if◌then◌else◌, List, [], ◌∷◌, Option, Some, None, Result, Ok, Err}
use Rattle.std.specs.Borrow.{Bor}
use Rattle.ra_cfg.specs.declared.cfg_expr.CfgExpr.{CfgExpr}
use Rattle.ra_cfg.specs.Options.{OptionSet}
use Rattle.ra_cfg.specs.Reading.{reads_false, reads_under}

-- the first of these predicates that, taken by itself, reads false
abbrev pub first_off : OptionSet → List CfgExpr → Option CfgExpr
first_off options [] = None
first_off options (cfg ∷ cfgs) = if reads_false (reads_under options cfg) then Some cfg else first_off options cfgs

-- the predicate that a gate tells
abbrev pub refused_by : {A : Type 0} → Result A (Bor CfgExpr) → Option CfgExpr
refused_by (Ok on) = None
refused_by (Err cfg) = Some cfg.now
