-- A predicate as a boolean function: of which atoms are set, and of one free value for each leaf that is open, as they stand in it.
use Rattle.std.specs.Prelude.{◌≡◌, Bool, true, false, not, ◌&&◌, ◌||◌, List, [], ◌∷◌}
use Rattle.std.specs.Option.{unwrap_or}
use Rattle.std.specs.FinMap as finite
use Rattle.ra_cfg.specs.declared.cfg_expr.CfgExpr.{CfgExpr, CfgExpr-F}
use Rattle.ra_cfg.specs.declared.cfg_expr.CfgExpr.TheFolds.{fold-CfgExpr}
use Rattle.ra_cfg.specs.Options.{OptionSet}
use Rattle.cfg_dnf.specs.Hints.{holds}

-- a value for each place in a predicate: the way to a part begins with `true`, and the way past it with `false`
abbrev pub Free : Type 0
Free = List Bool → Bool

-- the values in the next part, and behind it
abbrev pub within : Free → Free
within free at = free (true ∷ at)

abbrev pub beyond : Free → Free
beyond free at = free (false ∷ at)

-- whether all parts are true
abbrev pub all_true : List (Free → Bool) → Free → Bool
all_true [] free = true
all_true (part ∷ parts) free = part (within free) && all_true parts (beyond free)

-- whether one part is true
abbrev pub any_true : List (Free → Bool) → Free → Bool
any_true [] free = false
any_true (part ∷ parts) free = part (within free) || any_true parts (beyond free)

-- the value of a predicate, of those of its parts: what is no predicate, and a version without an answer, have the free value
abbrev pub truth_step : OptionSet → CfgExpr-F (Free → Bool) → Free → Bool
truth_step options CfgExpr-F.Invalid free = free []
truth_step options (CfgExpr-F.Atom atom) free = holds options atom
truth_step options (CfgExpr-F.All parts) free = all_true parts free
truth_step options (CfgExpr-F.Any parts) free = any_true parts free
truth_step options (CfgExpr-F.Not part) free = not (part free)
truth_step options (CfgExpr-F.Version text) free = unwrap_or (finite.get options.versions text) (free [])

-- the value of a predicate
abbrev pub truth : OptionSet → CfgExpr → Free → Bool
truth options = fold-CfgExpr (Free → Bool) (truth_step options)

-- a predicate is surely true where it is true for all free values
abbrev pub SurelyTrue : OptionSet → CfgExpr → Type 0
SurelyTrue options expr = (free : Free) → truth options expr free ≡ true
