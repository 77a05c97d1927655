-- Worked examples of readings, with no atom set, and with one version that is answered `no`.
use Rattle.std.proofs.Common.{◌≡◌, ℕ, Bool, true, false, List, [], ◌∷◌, Option, Some, None, codes}
use Rattle.ra_cfg.specs.declared.cfg_expr.CfgAtom.{CfgAtom}
use Rattle.ra_cfg.specs.declared.cfg_expr.CfgAtom.TheVariants.{Flag}
use Rattle.ra_cfg.specs.declared.cfg_expr.CfgExpr.{CfgExpr, Invalid, Atom, All, Any, Not, Version}
use Rattle.ra_cfg.specs.Reading.{reading}
use Rattle.ra_cfg.proofs.Equations.{equations}

-- no atom is set
abbrev none_set : CfgAtom → Bool
none_set atom = false

-- no version is answered
abbrev none_answered : List ℕ → Option Bool
none_answered text = None

-- each version is answered `no`
abbrev all_refused : List ℕ → Option Bool
all_refused text = Some false

abbrev windows : CfgExpr
windows = Atom (Flag (codes "windows"))

-- `all(5, windows)`: the first part that does not read true reads nothing
all_of_invalid_and_off : reading none_set none_answered (All (Invalid ∷ windows ∷ [])) ≡ None
all_of_invalid_and_off = simp equations

-- `all(windows, 5)`: the first part that does not read true reads false
all_of_off_and_invalid : reading none_set none_answered (All (windows ∷ Invalid ∷ [])) ≡ Some false
all_of_off_and_invalid = simp equations

-- `any()`
any_of_none : reading none_set none_answered (Any []) ≡ Some false
any_of_none = simp equations

-- `all()`
all_of_none : reading none_set none_answered (All []) ≡ Some true
all_of_none = simp equations

-- `not(5)`
not_invalid : reading none_set none_answered (Not Invalid) ≡ None
not_invalid = simp equations

-- `not(windows)`
not_off : reading none_set none_answered (Not windows) ≡ Some true
not_off = simp equations

-- `any(5, all())`: the first part that does not read false reads nothing
any_of_invalid_and_true : reading none_set none_answered (Any (Invalid ∷ All [] ∷ [])) ≡ None
any_of_invalid_and_true = simp equations

-- `version("1.70")` without an answer
version_open : reading none_set none_answered (Version (codes "1.70")) ≡ None
version_open = simp equations

-- `version("1.70")` with the answer `no`
version_refused : reading none_set all_refused (Version (codes "1.70")) ≡ Some false
version_refused = simp equations
