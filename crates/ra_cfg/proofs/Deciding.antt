-- Tests of equality agree.
use Rattle.std.proofs.Common.{◌≡◌, Bool}
use Rattle.std.specs.Bool.{Decides, one_answer}
use Rattle.std.specs.Coded.{Coded}
use Rattle.ra_cfg.specs.Decided.{equal, equal_Decides, equal_is, equal_along}

-- a test that is true exactly of equal values is `equal`
pub tells_equal : {A : Type 0} (c : Coded A) (r : Bool) (x y : A) → Decides r (x ≡ y) → r ≡ equal c x y
tells_equal c r x y tells = one_answer r (equal c x y) tells (equal_Decides c x y)

-- what callers of `==` go by
pub ruleset equality = (equal_is, equal_along)
