-- Where the walk over the conjunctions stands, and what is left of it.
use Rattle.std.specs.Prelude.{◌≡◌, ℕ, false, List, [], ◌∷◌, ◌++◌, map}
use Rattle.ra_cfg.specs.Diff.{Diff}
use Rattle.cfg_dnf.specs.declared.enable_hints.WalkState.{WalkState}
use Rattle.cfg_dnf.specs.declared.enable_hints.WalkState.TheVariants.{Start, At, Ended}
use Rattle.cfg_dnf.specs.declared.enable_hints.EnableHints.{EnableHints}
use Rattle.cfg_dnf.specs.declared.literal.Literal.{Literal}
use Rattle.cfg_dnf.specs.Form.{Form, form, paths, chosen, behind}
use Rattle.cfg_dnf.specs.Hints.{hints_of}

-- the choices of the conjunctions that lie ahead
abbrev pub ahead_by : Form Literal → WalkState → List ℕ → List (List ℕ)
ahead_by f Start choices = paths f
ahead_by f At choices = behind choices (paths f)
ahead_by f Ended choices = []

abbrev pub ahead_of : EnableHints → List (List ℕ)
ahead_of walk = ahead_by (form walk.expr.now false) walk.state walk.choices.items

-- a walk stands at a conjunction where its choices are those of one
pub record StandsAt (f : Form Literal) (choices : List ℕ) : Type 0 where
  pub before : List (List ℕ)
  pub after : List (List ℕ)
  pub split : paths f ≡ before ++ choices ∷ after

-- choices are made only where the walk is at a conjunction, and then they are those of it
abbrev pub StandsBy : Form Literal → List ℕ → WalkState → Type 0
StandsBy f choices Start = choices ≡ []
StandsBy f choices At = StandsAt f choices
StandsBy f choices Ended = choices ≡ []

abbrev pub IsStanding : EnableHints → Type 0
IsStanding walk = StandsBy (form walk.expr.now false) walk.choices.items walk.state

-- the hints that are left
abbrev pub left_of : EnableHints → List Diff
left_of walk = hints_of walk.opts.now (map (chosen (form walk.expr.now false)) (ahead_of walk))

-- a walk over the same predicate under the same options
pub record IsAlong (old new : EnableHints) : Type 0 where
  pub expr : new.expr ≡ old.expr
  pub opts : new.opts ≡ old.opts

-- a walk that has ended
pub record HasEnded (walk : EnableHints) : Type 0 where
  pub state : walk.state ≡ Ended
  pub choices : walk.choices.items ≡ []
