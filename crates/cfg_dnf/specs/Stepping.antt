-- A step of the walk, and a hint that it gives.
use Rattle.std.specs.Prelude.{◌≡◌, ◌<◌, ℕ, suc, Bool, true, false, List, [], ◌∷◌, length, Option, Some, None, Result, Ok, Err}
use Rattle.ra_cfg.specs.Diff.{Diff}
use Rattle.cfg_dnf.specs.declared.enable_hints.WalkState.{WalkState}
use Rattle.cfg_dnf.specs.declared.enable_hints.WalkState.TheVariants.{Start, At, Ended}
use Rattle.cfg_dnf.specs.declared.enable_hints.EnableHints.{EnableHints}
use Rattle.cfg_dnf.specs.declared.literal.Literal.{Literal}
use Rattle.cfg_dnf.specs.Form.{Form, form, first, next, chosen}
use Rattle.cfg_dnf.specs.Hints.{hint_if}
use Rattle.cfg_dnf.specs.Walking.{ahead_of, left_of, IsStanding, HasEnded}

-- the choices of the next conjunction, if there is one
abbrev pub wanted_by : Form Literal → WalkState → List ℕ → Option (List ℕ)
wanted_by f Start choices = first f
wanted_by f At choices = next f choices
wanted_by f Ended choices = None

abbrev pub wanted : EnableHints → Option (List ℕ)
wanted walk = wanted_by (form walk.expr.now false) walk.state walk.choices.items

-- the walk goes to the next conjunction
pub record GoesOn (old new : EnableHints) : Type 0 where
  pub state : new.state ≡ At
  pub standing : IsStanding new
  pub next : ahead_of old ≡ new.choices.items ∷ ahead_of new

-- there is none
pub record Ends (old new : EnableHints) : Type 0 where
  pub standing : IsStanding new
  pub none : ahead_of old ≡ []

abbrev pub StepsIf : EnableHints → EnableHints → Bool → Type 0
StepsIf old new true = GoesOn old new
StepsIf old new false = Ends old new

abbrev pub Steps : {E : Type 0} → Result Bool E → EnableHints → EnableHints → Type 0
Steps (Ok told) old new = StepsIf old new told
Steps (Err e) old new = Unit {0}

-- how many items can come
abbrev pub most_by : WalkState → ℕ → ℕ
most_by Start n = suc n
most_by At n = suc n
most_by Ended n = 0

abbrev pub most_left : EnableHints → ℕ
most_left walk = most_by walk.state (length (ahead_of walk))

-- the next hint is given, the walk stands at its conjunction, and the hints behind it are left
pub record GivesHint (old : EnableHints) (hint : Diff) (new : EnableHints) : Type 0 where
  pub at : new.state ≡ At
  pub here : Some hint ≡ hint_if new.opts.now (chosen (form new.expr.now false) new.choices.items)
  pub standing : IsStanding new
  pub next : left_of old ≡ hint ∷ left_of new
  pub fewer : most_left new < most_left old

-- no hint is left
abbrev pub GivesNext : EnableHints → Option Diff → EnableHints → Type 0
GivesNext old (Some hint) new = GivesHint old hint new
GivesNext old None new = left_of old ≡ []

-- what a call of `next` gives: the hints in order, then nothing; an error ends them
abbrev pub Gives : {E : Type 0} → EnableHints → Option (Result Diff E) → EnableHints → Type 0
Gives old None new = (left_of old ≡ []) × HasEnded new
Gives old (Some (Ok hint)) new = GivesHint old hint new
Gives old (Some (Err e)) new = HasEnded new
