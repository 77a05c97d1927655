-- What a step of the walk leaves: choices in front that stay, and the choices that it makes behind them.
use Rattle.std.specs.Prelude.{◌≡◌, ℕ, ◌+◌, Bool, true, false, List, [], ◌∷◌, ◌++◌, Option, Some, None, Result, Ok, Err}

-- the choices are made
pub record Made (front new : List ℕ) (wanted : Option (List ℕ)) : Type 0 where
  pub choices : List ℕ
  pub left : new ≡ front ++ choices
  pub are : wanted ≡ Some choices

-- there are none to make
pub record Unmade (front new : List ℕ) (wanted : Option (List ℕ)) : Type 0 where
  pub choices : List ℕ
  pub left : new ≡ front ++ choices
  pub none : wanted ≡ None

-- the answer tells whether there are any
abbrev pub MakesIf : List ℕ → List ℕ → Option (List ℕ) → Bool → Type 0
MakesIf front new wanted true = Made front new wanted
MakesIf front new wanted false = Unmade front new wanted

-- the same of a result, of which nothing is said where it is an error
abbrev pub Makes : {E : Type 0} → Result Bool E → List ℕ → List ℕ → Option (List ℕ) → Type 0
Makes (Ok told) front new wanted = MakesIf front new wanted told
Makes (Err e) front new wanted = Unit {0}

-- choices whose first one is so much later
abbrev pub shifted : ℕ → List ℕ → List ℕ
shifted n [] = []
shifted n (i ∷ p) = (n + i) ∷ p
