-- As many pieces as stand at a place, one behind the other, by a rule that does not look at what stands in front.
use Rattle.std.specs.Prelude.{◌≡◌, ℕ, zero, suc, ◌≤◌, List, [], ◌∷◌, ◌++◌, length, Option, Some, None}
use Rattle.text_cut.specs.Place.{Place, Took}
use Rattle.text_cut.specs.Reading.{Spelled, texts, items, AreSpelled}

-- a piece and what is read behind it, or nothing at this place
abbrev pub then_many : {X : Type 0} → Option (X × Place) → (Place → List X × Place) → Place → List X × Place
then_many None more p = ([], p)
then_many (Some r) more p = (r.0 ∷ (more r.1).0, (more r.1).1)

-- what is read from a place on, in so many pieces at most, and the place behind it
abbrev pub many_within : {X : Type 0} → (Place → Option (X × Place)) → ℕ → Place → List X × Place
many_within read zero p = ([], p)
many_within read (suc most) p = then_many (read p) (λ e. many_within read most e) p

-- all that is read from a place on, and the place behind it: there are no more pieces than characters
abbrev pub many_at : {X : Type 0} → (Place → Option (X × Place)) → Place → List X × Place
many_at read p = many_within read (length p.left) p

-- the rule does not look at what stands in front of a piece
pub record IgnoresFront {X : Type 0} (rule : List (Spelled X) → List ℕ → X → List ℕ → Type 0) : Type 0 where
  pub same : (front other : List (Spelled X)) (text : List ℕ) (v : X) (rest : List ℕ) → rule front text v rest → rule other text v rest

-- pieces by the rule stand between a place and r.1, and stand for r.0
pub record ManyAre {X : Type 0} (rule : List (Spelled X) → List ℕ → X → List ℕ → Type 0) (here : Place) (r : List X × Place) : Type 0 where
  pub spelled : List (Spelled X)
  pub took : Took here r.1 (texts spelled)
  pub are : AreSpelled rule [] spelled r.1.left
  pub values : r.0 ≡ items spelled

-- what a loop keeps that reads piece by piece: these values were read from the start on, up to this place
pub record ManySoFar {X : Type 0} (read : Place → Option (X × Place)) (start : Place) (values : List X) (here : Place) : Type 0 where
  pub most : ℕ
  pub enough : length here.left ≤ most
  pub same : many_at read start ≡ (values ++ (many_within read most here).0, (many_within read most here).1)
