-- A reading of a text: pieces, one behind the other, each by a rule that sees what stands in front of it and all that follows.
use Rattle.std.specs.Prelude.{◌≡◌, ℕ, ◌+◌, ◌≤◌, ◌<◌, List, [], ◌∷◌, ◌++◌, length, map, Option, Some, None}
use Rattle.text_cut.specs.Runs.{size}
use Rattle.text_cut.specs.Place.{Place, place}
use Rattle.text_cut.specs.Rules.{Spells}

-- a spelling and what it stands for
pub record Spelled (X : Type 0) : Type 0 where
  pub text : List ℕ
  pub item : X

-- the spellings in a row
abbrev pub texts : {X : Type 0} → List (Spelled X) → List ℕ
texts [] = []
texts (s ∷ ss) = s.text ++ texts ss

-- what the pieces stand for
abbrev pub items : {X : Type 0} → List (Spelled X) → List X
items ss = map (λ s. s.item) ss

-- behind the pieces in front, each of these pieces is as the rule says, up to what follows
abbrev pub AreSpelled : {X : Type 0} → (List (Spelled X) → List ℕ → X → List ℕ → Type 0) → List (Spelled X) → List (Spelled X) → List ℕ → Type 0
AreSpelled rule front [] rest = Unit {0}
AreSpelled rule front (s ∷ ss) rest = rule front s.text s.item (texts ss ++ rest) × AreSpelled rule (front ++ s ∷ []) ss rest

-- pieces from the front of the text, up to what is left of it
pub record Reach {X : Type 0} (rule : List (Spelled X) → List ℕ → X → List ℕ → Type 0) (text : List ℕ) (ss : List (Spelled X)) (rest : List ℕ) : Type 0 where
  pub there : text ≡ texts ss ++ rest
  pub are : AreSpelled rule [] ss rest

-- the whole text is these pieces
abbrev pub IsReading : {X : Type 0} → (List (Spelled X) → List ℕ → X → List ℕ → Type 0) → List ℕ → List (Spelled X) → Type 0
IsReading rule text ss = Reach rule text ss []

-- the whole text is pieces that stand for these values
pub record IsRead {X : Type 0} (rule : List (Spelled X) → List ℕ → X → List ℕ → Type 0) (text : List ℕ) (values : List X) : Type 0 where
  pub pieces : List (Spelled X)
  pub reading : IsReading rule text pieces
  pub are : values ≡ items pieces

-- the text has no reading, and no pieces from its front reach further than these
pub record StopsAt {X : Type 0} (rule : List (Spelled X) → List ℕ → X → List ℕ → Type 0) (text : List ℕ) (front : List (Spelled X)) : Type 0 where
  pub rest : List ℕ
  pub reach : Reach rule text front rest
  pub furthest : (others : List (Spelled X)) (left : List ℕ) → Reach rule text others left → size (texts others) ≤ size (texts front)
  pub none : (others : List (Spelled X)) → IsReading rule text others → ⊥

-- the text has no reading, and this byte offset is the furthest that pieces from its front reach
pub record FaultAt {X : Type 0} (rule : List (Spelled X) → List ℕ → X → List ℕ → Type 0) (text : List ℕ) (at : ℕ) : Type 0 where
  pub front : List (Spelled X)
  pub stops : StopsAt rule text front
  pub ends : at ≡ size (texts front)

-- the reader, in the state that the pieces in front leave, finds the piece that the rule says, and only that; no piece is empty
pub record ReadsPieces {X S : Type 0} (rule : List (Spelled X) → List ℕ → X → List ℕ → Type 0) (state_of : List (Spelled X) → S) (read : S → Place → Option (X × Place)) : Type 0 where
  pub found : (front : List (Spelled X)) (text : List ℕ) (v : X) (rest : List ℕ) → rule front text v rest → read (state_of front) (place (size (texts front)) (text ++ rest)) ≡ Some (v, place (size (texts front) + size text) rest)
  pub is : (front : List (Spelled X)) (left : List ℕ) (r : X × Place) → read (state_of front) (place (size (texts front)) left) ≡ Some r → Spells (λ at. rule front) (place (size (texts front)) left) r
  pub some : (front : List (Spelled X)) (text : List ℕ) (v : X) (rest : List ℕ) → rule front text v rest → 0 < length text

-- one more piece takes the state by a step that needs only what the piece stands for
pub record StepsBy {X S : Type 0} (state_of : List (Spelled X) → S) (step : S → X → S) : Type 0 where
  pub more : (front : List (Spelled X)) (s : Spelled X) → state_of (front ++ s ∷ []) ≡ step (state_of front) s.item

-- what a loop keeps that reads piece by piece: the pieces so far stand for the values, leave this state, and reach this place
pub record SoFar {X S : Type 0} (rule : List (Spelled X) → List ℕ → X → List ℕ → Type 0) (state_of : List (Spelled X) → S) (text : List ℕ) (values : List X) (state : S) (here : Place) : Type 0 where
  pub front : List (Spelled X)
  pub reach : Reach rule text front here.left
  pub at : here.at ≡ size (texts front)
  pub left_by : state ≡ state_of front
  pub are : values ≡ items front

-- no piece stands at this place: the reader, in this state, finds none, and something is left
pub record IsStuck {X S : Type 0} (read : S → Place → Option (X × Place)) (state : S) (here : Place) : Type 0 where
  pub none : read state here ≡ None
  pub more : 0 < length here.left

-- the rule does not look at what follows a piece
pub record IgnoresRest {X : Type 0} (rule : List (Spelled X) → List ℕ → X → List ℕ → Type 0) : Type 0 where
  pub same : (front : List (Spelled X)) (text : List ℕ) (v : X) (rest other : List ℕ) → rule front text v rest → rule front text v other
