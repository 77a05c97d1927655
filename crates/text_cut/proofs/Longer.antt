-- Pieces at the front of a longer text, where the rule does not look at what follows.
use Rattle.std.proofs.Common.{ℕ, List, [], ◌∷◌, ◌++◌, ap, ◌∙◌, sym, append_assoc}
use Rattle.std.proofs.lemmas.List.{append_cancel_right}
use Rattle.text_cut.specs.Reading.{Spelled, texts, AreSpelled, Reach, IgnoresRest}

-- the same pieces before something else
pub spelled_before : {X : Type 0} (rule : List (Spelled X) → List ℕ → X → List ℕ → Type 0) → IgnoresRest rule → (front ss : List (Spelled X)) (rest other : List ℕ) → AreSpelled rule front ss rest → AreSpelled rule front ss other
spelled_before rule ignores front [] rest other are = tt
spelled_before rule ignores front (s ∷ ss) rest other are =
    (ignores.same front s.text s.item (texts ss ++ rest) (texts ss ++ other) are.0, spelled_before rule ignores (front ++ s ∷ []) ss rest other are.1)

-- pieces of a text are pieces of a longer one
pub reach_longer : {X : Type 0} (rule : List (Spelled X) → List ℕ → X → List ℕ → Type 0) → IgnoresRest rule → (text : List ℕ) (ss : List (Spelled X)) (rest more : List ℕ) → Reach rule text ss rest → Reach rule (text ++ more) ss (rest ++ more)
reach_longer rule ignores text ss rest more reach = record {
  there = ap (λ l. l ++ more) reach.there ∙ append_assoc (texts ss) rest more;
  are = spelled_before rule ignores [] ss rest (rest ++ more) reach.are;
}

-- pieces of the longer text that end within the shorter are pieces of that one
pub reach_shorter : {X : Type 0} (rule : List (Spelled X) → List ℕ → X → List ℕ → Type 0) → IgnoresRest rule → (text : List ℕ) (ss : List (Spelled X)) (rest more : List ℕ) → Reach rule (text ++ more) ss (rest ++ more) → Reach rule text ss rest
reach_shorter rule ignores text ss rest more reach = record {
  there = append_cancel_right text (texts ss ++ rest) more (reach.there ∙ sym (append_assoc (texts ss) rest more));
  are = spelled_before rule ignores [] ss (rest ++ more) rest reach.are;
}
