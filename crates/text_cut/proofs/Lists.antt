-- Pieces in a row, one more of them, and lists that are empty or not.
use Rattle.std.proofs.Common.{◌≡◌, ◌≤◌, ◌<◌, List, drop, [], ◌∷◌, ◌++◌, length, refl, ap, ◌∙◌, sym, append_assoc, arith}
use Rattle.std.proofs.lemmas.List.{append-nil}
use Rattle.text_cut.specs.Reading.{Spelled, texts, items}

-- the spellings of one more piece
pub texts_more : {X : Type 0} (front : List (Spelled X)) (s : Spelled X) → texts (front ++ s ∷ []) ≡ texts front ++ s.text
texts_more [] s = append-nil s.text
texts_more (t ∷ front) s = ap (λ x. t.text ++ x) (texts_more front s) ∙ sym (append_assoc t.text (texts front) s.text)

-- the values of one more piece
pub items_more : {X : Type 0} (front : List (Spelled X)) (s : Spelled X) → items (front ++ s ∷ []) ≡ items front ++ s.item ∷ []
items_more [] s = refl
items_more (t ∷ front) s = ap (λ x. t.item ∷ x) (items_more front s)

-- a list that is not empty is not `[]`
pub not_empty : {X : Type 0} (xs : List X) → 0 < length xs → xs ≡ [] → ⊥
not_empty xs some e = omega (arith, some, ap length e)

-- of two fronts of one list the longer begins with the shorter
pub longer_begins : {X : Type 0} (front rest other left : List X) → front ++ rest ≡ other ++ left → length other ≤ length front → front ≡ other ++ drop (length other) front
longer_begins front rest [] left same fits = refl
longer_begins [] rest (b ∷ other) left same fits = absurd (omega arith)
longer_begins (a ∷ front) rest (b ∷ other) left same fits =
    let more : front ≡ other ++ drop (length other) front = longer_begins front rest other left (ap (λ l. drop 1 l) same) (omega arith) in
    let head : a ≡ b = cc in
    λ i. head i ∷ more i
