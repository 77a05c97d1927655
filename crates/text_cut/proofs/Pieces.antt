-- Readings piece by piece: one more piece, one reading at most, and the furthest place.
use Rattle.std.proofs.Common.{◌≡◌, ℕ, ◌+◌, ◌≤◌, ◌<◌, List, [], ◌∷◌, ◌++◌, length, Option, Some, None, refl, ap, ◌∙◌, sym, subst, append_assoc, length-append, arith}
use Rattle.std.proofs.lemmas.List.{append-nil, append_cancel_right}
use Rattle.std.proofs.lemmas.Option.{same_Some}
use Rattle.text_cut.specs.Runs.{size}
use Rattle.text_cut.specs.Place.{Place, place}
use Rattle.text_cut.specs.Reading.{Spelled, texts, items, AreSpelled, Reach, IsReading, IsRead, StopsAt, FaultAt, ReadsPieces}
use Rattle.text_cut.proofs.Lists.{texts_more}
use Rattle.text_cut.proofs.OptionLaws.{none_some}
use Rattle.text_cut.proofs.Sizes.{size_append, size_some}

-- no piece yet
pub reach_begins : {X : Type 0} (rule : List (Spelled X) → List ℕ → X → List ℕ → Type 0) (text : List ℕ) → Reach rule text [] text
reach_begins rule text = record { there = refl; are = tt }

-- nothing is left
pub reach_ends : {X : Type 0} (rule : List (Spelled X) → List ℕ → X → List ℕ → Type 0) (text : List ℕ) (ss : List (Spelled X)) (rest : List ℕ) → Reach rule text ss rest → rest ≡ [] → IsReading rule text ss
reach_ends rule text ss rest reach e = subst (λ l. Reach rule text ss l) e reach

-- one more piece behind pieces that are spelled
pub spelled_more : {X : Type 0} (rule : List (Spelled X) → List ℕ → X → List ℕ → Type 0) (front ss : List (Spelled X)) (s : Spelled X) (left : List ℕ) → AreSpelled rule front ss (s.text ++ left) → rule (front ++ ss) s.text s.item left → AreSpelled rule front (ss ++ s ∷ []) left
spelled_more rule front [] s left are one = (subst (λ l. rule l s.text s.item left) (append-nil front) one, tt)
spelled_more rule front (t ∷ ss) s left are one = (
  subst (λ l. rule front t.text t.item l) (sym (append_assoc (texts ss) s.text left) ∙ ap (λ l. l ++ left) (sym (texts_more ss s))) are.0,
  spelled_more rule (front ++ t ∷ []) ss s left are.1 (subst (λ l. rule l s.text s.item left) (sym (append_assoc front (t ∷ []) ss)) one),
)

-- one more piece
pub next_piece : {X : Type 0} (rule : List (Spelled X) → List ℕ → X → List ℕ → Type 0) (text : List ℕ) (ss : List (Spelled X)) (rest : List ℕ) (s : Spelled X) (left : List ℕ) → Reach rule text ss rest → rest ≡ s.text ++ left → rule ss s.text s.item left → Reach rule text (ss ++ s ∷ []) left
next_piece rule text ss rest s left reach e one = record {
  there = reach.there ∙ (ap (λ l. texts ss ++ l) e ∙ (sym (append_assoc (texts ss) s.text left) ∙ ap (λ l. l ++ left) (sym (texts_more ss s))));
  are = spelled_more rule [] ss s left (subst (λ l. AreSpelled rule [] ss l) e reach.are) one;
}

same_spelled : {X : Type 0} (s t : Spelled X) → s.text ≡ t.text → s.item ≡ t.item → s ≡ t
same_spelled s t text item = λ i. record { text = text i; item = item i }

-- two pieces at one place are one
same_piece : {X S : Type 0} (rule : List (Spelled X) → List ℕ → X → List ℕ → Type 0) (state_of : List (Spelled X) → S) (read : S → Place → Option (X × Place)) → ReadsPieces rule state_of read → (front : List (Spelled X)) (s t : Spelled X) (more other : List ℕ) → rule front s.text s.item more → rule front t.text t.item other → s.text ++ more ≡ t.text ++ other → (s ≡ t) × (more ≡ other)
same_piece rule state_of read reads front s t more other a b e =
    let same : Some (s.item, place (size (texts front) + size s.text) more) ≡ Some (t.item, place (size (texts front) + size t.text) other) =
    sym (reads.found front s.text s.item more a) ∙ (ap (λ l. read (state_of front) (place (size (texts front)) l)) e ∙ reads.found front t.text t.item other b) in
    let left : more ≡ other = ap (λ r. r.1.left) (same_Some _ _ same) in
    let text : s.text ≡ t.text = append_cancel_right s.text t.text other (ap (λ l. s.text ++ l) (sym left) ∙ e) in
    (same_spelled s t text (ap (λ r. r.0) (same_Some _ _ same)), left)

-- from one place, two lists of pieces up to the end are one
same_pieces : {X S : Type 0} (rule : List (Spelled X) → List ℕ → X → List ℕ → Type 0) (state_of : List (Spelled X) → S) (read : S → Place → Option (X × Place)) → ReadsPieces rule state_of read → (front ss others : List (Spelled X)) → AreSpelled rule front ss [] → AreSpelled rule front others [] → texts ss ++ [] ≡ texts others ++ [] → ss ≡ others
same_pieces rule state_of read reads front [] [] a b e = refl
same_pieces rule state_of read reads front [] (t ∷ ts) a b e =
    absurd (omega (arith, ap length e, reads.some front t.text t.item (texts ts ++ []) b.0, length-append t.text (texts ts), length-append (t.text ++ texts ts) []))
same_pieces rule state_of read reads front (s ∷ ss) [] a b e =
    absurd (omega (arith, ap length e, reads.some front s.text s.item (texts ss ++ []) a.0, length-append s.text (texts ss), length-append (s.text ++ texts ss) []))
same_pieces rule state_of read reads front (s ∷ ss) (t ∷ ts) a b e =
    let one = same_piece rule state_of read reads front s t (texts ss ++ []) (texts ts ++ []) a.0 b.0 (sym (append_assoc s.text (texts ss) []) ∙ (e ∙ append_assoc t.text (texts ts) [])) in
    let more : ss ≡ ts = same_pieces rule state_of read reads (front ++ s ∷ []) ss ts a.1 (subst (λ x. AreSpelled rule (front ++ x ∷ []) ts []) (sym one.0) b.1) one.1 in
    λ i. one.0 i ∷ more i

-- a text has at most one reading
pub one_reading : {X S : Type 0} (rule : List (Spelled X) → List ℕ → X → List ℕ → Type 0) (state_of : List (Spelled X) → S) (read : S → Place → Option (X × Place)) → ReadsPieces rule state_of read → (text : List ℕ) (ss others : List (Spelled X)) → IsReading rule text ss → IsReading rule text others → ss ≡ others
one_reading rule state_of read reads text ss others a b = same_pieces rule state_of read reads [] ss others a.are b.are (sym a.there ∙ b.there)

far : {X S : Type 0} (rule : List (Spelled X) → List ℕ → X → List ℕ → Type 0) (state_of : List (Spelled X) → S) (read : S → Place → Option (X × Place)) → ReadsPieces rule state_of read → (front ss others : List (Spelled X)) (rest left : List ℕ) → AreSpelled rule front ss rest → AreSpelled rule front others left → texts ss ++ rest ≡ texts others ++ left → read (state_of (front ++ ss)) (place (size (texts (front ++ ss))) rest) ≡ None → size (texts others) ≤ size (texts ss)
far rule state_of read reads front ss [] rest left a b e stuck = omega arith
far rule state_of read reads front [] (t ∷ ts) rest left a b e stuck =
    let here : read (state_of front) (place (size (texts front)) rest) ≡ None = subst (λ l. read (state_of l) (place (size (texts l)) rest) ≡ None) (append-nil front) stuck in
    let there : rest ≡ t.text ++ (texts ts ++ left) = e ∙ append_assoc t.text (texts ts) left in
    absurd (none_some _ (sym here ∙ (ap (λ l. read (state_of front) (place (size (texts front)) l)) there ∙ reads.found front t.text t.item (texts ts ++ left) b.0)))
far rule state_of read reads front (s ∷ ss) (t ∷ ts) rest left a b e stuck =
    let one = same_piece rule state_of read reads front s t (texts ss ++ rest) (texts ts ++ left) a.0 b.0 (sym (append_assoc s.text (texts ss) rest) ∙ (e ∙ append_assoc t.text (texts ts) left)) in
    let more : size (texts ts) ≤ size (texts ss) = far rule state_of read reads (front ++ s ∷ []) ss ts rest left a.1
    (subst (λ x. AreSpelled rule (front ++ x ∷ []) ts left) (sym one.0) b.1) one.1
    (subst (λ l. read (state_of l) (place (size (texts l)) rest) ≡ None) (sym (append_assoc front (s ∷ []) ss)) stuck) in
    omega (arith, more, size_append s.text (texts ss), size_append t.text (texts ts), ap (λ x. size x.text) one.0)

-- where the reader finds no piece, no other pieces reach further
pub furthest : {X S : Type 0} (rule : List (Spelled X) → List ℕ → X → List ℕ → Type 0) (state_of : List (Spelled X) → S) (read : S → Place → Option (X × Place)) → ReadsPieces rule state_of read → (text : List ℕ) (front : List (Spelled X)) (rest : List ℕ) → Reach rule text front rest → read (state_of front) (place (size (texts front)) rest) ≡ None → (others : List (Spelled X)) (left : List ℕ) → Reach rule text others left → size (texts others) ≤ size (texts front)
furthest rule state_of read reads text front rest reach stuck others left other =
    far rule state_of read reads [] front others rest left reach.are other.are (sym reach.there ∙ other.there) stuck

-- where the reader finds no piece and something is left, the text has no reading
pub no_reading : {X S : Type 0} (rule : List (Spelled X) → List ℕ → X → List ℕ → Type 0) (state_of : List (Spelled X) → S) (read : S → Place → Option (X × Place)) → ReadsPieces rule state_of read → (text : List ℕ) (front : List (Spelled X)) (rest : List ℕ) → Reach rule text front rest → 0 < length rest → read (state_of front) (place (size (texts front)) rest) ≡ None → (others : List (Spelled X)) → IsReading rule text others → ⊥
no_reading rule state_of read reads text front rest reach more stuck others reading =
    let most : size (texts others) ≤ size (texts front) = furthest rule state_of read reads text front rest reach stuck others [] reading in
    omega (arith, most, size_some rest more, ap size reach.there, ap size reading.there, size_append (texts front) rest, size_append (texts others) [])

-- pieces up to a place where the reader finds none, with something left, are where the text stops
pub stops_at : {X S : Type 0} (rule : List (Spelled X) → List ℕ → X → List ℕ → Type 0) (state_of : List (Spelled X) → S) (read : S → Place → Option (X × Place)) → ReadsPieces rule state_of read → (text : List ℕ) (front : List (Spelled X)) (rest : List ℕ) → Reach rule text front rest → 0 < length rest → read (state_of front) (place (size (texts front)) rest) ≡ None → StopsAt rule text front
stops_at rule state_of read reads text front rest reach more stuck = record {
  rest = rest;
  reach = reach;
  furthest = furthest rule state_of read reads text front rest reach stuck;
  none = no_reading rule state_of read reads text front rest reach more stuck;
}

-- a text stands for at most one list of values
pub one_read : {X S : Type 0} (rule : List (Spelled X) → List ℕ → X → List ℕ → Type 0) (state_of : List (Spelled X) → S) (read : S → Place → Option (X × Place)) → ReadsPieces rule state_of read → (text : List ℕ) (values others : List X) → IsRead rule text values → IsRead rule text others → values ≡ others
one_read rule state_of read reads text values others a b =
    a.are ∙ (ap (λ ss. items ss) (one_reading rule state_of read reads text a.pieces b.pieces a.reading b.reading) ∙ sym b.are)

-- a text that is read has no fault
pub no_fault : {X : Type 0} (rule : List (Spelled X) → List ℕ → X → List ℕ → Type 0) (text : List ℕ) (values : List X) (at : ℕ) → IsRead rule text values → FaultAt rule text at → ⊥
no_fault rule text values at read fault = fault.stops.none read.pieces read.reading

-- a text has at most one fault
pub one_fault : {X : Type 0} (rule : List (Spelled X) → List ℕ → X → List ℕ → Type 0) (text : List ℕ) (at other : ℕ) → FaultAt rule text at → FaultAt rule text other → at ≡ other
one_fault rule text at other a b =
    omega (arith, a.ends, b.ends, a.stops.furthest b.front b.stops.rest b.stops.reach, b.stops.furthest a.front a.stops.rest a.stops.reach)
