-- What a loop keeps that reads piece by piece: how it begins, goes on, ends and stops.
use Rattle.std.proofs.Common.{◌≡◌, ℕ, ◌<◌, List, [], ◌∷◌, ◌++◌, Option, Some, None, refl, ap, ◌∙◌, sym, subst, arith}
use Rattle.text_cut.specs.Runs.{size}
use Rattle.text_cut.specs.Place.{Place, place}
use Rattle.text_cut.specs.Rules.{Spells}
use Rattle.text_cut.specs.Reading.{Spelled, texts, IsRead, FaultAt, ReadsPieces, StepsBy, SoFar, IsStuck}
use Rattle.text_cut.proofs.Lists.{texts_more, items_more}
use Rattle.text_cut.proofs.Sizes.{size_append, size_some}
use Rattle.text_cut.proofs.Pieces.{reach_begins, reach_ends, next_piece, stops_at}

-- nothing is read yet
pub so_far_begins : {X S : Type 0} (rule : List (Spelled X) → List ℕ → X → List ℕ → Type 0) (state_of : List (Spelled X) → S) (text : List ℕ) → SoFar rule state_of text [] (state_of []) (place 0 text)
so_far_begins rule state_of text = record { front = []; reach = reach_begins rule text; at = refl; left_by = refl; are = refl }

-- the pieces in front and one more
one_further : {X S : Type 0} (rule : List (Spelled X) → List ℕ → X → List ℕ → Type 0) (state_of : List (Spelled X) → S) (step : S → X → S) → StepsBy state_of step → (text : List ℕ) (values : List X) (state : S) (here : Place) (v : X) (e : Place) → (sofar : SoFar rule state_of text values state here) → Spells (λ at. rule sofar.front) here (v, e) → SoFar rule state_of text (values ++ v ∷ []) (step state v) e
one_further rule state_of step steps text values state here v e sofar one =
    let s : Spelled _ = record { text = one.text; item = v } in
    record {
      front = sofar.front ++ s ∷ [];
      reach = next_piece rule text sofar.front here.left s e.left sofar.reach one.took.there one.rule;
      at = omega (arith, one.took.ends, sofar.at, ap size (texts_more sofar.front s), size_append (texts sofar.front) one.text);
      left_by = ap (λ x. step x v) sofar.left_by ∙ sym (steps.more sofar.front s);
      are = ap (λ l. l ++ v ∷ []) sofar.are ∙ sym (items_more sofar.front s);
    }

-- the place that the pieces in front reach
place_of : {X S : Type 0} (rule : List (Spelled X) → List ℕ → X → List ℕ → Type 0) (state_of : List (Spelled X) → S) (text : List ℕ) (values : List X) (state : S) (here : Place) → (sofar : SoFar rule state_of text values state here) → here ≡ place (size (texts sofar.front)) here.left
place_of rule state_of text values state here sofar = ap (λ n. place n here.left) sofar.at

-- one more piece is read
pub so_far_more : {X S : Type 0} (rule : List (Spelled X) → List ℕ → X → List ℕ → Type 0) (state_of : List (Spelled X) → S) (read : S → Place → Option (X × Place)) (step : S → X → S) → ReadsPieces rule state_of read → StepsBy state_of step → (text : List ℕ) (values : List X) (state : S) (here : Place) (v : X) (e : Place) → SoFar rule state_of text values state here → read state here ≡ Some (v, e) → SoFar rule state_of text (values ++ v ∷ []) (step state v) e
so_far_more rule state_of read step reads steps text values state here v e sofar found =
    let at = place_of rule state_of text values state here sofar in
    let there : read (state_of sofar.front) (place (size (texts sofar.front)) here.left) ≡ Some (v, e) = sym (ap (λ s. read s here) sofar.left_by ∙ ap (λ p. read (state_of sofar.front) p) at) ∙ found in
    one_further rule state_of step steps text values state here v e sofar
    (subst (λ p. Spells (λ at. rule sofar.front) p (v, e)) (sym at) (reads.is sofar.front here.left (v, e) there))

-- nothing is left: the whole text is read
pub so_far_ends : {X S : Type 0} (rule : List (Spelled X) → List ℕ → X → List ℕ → Type 0) (state_of : List (Spelled X) → S) (text : List ℕ) (values : List X) (state : S) (here : Place) → SoFar rule state_of text values state here → here.left ≡ [] → IsRead rule text values
so_far_ends rule state_of text values state here sofar none = record { pieces = sofar.front; reading = reach_ends rule text sofar.front here.left sofar.reach none; are = sofar.are }

-- no piece stands here: the text stops at this byte
pub so_far_stops : {X S : Type 0} (rule : List (Spelled X) → List ℕ → X → List ℕ → Type 0) (state_of : List (Spelled X) → S) (read : S → Place → Option (X × Place)) → ReadsPieces rule state_of read → (text : List ℕ) (values : List X) (state : S) (here : Place) → SoFar rule state_of text values state here → IsStuck read state here → FaultAt rule text here.at
so_far_stops rule state_of read reads text values state here sofar stuck =
    let at = place_of rule state_of text values state here sofar in
    let none : read (state_of sofar.front) (place (size (texts sofar.front)) here.left) ≡ None = sym (ap (λ s. read s here) sofar.left_by ∙ ap (λ p. read (state_of sofar.front) p) at) ∙ stuck.none in
    record { front = sofar.front; stops = stops_at rule state_of read reads text sofar.front here.left sofar.reach stuck.more none; ends = sofar.at }

-- less is left behind a piece
pub so_far_smaller : {X S : Type 0} (rule : List (Spelled X) → List ℕ → X → List ℕ → Type 0) (state_of : List (Spelled X) → S) (read : S → Place → Option (X × Place)) → ReadsPieces rule state_of read → (text : List ℕ) (values : List X) (state : S) (here : Place) (v : X) (e : Place) → SoFar rule state_of text values state here → read state here ≡ Some (v, e) → size e.left < size here.left
so_far_smaller rule state_of read reads text values state here v e sofar found =
    let at = place_of rule state_of text values state here sofar in
    let there : read (state_of sofar.front) (place (size (texts sofar.front)) here.left) ≡ Some (v, e) = sym (ap (λ s. read s here) sofar.left_by ∙ ap (λ p. read (state_of sofar.front) p) at) ∙ found in
    let one : Spells (λ at. rule sofar.front) (place (size (texts sofar.front)) here.left) (v, e) = reads.is sofar.front here.left (v, e) there in
    omega (arith, ap size one.took.there, size_append one.text e.left, size_some one.text (reads.some sofar.front one.text v e.left one.rule))
