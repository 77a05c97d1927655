-- What is read of a whole text is its reading.
use Rattle.std.proofs.Common.{◌≡◌, ℕ, zero, suc, ◌+◌, ◌≤◌, ◌<◌, List, [], ◌∷◌, ◌++◌, length, Option, Some, None, refl, ap, ◌∙◌, sym, subst, append_assoc, length-append, arith}
use Rattle.std.specs.Option.{option_map}
use Rattle.std.proofs.lemmas.List.{append-nil}
use Rattle.std.proofs.lemmas.Option.{same_Some}
use Rattle.text_cut.specs.Runs.{size}
use Rattle.text_cut.specs.Place.{Place, place}
use Rattle.text_cut.specs.Reading.{Spelled, texts, items, AreSpelled, IsRead, ReadsPieces, StepsBy, SoFar}
use Rattle.text_cut.specs.Whole.{unless_ended, then_more, read_within, read_whole}
use Rattle.text_cut.proofs.Lists.{texts_more}
use Rattle.text_cut.proofs.OptionLaws.{mapped, none_some}
use Rattle.text_cut.proofs.Sizes.{size_append}
use Rattle.text_cut.proofs.SoFar.{so_far_begins, so_far_more, so_far_ends}

-- nothing is remembered from piece to piece
abbrev pub no_state : {X : Type 0} → List (Spelled X) → Unit {0}
no_state front = tt

module _ {X : Type 0} (rule : List (Spelled X) → List ℕ → X → List ℕ → Type 0) (read : Place → Option (X × Place)) (reads : ReadsPieces rule no_state (λ state. read)) where
  steps_none : StepsBy {X = X} no_state (λ state x. tt)
  steps_none = record { more = λ front s. refl }

  -- pieces are read from the place behind those in front
  pieces_within : (most : ℕ) (front ss : List (Spelled X)) → length (texts ss) ≤ most → AreSpelled rule front ss [] → read_within read most (place (size (texts front)) (texts ss ++ [])) ≡ Some (items ss)
  pieces_within zero front [] fits are = refl
  pieces_within (suc most) front [] fits are = refl
  pieces_within zero front (s ∷ ss) fits are = absurd (omega (arith, length-append s.text (texts ss), reads.some front s.text s.item (texts ss ++ []) are.0))
  pieces_within (suc most) front (s ∷ ss) fits are =
      let some : 0 < length s.text = reads.some front s.text s.item (texts ss ++ []) are.0 in
      let there : (s.text ++ texts ss) ++ [] ≡ s.text ++ (texts ss ++ []) = append_assoc s.text (texts ss) [] in
      let place_is : place (size (texts front) + size s.text) (texts ss ++ []) ≡ place (size (texts (front ++ s ∷ []))) (texts ss ++ []) =
      ap (λ n. place n (texts ss ++ [])) (omega (arith, ap size (texts_more front s), size_append (texts front) s.text)) in
      ap (λ l. read_within read (suc most) (place (size (texts front)) l)) there
      ∙ (not_ended s.text (texts ss ++ []) (then_more (read (place (size (texts front)) (s.text ++ (texts ss ++ [])))) (λ e. read_within read most e)) some
      ∙ (ap (λ o. then_more o (λ e. read_within read most e)) (reads.found front s.text s.item (texts ss ++ []) are.0)
      ∙ ap (λ o. option_map (λ values. s.item ∷ values) o)
      (ap (λ p. read_within read most p) place_is ∙ pieces_within most (front ++ s ∷ []) ss (omega (arith, some, fits, length-append s.text (texts ss))) are.1)))
    where
      not_ended : (text rest : List ℕ) (more : Option (List X)) → 0 < length text → unless_ended (text ++ rest) more ≡ more
      not_ended [] rest more some = absurd (omega arith)
      not_ended (c ∷ text) rest more some = refl

  -- the reading of a whole text is read
  pub whole_found : (text : List ℕ) (values : List X) → IsRead rule text values → read_whole read text ≡ Some values
  whole_found text values is =
      let whole : text ≡ texts is.pieces ++ [] = is.reading.there in
      let fits : length (texts is.pieces) ≤ length text = omega (arith, ap length whole, length-append (texts is.pieces) []) in
      ap (λ l. read_within read (length text) (place 0 l)) whole ∙ (pieces_within (length text) [] is.pieces fits is.reading.are ∙ ap (λ l. Some l) (sym is.are))

  -- nothing is left, and nothing more is read
  ended_is : (text : List ℕ) (values more : List X) (at : ℕ) → SoFar rule no_state text values tt (place at []) → Some [] ≡ Some more → IsRead rule text (values ++ more)
  ended_is text values more at so_far found =
      subst (λ l. IsRead rule text (values ++ l)) (same_Some _ _ found)
      (subst (λ l. IsRead rule text l) (sym (append-nil values)) (so_far_ends rule no_state text values tt (place at []) so_far refl))

  -- a piece is read, and what follows it
  more_is : (most : ℕ) (text : List ℕ) (values more : List X) (here : Place) (o : Option (X × Place)) → read here ≡ o → SoFar rule no_state text values tt here
      → ((values more : List X) (e : Place) → SoFar rule no_state text values tt e → read_within read most e ≡ Some more → IsRead rule text (values ++ more))
      → then_more o (λ e. read_within read most e) ≡ Some more → IsRead rule text (values ++ more)
  more_is most text values more here None found so_far go there = absurd (none_some more there)
  more_is most text values more here (Some r) found so_far go there = mapped (λ (vs : List X). r.0 ∷ vs) (read_within read most r.1) more there
      (λ vs behind same. subst (λ l. IsRead rule text (values ++ l)) same
      (subst (λ l. IsRead rule text l) (append_assoc values (r.0 ∷ []) vs)
      (go (values ++ r.0 ∷ []) vs r.1 (so_far_more rule no_state (λ state. read) (λ state x. tt) reads steps_none text values tt here r.0 r.1 so_far found) behind)))

  -- what is read from a place on goes on what was read up to it
  within_is : (most : ℕ) (text : List ℕ) (values more : List X) (at : ℕ) (left : List ℕ) → SoFar rule no_state text values tt (place at left) → read_within read most (place at left) ≡ Some more → IsRead rule text (values ++ more)
  within_is zero text values more at [] so_far found = ended_is text values more at so_far found
  within_is (suc most) text values more at [] so_far found = ended_is text values more at so_far found
  within_is zero text values more at (c ∷ left) so_far found = absurd (none_some more found)
  within_is (suc most) text values more at (c ∷ left) so_far found =
      more_is most text values more (place at (c ∷ left)) (read (place at (c ∷ left))) refl so_far
      (λ vs ms e sf there. within_is most text vs ms e.at e.left sf there) found

  -- what is read of a whole text is its reading
  pub whole_is : (text : List ℕ) (values : List X) → read_whole read text ≡ Some values → IsRead rule text values
  whole_is text values found = within_is (length text) text [] values 0 text (so_far_begins rule no_state text) found
