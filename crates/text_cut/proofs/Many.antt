-- As many pieces as stand at a place: those that stand there are read, and those that are read stand there.
use Rattle.std.proofs.Common.{◌≡◌, ℕ, zero, suc, ◌+◌, ◌≤◌, ◌<◌, List, [], ◌∷◌, ◌++◌, length, replicate, Option, Some, None, refl, ap, ◌∙◌, sym, subst, append_assoc, append-nil, length-append, arith}
use Rattle.std.proofs.lemmas.List.{append_cancel_right}
use Rattle.std.proofs.lemmas.Option.{same_Some}
use Rattle.text_cut.specs.Runs.{size}
use Rattle.text_cut.specs.Place.{Place, place}
use Rattle.text_cut.specs.Rules.{Spells}
use Rattle.text_cut.specs.Reading.{Spelled, texts, items, AreSpelled, ReadsPieces}
use Rattle.text_cut.specs.Many.{then_many, many_within, many_at, IgnoresFront, ManyAre, ManySoFar}
use Rattle.text_cut.proofs.Rules.{took_none, took_both}
use Rattle.text_cut.proofs.Sizes.{size_append}
use Rattle.text_cut.proofs.Whole.{no_state}

-- so many letters take so many bytes
letters_size : (n : ℕ) → size (replicate n 97) ≡ n
letters_size zero = refl
letters_size (suc n) = omega (arith, letters_size n)

-- a piece of so many bytes
abbrev letters : {X : Type 0} → ℕ → X → List (Spelled X)
letters n v = record { text = replicate n 97; item = v } ∷ []

letters_front : {X : Type 0} (n : ℕ) (v : X) → size (texts (letters n v)) ≡ n
letters_front n v = ap size (append-nil (replicate n 97)) ∙ letters_size n

-- nothing is read where the reader finds nothing
pub many_none : {X : Type 0} (read : Place → Option (X × Place)) (p : Place) (most : ℕ) → read p ≡ None → many_within read most p ≡ ([], p)
many_none read p zero none = refl
many_none read p (suc most) none = ap (λ o. then_many o (λ e. many_within read most e) p) none

-- nothing is read yet
pub many_begins : {X : Type 0} (read : Place → Option (X × Place)) (start : Place) → ManySoFar read start [] start
many_begins read start = record { most = length start.left; enough = omega arith; same = refl }

-- nothing more is read
pub many_ends : {X : Type 0} (read : Place → Option (X × Place)) (start : Place) (values : List X) (here : Place) → read here ≡ None → ManySoFar read start values here → many_at read start ≡ (values, here)
many_ends read start values here none so_far =
    so_far.same ∙ (ap (λ (r : List _ × Place). (values ++ r.0, r.1)) (many_none read here so_far.most none) ∙ ap (λ l. (l, here)) (append-nil values))

module _ {X : Type 0} (rule : List (Spelled X) → List ℕ → X → List ℕ → Type 0) (ignores : IgnoresFront rule) (read : Place → Option (X × Place)) (reads : ReadsPieces rule no_state (λ state. read)) where
  -- a piece is found wherever it stands
  pub piece_found : (front : List (Spelled X)) (text : List ℕ) (v : X) (rest : List ℕ) (at : ℕ) → rule front text v rest → read (place at (text ++ rest)) ≡ Some (v, place (at + size text) rest)
  piece_found front text v rest at is =
      subst (λ n. read (place n (text ++ rest)) ≡ Some (v, place (n + size text) rest)) (letters_front at v)
      (reads.found (letters at v) text v rest (ignores.same front (letters at v) text v rest is))

  -- where a piece is found, it stands
  pub piece_is : (front : List (Spelled X)) (p : Place) (r : X × Place) → read p ≡ Some r → Spells (λ at. rule front) p r
  piece_is front p r found =
      let other = letters p.at r.0 in
      let same : place (size (texts other)) p.left ≡ p = ap (λ n. place n p.left) (letters_front p.at r.0) in
      let is : Spells (λ at. rule other) p r = subst (λ q. Spells (λ at. rule other) q r) same (reads.is other p.left r (ap read same ∙ found)) in
      record { text = is.text; took = is.took; rule = ignores.same other front is.text r.0 r.1.left is.rule }

  -- less is left behind a piece
  pub piece_shorter : (p : Place) (r : X × Place) → read p ≡ Some r → length r.1.left < length p.left
  piece_shorter p r found =
      let is : Spells (λ at. rule []) p r = piece_is [] p r found in
      omega (arith, ap length is.took.there, length-append is.text r.1.left, reads.some [] is.text r.0 r.1.left is.rule)

  -- pieces are found, where there may be as many
  found_within : (most : ℕ) (front ss : List (Spelled X)) (rest : List ℕ) (at : ℕ) → AreSpelled rule front ss rest → ((n : ℕ) → read (place n rest) ≡ None) → length (texts ss) ≤ most → many_within read most (place at (texts ss ++ rest)) ≡ (items ss, place (at + size (texts ss)) rest)
  found_within most front [] rest at are none enough = many_none read (place at rest) most (none at) ∙ ap (λ n. ([], place n rest)) (number at)
    where
      number : (n : ℕ) → n ≡ n + 0
      number n = omega arith
  found_within zero front (s ∷ ss) rest at are none enough =
      absurd (omega (arith, reads.some front s.text s.item (texts ss ++ rest) are.0, length-append s.text (texts ss)))
  found_within (suc most) front (s ∷ ss) rest at are none enough =
      ap (λ l. many_within read (suc most) (place at l)) (append_assoc s.text (texts ss) rest)
      ∙ (ap (λ o. then_many o (λ e. many_within read most e) (place at (s.text ++ (texts ss ++ rest)))) (piece_found front s.text s.item (texts ss ++ rest) at are.0)
      ∙ (ap (λ (r : List X × Place). (s.item ∷ r.0, r.1)) (found_within most (front ++ s ∷ []) ss rest (at + size s.text) are.1 none
      (omega (arith, reads.some front s.text s.item (texts ss ++ rest) are.0, length-append s.text (texts ss))))
      ∙ ap (λ n. (s.item ∷ items ss, place n rest)) (omega (arith, size_append s.text (texts ss)))))

  -- pieces are found in front of a text where the reader finds none
  pub many_found : (ss : List (Spelled X)) (rest : List ℕ) (at : ℕ) → AreSpelled rule [] ss rest → ((n : ℕ) → read (place n rest) ≡ None) → many_at read (place at (texts ss ++ rest)) ≡ (items ss, place (at + size (texts ss)) rest)
  many_found ss rest at are none = found_within (length (texts ss ++ rest)) [] ss rest at are none (omega (arith, length-append (texts ss) rest))

  -- pieces stand behind others as well
  behind_others : (front other ss : List (Spelled X)) (rest : List ℕ) → AreSpelled rule front ss rest → AreSpelled rule other ss rest
  behind_others front other [] rest are = tt
  behind_others front other (s ∷ ss) rest are =
      (ignores.same front other s.text s.item (texts ss ++ rest) are.0, behind_others (front ++ s ∷ []) (other ++ s ∷ []) ss rest are.1)

  no_pieces : (here : Place) → ManyAre rule here ([], here)
  no_pieces here = record { spelled = []; took = took_none here; are = tt; values = refl }

  one_piece : (here : Place) (first : X × Place) (r : List X × Place) → Spells (λ at. rule []) here first → ManyAre rule first.1 r → ManyAre rule here (first.0 ∷ r.0, r.1)
  one_piece here first r is more =
      let s : Spelled X = record { text = is.text; item = first.0 } in
      record {
        spelled = s ∷ more.spelled;
        took = took_both here first.1 r.1 is.text (texts more.spelled) is.took more.took;
        are = (subst (λ l. rule [] is.text first.0 l) more.took.there is.rule, behind_others [] (s ∷ []) more.spelled r.1.left more.are);
        values = ap (λ l. first.0 ∷ l) more.values;
      }

  are_by : (here : Place) (o : Option (X × Place)) (more : Place → List X × Place) → read here ≡ o → ((e : Place) → ManyAre rule e (more e)) → ManyAre rule here (then_many o more here)
  are_by here None more found are = no_pieces here
  are_by here (Some first) more found are = one_piece here first (more first.1) (piece_is [] here first found) (are first.1)

  are_within : (most : ℕ) (here : Place) → ManyAre rule here (many_within read most here)
  are_within zero here = no_pieces here
  are_within (suc most) here = are_by here (read here) (λ e. many_within read most e) refl (λ e. are_within most e)

  -- the pieces that are read stand there
  pub many_are : (here : Place) → ManyAre rule here (many_at read here)
  many_are here = are_within (length here.left) here

  -- where nothing is left, no piece stands
  none_left : (p : Place) (o : Option (X × Place)) → read p ≡ o → length p.left ≤ 0 → read p ≡ None
  none_left p None found short = found
  none_left p (Some r) found short = absurd (omega (arith, short, piece_shorter p r found))

  stops_by : (most : ℕ) (here : Place) (o : Option (X × Place)) → read here ≡ o → length here.left ≤ suc most → ((e : Place) → length e.left ≤ most → read (many_within read most e).1 ≡ None) → read (then_many o (λ e. many_within read most e) here).1 ≡ None
  stops_by most here None found enough go = found
  stops_by most here (Some r) found enough go = go r.1 (omega (arith, enough, piece_shorter here r found))

  stops_within : (most : ℕ) (here : Place) → length here.left ≤ most → read (many_within read most here).1 ≡ None
  stops_within zero here enough = none_left here (read here) refl enough
  stops_within (suc most) here enough = stops_by most here (read here) refl enough (λ e short. stops_within most e short)

  -- no piece stands behind all that are read
  pub many_stops : (here : Place) → read (many_at read here).1 ≡ None
  many_stops here = stops_within (length here.left) here (omega arith)

  -- one more piece is read
  pub many_more : (start : Place) (values : List X) (here : Place) (v : X) (e : Place) → read here ≡ Some (v, e) → ManySoFar read start values here → ManySoFar read start (values ++ v ∷ []) e
  many_more start values here v e found so_far = by_most so_far.most so_far.enough so_far.same
    where
      by_most : (most : ℕ) → length here.left ≤ most → many_at read start ≡ (values ++ (many_within read most here).0, (many_within read most here).1) → ManySoFar read start (values ++ v ∷ []) e
      by_most zero enough same = absurd (omega (arith, enough, piece_shorter here (v, e) found))
      by_most (suc most) enough same = record {
        most = most;
        enough = omega (arith, enough, piece_shorter here (v, e) found);
        same = same ∙ (ap (λ (o : Option (X × Place)). (values ++ (then_many o (λ d. many_within read most d) here).0, (then_many o (λ d. many_within read most d) here).1)) found
            ∙ ap (λ l. (l, (many_within read most e).1)) (sym (append_assoc values (v ∷ []) (many_within read most e).0)));
      }

  -- one text with one rest is pieces in one way at most
  pub same_many : (front ss others : List (Spelled X)) (rest : List ℕ) → AreSpelled rule front ss rest → AreSpelled rule front others rest → texts ss ≡ texts others → ss ≡ others
  same_many front [] [] rest are others_are e = refl
  same_many front [] (t ∷ ts) rest are others_are e = absurd (omega (arith, ap length e, length-append t.text (texts ts), reads.some front t.text t.item (texts ts ++ rest) others_are.0))
  same_many front (s ∷ ss) [] rest are others_are e = absurd (omega (arith, ap length e, length-append s.text (texts ss), reads.some front s.text s.item (texts ss ++ rest) are.0))
  same_many front (s ∷ ss) (t ∷ ts) rest are others_are e =
      let there : s.text ++ (texts ss ++ rest) ≡ t.text ++ (texts ts ++ rest) = sym (append_assoc s.text (texts ss) rest) ∙ (ap (λ l. l ++ rest) e ∙ append_assoc t.text (texts ts) rest) in
      let same : Some (s.item, place (0 + size s.text) (texts ss ++ rest)) ≡ Some (t.item, place (0 + size t.text) (texts ts ++ rest)) =
      sym (piece_found front s.text s.item (texts ss ++ rest) 0 are.0) ∙ (ap (λ l. read (place 0 l)) there ∙ piece_found front t.text t.item (texts ts ++ rest) 0 others_are.0) in
      let more : texts ss ≡ texts ts = append_cancel_right (texts ss) (texts ts) rest (ap (λ (r : X × Place). r.1.left) (same_Some _ _ same)) in
      let text : s.text ≡ t.text = append_cancel_right s.text t.text (texts ts) (ap (λ l. s.text ++ l) (sym more) ∙ e) in
      let item : s.item ≡ t.item = ap (λ (r : X × Place). r.0) (same_Some _ _ same) in
      let one : s ≡ t = λ i. record { text = text i; item = item i } in
      let rest_same : ss ≡ ts = same_many (front ++ s ∷ []) ss ts rest are.1 (subst (λ x. AreSpelled rule (front ++ x ∷ []) ts rest) (sym one) others_are.1) more in
      λ i. one i ∷ rest_same i
