-- What a loop keeps that reads characters and escapes, and the bytes that they stand for.
use Rattle.std.proofs.Common.{◌≡◌, ℕ, ◌<◌, List, [], ◌∷◌, ◌++◌, length, Option, Some, None, refl, ap, ◌∙◌, sym, append-nil}
use Rattle.std.specs.Str.{encode_utf8_all}
use Rattle.std.proofs.Math.Utf8.{encode}
use Rattle.std.proofs.lemmas.Str.{encodes-append}
use Rattle.text_cut.specs.Place.{Place}
use Rattle.text_cut.specs.Reading.{SoFar, FaultAt}
use Rattle.text_cut.proofs.Pieces.{no_fault}
use Rattle.text_cut.proofs.SoFar.{so_far_more, so_far_stops}
use Rattle.text_cut.proofs.Whole.{no_state}
use Rattle.syn_trees.specs.Escape.{unit_rule, meant_of, HasUnits}
use Rattle.syn_trees.specs.ReadString.{unit_at}
use Rattle.syn_trees.proofs.Units.{units_read}

-- these units were read of a text, up to this place, and these are the bytes of what they stand for
pub record UnitsSoFar (inside bytes : List ℕ) (here : Place) : Type 0 where
  pub units : List (Option ℕ)
  pub so_far : SoFar unit_rule no_state inside units tt here
  pub bytes_are : bytes ≡ encode_utf8_all (meant_of units)

-- what one more unit stands for
meant_of-nothing : (units : List (Option ℕ)) → meant_of (units ++ None ∷ []) ≡ meant_of units
meant_of-nothing [] = refl
meant_of-nothing (None ∷ units) = meant_of-nothing units
meant_of-nothing (Some c ∷ units) = ap (λ l. c ∷ l) (meant_of-nothing units)

meant_of-character : (units : List (Option ℕ)) (c : ℕ) → meant_of (units ++ Some c ∷ []) ≡ meant_of units ++ c ∷ []
meant_of-character [] c = refl
meant_of-character (None ∷ units) c = meant_of-character units c
meant_of-character (Some d ∷ units) c = ap (λ l. d ∷ l) (meant_of-character units c)

unit_more : (inside : List ℕ) (units : List (Option ℕ)) (here end : Place) (meant : Option ℕ) → Some (meant, end) ≡ unit_at here → SoFar unit_rule no_state inside units tt here → SoFar unit_rule no_state inside (units ++ meant ∷ []) tt end
unit_more inside units here end meant found so_far =
    so_far_more unit_rule no_state (λ state. unit_at) (λ state v. tt) units_read (record { more = λ front s. refl }) inside units tt here meant end so_far (sym found)

-- the bytes of one more character
bytes-more : (cs : List ℕ) (c : ℕ) → encode_utf8_all (cs ++ c ∷ []) ≡ encode_utf8_all cs ++ encode c
bytes-more cs c = encodes-append cs (c ∷ []) ∙ ap (λ l. encode_utf8_all cs ++ l) (append-nil (encode c))

-- a unit that stands for nothing is read
pub units-nothing : (inside bytes : List ℕ) (here end : Place) (meant : Option ℕ) → Some (meant, end) ≡ unit_at here → meant ≡ None → UnitsSoFar inside bytes here → UnitsSoFar inside bytes end
units-nothing inside bytes here end meant found stands is = record {
  units = is.units ++ meant ∷ [];
  so_far = unit_more inside is.units here end meant found is.so_far;
  bytes_are = is.bytes_are ∙ ap (λ l. encode_utf8_all l) (sym (ap (λ m. meant_of (is.units ++ m ∷ [])) stands ∙ meant_of-nothing is.units));
}

-- a unit that stands for a character is read, and the bytes of the character are put behind the others
pub units-character : (inside bytes more : List ℕ) (here end : Place) (meant : Option ℕ) (c : ℕ) → Some (meant, end) ≡ unit_at here → meant ≡ Some c → more ≡ bytes ++ encode c → UnitsSoFar inside bytes here → UnitsSoFar inside more end
units-character inside bytes more here end meant c found stands pushed is = record {
  units = is.units ++ meant ∷ [];
  so_far = unit_more inside is.units here end meant found is.so_far;
  bytes_are = pushed ∙ (ap (λ l. l ++ encode c) is.bytes_are ∙ (sym (bytes-more (meant_of is.units) c)
      ∙ ap (λ l. encode_utf8_all l) (sym (ap (λ m. meant_of (is.units ++ m ∷ [])) stands ∙ meant_of-character is.units c))));
}

-- no unit stands here, and something is left: no units spell the text
pub units_stop : (inside bytes : List ℕ) (here : Place) → unit_at here ≡ None → 0 < length here.left → UnitsSoFar inside bytes here → (units : List (Option ℕ)) → HasUnits inside units → ⊥
units_stop inside bytes here none more is units has =
    let fault : FaultAt unit_rule inside here.at = so_far_stops unit_rule no_state (λ state. unit_at) units_read inside is.units tt here is.so_far (record { none = none; more = more }) in
    no_fault unit_rule inside units here.at has fault
