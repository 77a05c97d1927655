-- A text that is read to its end, piece by piece: what the pieces stand for, or nothing.
use Rattle.std.specs.Prelude.{ℕ, zero, suc, List, [], ◌∷◌, length, Option, Some, None, option_map}
use Rattle.text_cut.specs.Place.{Place, place}

-- nothing more where nothing is left, else what is read
abbrev pub unless_ended : {X : Type 0} → List ℕ → Option (List X) → Option (List X)
unless_ended [] more = Some []
unless_ended (c ∷ left) more = more

-- a piece, and what is read behind it
abbrev pub then_more : {X : Type 0} → Option (X × Place) → (Place → Option (List X)) → Option (List X)
then_more None more = None
then_more (Some r) more = option_map (λ values. r.0 ∷ values) (more r.1)

-- what is read from a place on, in so many pieces at most
abbrev pub read_within : {X : Type 0} → (Place → Option (X × Place)) → ℕ → Place → Option (List X)
read_within read zero p = unless_ended p.left None
read_within read (suc most) p = unless_ended p.left (then_more (read p) (λ e. read_within read most e))

-- what is read of a whole text: it has no more pieces than characters
abbrev pub read_whole : {X : Type 0} → (Place → Option (X × Place)) → List ℕ → Option (List X)
read_whole read text = read_within read (length text) (place 0 text)
