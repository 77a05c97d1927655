-- The longest run: it passes, it is followed by what does not, and it is the only one.
use Rattle.std.proofs.Common.{◌≡◌, ℕ, Bool, true, false, cond, List, [], ◌∷◌, ◌++◌, refl, ap}
use Rattle.text_cut.specs.Runs.{front, behind, IsLongest}

-- the text is its run and what follows
pub front_behind : (p : ℕ → Bool) (cs : List ℕ) → cs ≡ front p cs ++ behind p cs
front_behind p [] = refl
front_behind p (c ∷ cs) = elim (p c) as (λ b. c ∷ cs ≡ cond b (c ∷ front p cs) [] ++ cond b (behind p cs) (c ∷ cs)) [ true ↦ ap (λ l. c ∷ l) (front_behind p cs) | false ↦ refl ]

longer : (p : ℕ → Bool) (c : ℕ) (text rest : List ℕ) → p c ≡ true → IsLongest p text rest → IsLongest p (c ∷ text) rest
longer p c text rest e l = record { pass = (e, l.pass); stops = l.stops }

none_longer : (p : ℕ → Bool) (c : ℕ) (rest : List ℕ) → p c ≡ false → IsLongest p [] (c ∷ rest)
none_longer p c rest e = record { pass = tt; stops = e }

one_longer : (p : ℕ → Bool) (c : ℕ) (text rest all : List ℕ) (b : Bool) → p c ≡ b → IsLongest p text rest → IsLongest p (cond b (c ∷ text) []) (cond b rest (c ∷ all))
one_longer p c text rest all true e l = longer p c text rest e l
one_longer p c text rest all false e l = none_longer p c all e

-- the run passes, and is the longest
pub front_is : (p : ℕ → Bool) (cs : List ℕ) → IsLongest p (front p cs) (behind p cs)
front_is p [] = record { pass = tt; stops = refl }
front_is p (c ∷ cs) = one_longer p c (front p cs) (behind p cs) cs (p c) refl (front_is p cs)

-- the longest run is the front
pub front_of : (p : ℕ → Bool) (text rest : List ℕ) → IsLongest p text rest → front p (text ++ rest) ≡ text
front_of p [] [] l = refl
front_of p [] (c ∷ rest) l = rw l.stops
front_of p (c ∷ text) rest l = rw l.pass.0 (ap (λ x. c ∷ x) (front_of p text rest (record { pass = l.pass.1; stops = l.stops })))

-- and what follows it is what is behind
pub behind_of : (p : ℕ → Bool) (text rest : List ℕ) → IsLongest p text rest → behind p (text ++ rest) ≡ rest
behind_of p [] [] l = refl
behind_of p [] (c ∷ rest) l = rw l.stops
behind_of p (c ∷ text) rest l = rw l.pass.0 (behind_of p text rest (record { pass = l.pass.1; stops = l.stops }))
