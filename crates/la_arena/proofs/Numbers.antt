-- The numbers of a range: how many they are, the last of them, and the one at a place.
use Rattle.std.proofs.Common.{◌≡◌, ℕ, ◌+◌, ◌-◌, ◌≤◌, ◌<◌, [], ◌∷◌, ◌++◌, Some, None, ap, ◌∙◌, arith, zero, suc}
use Rattle.std.specs.List.{range_with_len, slice_get}
use Rattle.std.proofs.lemmas.List.FromFn.{length-range_with_len}
use Rattle.std.proofs.lemmas.Option.{slice_get_past}

-- one number more stands behind the others
range_more : (a n j : ℕ) → a + n ≡ j → range_with_len a (suc n) ≡ range_with_len a n ++ j ∷ []
range_more a zero j e = let same : a ≡ j = omega arith in ap (λ k. k ∷ []) same
range_more a (suc n) j e = ap (λ l. a ∷ l) (range_more (a + 1) n j (omega arith))

-- the last number of a range that is not empty stands behind those of the range that ends before it
pub numbers_last : (a b : ℕ) → a < b → range_with_len a (b - a) ≡ range_with_len a (b - 1 - a) ++ (b - 1) ∷ []
numbers_last a b lt =
    let more : b - a ≡ suc (b - 1 - a) = omega arith in
    ap (range_with_len a) more ∙ range_more a (b - 1 - a) (b - 1) (omega arith)

-- the number at a place of a range
pub number_at : (a n i : ℕ) → i < n → slice_get (range_with_len a n) i ≡ Some (a + i)
number_at a zero i lt = absurd (omega arith)
number_at a (suc n) zero lt = let same : a ≡ a + 0 = omega arith in ap Some same
number_at a (suc n) (suc i) lt = let same : a + 1 + i ≡ a + suc i = omega arith in number_at (a + 1) n i (omega arith) ∙ ap Some same

-- no number stands past the end of a range
pub no_number : (a n i : ℕ) → n ≤ i → slice_get (range_with_len a n) i ≡ None
no_number a n i le = slice_get_past (range_with_len a n) i (omega (arith, length-range_with_len a n))

pub ruleset numbers_of = (numbers_last, number_at, no_number, length-range_with_len)
