-- Numbers by their bits, the lowest first.
use Rattle.std.proofs.Common.{◌≡◌, ℕ, zero, suc, ◌+◌, ◌*◌, ◌/◌, ◌%◌, ◌^◌, ◌<◌, Bool, true, false, List, [], ◌∷◌, nat_eq, refl, sym, ap, ◌∙◌, arith, subst, add-zero, div-one, shr-shr}
use native.Mathlib.Nat.{div-eq_of_lt}
use Rattle.std.proofs.lemmas.Nat.{div-mul-add}
use Rattle.std.proofs.lemmas.Bool.Decides.{nat_tests}
use Rattle.code_meaning.specs.Template.{bit}

-- a bit as a number
abbrev pub one_if : Bool → ℕ
one_if true = 1
one_if false = 0

-- the number with these bits
abbrev pub bits : List Bool → ℕ
bits [] = 0
bits (b ∷ bs) = one_if b + 2 * bits bs

-- the bit at a place; none is set behind the last one
abbrev pub bit_in : List Bool → ℕ → Bool
bit_in [] place = false
bit_in (b ∷ bs) zero = b
bit_in (b ∷ bs) (suc place) = bit_in bs place

-- so many bits of a number, from a place on
abbrev pub bits_from : ℕ → ℕ → ℕ → List Bool
bits_from n place zero = []
bits_from n place (suc k) = bit place n ∷ bits_from n (suc place) k

-- one place up is the same place of half the number
half : (n place : ℕ) → n / 2 ^ suc place ≡ n / 2 / 2 ^ place
half n place = ap (λ k. n / 2 ^ k) (omega arith) ∙ sym (shr-shr n 1 place)

-- one place up is half of what begins at a place
next_half : (n place : ℕ) → n / 2 ^ suc place ≡ n / 2 ^ place / 2
next_half n place = ap (λ k. n / 2 ^ k) (omega arith) ∙ sym (shr-shr n place 1)

-- nothing has no bits
zero_bit : (place : ℕ) → bit place 0 ≡ false
zero_bit zero = refl
zero_bit (suc place) = ap (λ m. nat_eq (m % 2) 1) (half 0 place) ∙ zero_bit place

-- the lowest bit says whether a number is odd
lowest : (b : Bool) (n : ℕ) → nat_eq ((one_if b + 2 * n) % 2) 1 ≡ b
lowest true n = grind (arith, nat_tests)
lowest false n = grind (arith, nat_tests)

-- half of a number leaves out the lowest bit
without_lowest : (b : Bool) (n : ℕ) → (one_if b + 2 * n) / 2 ≡ n
without_lowest true n = omega arith
without_lowest false n = omega arith

-- the bits of a number are those that it is made of
pub bit_at : (bs : List Bool) (place : ℕ) → bit place (bits bs) ≡ bit_in bs place
bit_at [] place = zero_bit place
bit_at (b ∷ bs) zero = ap (λ m. nat_eq (m % 2) 1) (div-one (bits (b ∷ bs))) ∙ lowest b (bits bs)
bit_at (b ∷ bs) (suc place) =
    ap (λ m. nat_eq (m % 2) 1) (half (bits (b ∷ bs)) place)
    ∙ (ap (λ m. bit place m) (without_lowest b (bits bs)) ∙ bit_at bs place)

-- what a remainder says of a bit
one_if_odd : (n : ℕ) → one_if (nat_eq (n % 2) 1) ≡ n % 2
one_if_odd n = grind (arith, nat_tests)

-- the bits of a number from a place on are the number without what stands below it
pub bits_back : (k n place : ℕ) → n < 2 ^ (place + k) → bits (bits_from n place k) ≡ n / 2 ^ place
bits_back zero n place small = sym (div-eq_of_lt (subst (λ k. n < 2 ^ k) (add-zero place) small))
bits_back (suc k) n place small =
    let above : n < 2 ^ (suc place + k) = subst (λ j. n < 2 ^ j) (omega arith) small in
    let more : bits (bits_from n (suc place) k) ≡ n / 2 ^ suc place = bits_back k n (suc place) above in
    omega (arith, one_if_odd (n / 2 ^ place), next_half n place)

-- the bits above a number of k bits
pub bit_above : (k low n place : ℕ) → low < 2 ^ k → bit (k + place) (low + 2 ^ k * n) ≡ bit place n
bit_above k low n place small =
    let high : (low + 2 ^ k * n) / 2 ^ k ≡ n = ap (λ m. m / 2 ^ k) (omega arith) ∙ div-mul-add n (2 ^ k) low small in
    ap (λ m. nat_eq (m % 2) 1) (sym (shr-shr (low + 2 ^ k * n) k place) ∙ ap (λ m. m / 2 ^ place) high)
