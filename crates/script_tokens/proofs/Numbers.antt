-- The number of digits, as `parse` reads it.
use Rattle.std.proofs.Common.{◌≡◌, ℕ, ◌<◌, ◌≤◌, ◌^◌, ◌&&◌, Bool, true, false, cond, nat_le, List, [], ◌∷◌, Some, None, refl, ap, ◌∙◌, sym, subst, arith}
use Rattle.std.specs.Str.Parse.{AllDigits, IsNumeral, digits_value, without_leading_plus}
use Rattle.std.specs.Char.{is_ascii_digit}
use Rattle.std.proofs.lemmas.Bool.{leb-true, and_parts}
use Rattle.std.proofs.lemmas.Bool.Decides.{nat_tests}
use Rattle.std.proofs.lemmas.Str.{digit_value_digit}
use Rattle.std.proofs.lemmas.Str.Parse.{without_leading_plus_none}
use Rattle.script_tokens.specs.Numbers.{all_digits, number_of}

from_zero : (c : ℕ) → is_ascii_digit c ≡ true → 48 ≤ c
from_zero c e = grind (arith, nat_tests)

to_nine : (c : ℕ) → is_ascii_digit c ≡ true → c ≤ 57
to_nine c e = grind (arith, nat_tests)

digits_are : (bytes : List ℕ) → all_digits bytes ≡ true → AllDigits 10 bytes
digits_are [] e = tt
digits_are (c ∷ bytes) e =
    let both = and_parts (is_ascii_digit c) (all_digits bytes) e in
    (omega (arith, digit_value_digit c (from_zero c both.0, to_nine c both.0), to_nine c both.0), digits_are bytes both.1)

-- digits begin with no plus
no_plus : (bytes : List ℕ) → all_digits bytes ≡ true → without_leading_plus bytes ≡ bytes
no_plus [] e = refl
no_plus (c ∷ bytes) e = without_leading_plus_none (c ∷ bytes) (λ plus. omega (arith, from_zero c (and_parts (is_ascii_digit c) (all_digits bytes) e).0, plus))

-- `parse` gives this number of 32 bits for these bytes
abbrev Parses : List ℕ → Type 0
Parses bytes = IsNumeral 10 bytes × (digits_value 10 bytes < 2 ^ 32)

small_is : (n : ℕ) → n < 2 ^ 32 → nat_le n 4294967295 ≡ true
small_is n small = grind (arith, nat_tests)

parsed : (bytes : List ℕ) → all_digits bytes ≡ true → Parses bytes → number_of bytes ≡ Some (digits_value 10 bytes)
parsed [] digits p = absurd (omega (arith, p.0.0))
parsed (b ∷ bytes) digits p =
    let value = digits_value 10 (b ∷ bytes) in
    ap (λ t. cond (t && nat_le value 4294967295) (Some value) None) digits ∙ ap (λ t. cond t (Some value) None) (small_is value p.1)

not_parsed : (bytes : List ℕ) → all_digits bytes ≡ true → (Parses bytes → ⊥) → number_of bytes ≡ None
not_parsed [] digits never = refl
not_parsed (b ∷ bytes) digits never = ap (λ t. cond (t && nat_le value 4294967295) (Some value) None) digits ∙ by_test (nat_le value 4294967295) refl
  where
    value : ℕ
    value = digits_value 10 (b ∷ bytes)

    by_test : (t : Bool) → nat_le value 4294967295 ≡ t → cond (nat_le value 4294967295) (Some value) None ≡ None
    by_test false e = ap (λ t. cond t (Some value) None) e
    by_test true e = absurd (never ((omega arith, digits_are (b ∷ bytes) digits), omega (arith, leb-true value 4294967295 e)))

-- a number that is parsed is the one that the digits write
pub number_parsed : (bytes : List ℕ) (n : ℕ) → all_digits bytes ≡ true → (IsNumeral 10 (without_leading_plus bytes) × (digits_value 10 (without_leading_plus bytes) < 2 ^ 32)) × (n ≡ digits_value 10 (without_leading_plus bytes)) → Some n ≡ number_of bytes
number_parsed bytes n digits is =
    let same = no_plus bytes digits in
    ap (λ m. Some m) (is.1 ∙ ap (λ l. digits_value 10 l) same) ∙ sym (parsed bytes digits (subst Parses same is.0))

-- where none is parsed, they write none
pub none_parsed : (bytes : List ℕ) → all_digits bytes ≡ true → (IsNumeral 10 (without_leading_plus bytes) × (digits_value 10 (without_leading_plus bytes) < 2 ^ 32) → ⊥) → None ≡ number_of bytes
none_parsed bytes digits never = sym (not_parsed bytes digits (subst (λ l. Parses l → ⊥) (no_plus bytes digits) never))
