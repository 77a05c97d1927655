-- The decimal digits of a number are digits, and are read as the number.
use Rattle.std.proofs.Common.{◌≡◌, ℕ, ◌<◌, ◌≤◌, ◌^◌, true, ◌&&◌, cond, nat_le, List, [], ◌∷◌, length, Some, None, decimal, refl, ap, ◌∙◌, arith}
use Rattle.std.specs.Char.{is_ascii_digit}
use Rattle.std.specs.Int.{IsInRange}
use Rattle.std.specs.Str.Parse.{digits_value}
use Rattle.std.proofs.lemmas.Bool.{and_parts}
use Rattle.std.proofs.lemmas.Bool.Decides.{nat_tests}
use Rattle.std.proofs.lemmas.Fmt.{decimal_is_IsNumeral, digits_decimal, decimal_nonempty}
use Rattle.std.proofs.lemmas.Str.Parse.{IsDigitsTest, numerals_by_value}
use Rattle.script_tokens.specs.Numbers.{all_digits, number_of}
use Rattle.generated_script.proofs.Written.{are_some}

-- the test of digits is one
digit_in_range : (c : ℕ) → is_ascii_digit c ≡ true → IsInRange 48 57 c
digit_in_range c e = (grind (arith, nat_tests), grind (arith, nat_tests))

digit_by_range : (c : ℕ) → IsInRange 48 57 c → is_ascii_digit c ≡ true
digit_by_range c in_range = known c in_range.0 in_range.1
  where
    known : (c : ℕ) → 48 ≤ c → c ≤ 57 → is_ascii_digit c ≡ true
    known c low high = grind (arith, nat_tests)

tells_digits : IsDigitsTest (λ ds. all_digits ds ≡ true)
tells_digits = record {
  empty = refl;
  parts = λ c cs e. let both = and_parts (is_ascii_digit c) (all_digits cs) e in (digit_in_range c both.0, both.1);
  more = λ c cs in_range e. rw (digit_by_range c in_range) e;
}

some_are : (cs : List ℕ) → 0 < length cs → are_some cs ≡ true
some_are [] some = absurd (omega (arith, some))
some_are (c ∷ cs) some = refl

-- the decimal digits of a number are some digits
pub decimal_digits : (n : ℕ) → n < 2 ^ 32 → are_some (decimal n) && all_digits (decimal n) ≡ true
decimal_digits n small =
    rw (some_are (decimal n) (decimal_nonempty n (omega (arith, small))))
    (digits_decimal (numerals_by_value (λ ds. all_digits ds ≡ true) tells_digits) n (omega (arith, small)))

small_is : (n : ℕ) → n < 2 ^ 32 → nat_le n 4294967295 ≡ true
small_is n small = grind (arith, nat_tests)

number_is : (digits : List ℕ) (n : ℕ) → are_some digits && all_digits digits ≡ true → digits_value 10 digits ≡ n → n < 2 ^ 32 → number_of digits ≡ Some n
number_is [] n e same small = absurd (cc)
number_is (d ∷ digits) n e same small =
    ap (λ t. cond (t && nat_le (digits_value 10 (d ∷ digits)) 4294967295) (Some (digits_value 10 (d ∷ digits))) None) e
    ∙ (ap (λ m. cond (nat_le m 4294967295) (Some m) None) same ∙ ap (λ t. cond t (Some n) None) (small_is n small))

-- they are read as the number
pub number_decimal : (n : ℕ) → n < 2 ^ 32 → number_of (decimal n) ≡ Some n
number_decimal n small = number_is (decimal n) n (decimal_digits n small) (decimal_is_IsNumeral n (omega (arith, small))).1 small
