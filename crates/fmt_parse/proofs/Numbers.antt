-- Numbers that digits write.
use Rattle.std.proofs.Common.{◌≡◌, ◌≤◌, ◌<◌, ◌*◌, ◌+◌, ◌-◌, ℕ, Bool, true, false, nat_le, List, [], ◌∷◌, Some, None, refl, ap, ◌∙◌, sym, subst, arith}
use Rattle.std.proofs.lemmas.Option.{same_Some}
use Rattle.std.specs.Prelude.{if◌then◌else◌}
use Rattle.std.proofs.lemmas.Bool.{lt-leb, leb-false}
use Rattle.std.specs.Char.{is_ascii_digit}
use Rattle.text_cut.specs.Runs.{starts, front}
use Rattle.text_cut.specs.Place.{Place, first, first_in}
use Rattle.fmt_parse.specs.Tokens.{number_from}
use Rattle.fmt_parse.specs.ReadTokens.{int_at}

-- more digits write no smaller number
number_least : (n : ℕ) (digits : List ℕ) → n ≤ number_from n digits
number_least n [] = omega arith
number_least n (c ∷ digits) = omega (arith, number_least (n * 10 + (c - 48)) digits)

-- one digit more
one_digit : (value c : ℕ) (cs : List ℕ) → is_ascii_digit c ≡ true → number_from value (front is_ascii_digit (c ∷ cs)) ≡ number_from (value * 10 + (c - 48)) (front is_ascii_digit cs)
one_digit value c cs digit = rw digit refl

-- a number that has not 16 bits
refused_small : (n : ℕ) → (if nat_le n 65535 then Some n else None) ≡ None → 65535 < n
refused_small n none = by_test (nat_le n 65535) refl none
  where
    by_test : (b : Bool) → nat_le n 65535 ≡ b → (if b then Some n else None) ≡ None → 65535 < n
    by_test true same none = cc
    by_test false same none = leb-false n 65535 same

int_none : (p : Place) → starts is_ascii_digit p.left ≡ true → nat_le (number_from 0 (front is_ascii_digit p.left)) 65535 ≡ false → int_at p ≡ None
unfolding int_at
int_none p begins large = rw (begins, large) refl

-- the digits so far and one more write a number that is too great, and so do all
pub too_great : (p : Place) (value c : ℕ) (cs : List ℕ) → starts is_ascii_digit p.left ≡ true → number_from value (front is_ascii_digit (c ∷ cs)) ≡ number_from 0 (front is_ascii_digit p.left) → is_ascii_digit c ≡ true → (if nat_le (value * 10 + (c - 48)) 65535 then Some (value * 10 + (c - 48)) else None) ≡ None → int_at p ≡ None
too_great p value c cs begins same digit none =
    let more = value * 10 + (c - 48) in
    let least : more ≤ number_from 0 (front is_ascii_digit p.left) = subst (λ n. more ≤ n) (sym (one_digit value c cs digit) ∙ same) (number_least more (front is_ascii_digit cs)) in
    let great = refused_small more none in
    int_none p begins (lt-leb (number_from 0 (front is_ascii_digit p.left)) 65535 (omega (arith, least, great)))

-- what is left at a place where a character is found
pub first_left : (p e : Place) (c : ℕ) → Some (c, e) ≡ first p → p.left ≡ c ∷ e.left
first_left p e c found = by_left p.at p.left found
  where
    by_left : (at : ℕ) (left : List ℕ) → Some (c, e) ≡ first_in at left → left ≡ c ∷ e.left
    by_left at [] found = cc
    by_left at (d ∷ ds) found = let same = same_Some _ _ found in sym (ap (λ (r : ℕ × Place). r.0 ∷ r.1.left) same)
