-- The number of digits among other characters, of which so many were read.
use Rattle.std.proofs.Common.{◌≡◌, ℕ, zero, suc, ◌+◌, ◌*◌, ◌^◌, ◌≤◌, ◌<◌, Bool, true, false, cond, List, [], ◌∷◌, ◌++◌, length, Some, None, refl, ap, ◌∙◌, sym, subst, append_assoc, append-nil, length-append, nat_le, arith}
use Rattle.std.specs.Str.Parse.{AllDigits, digits_value}
use Rattle.std.specs.Char.{digit_value}
use Rattle.std.proofs.lemmas.Bool.Decides.{nat_tests}
use Rattle.std.proofs.lemmas.Int.Digits.{digits_value_push, digits_value-lt}
use Rattle.std.specs.Str.{IsUtf8, chars}
use Rattle.std.proofs.Math.Utf8.{encode}
use Rattle.std.proofs.lemmas.Str.{chars_past_char, chars-nil}
use Rattle.std.proofs.lemmas.List.Elements.{filter-append}
use Rattle.syn_trees.specs.Escape.{is_hex, digits_of}
use Rattle.syn_trees.specs.ReadString.{hex_number}
use Rattle.syn_trees.proofs.Units.{passes}

-- these characters of a text were read: their digits write this number, and there are so many of them, six at most
pub record DigitsSoFar (text : List ℕ) (number count : ℕ) (read left : List ℕ) : Type 0 where
  pub whole : text ≡ read ++ left
  pub value : number ≡ digits_value 16 (digits_of read)
  pub count_is : count ≡ length (digits_of read)
  pub few : count ≤ 6

digits_of-digit : (read : List ℕ) (c : ℕ) → is_hex c ≡ true → digits_of (read ++ c ∷ []) ≡ digits_of read ++ c ∷ []
digits_of-digit read c is = filter-append is_hex read (c ∷ []) ∙ ap (λ b. digits_of read ++ cond b (c ∷ []) []) is

digits_of-other : (read : List ℕ) (c : ℕ) → is_hex c ≡ false → digits_of (read ++ c ∷ []) ≡ digits_of read
digits_of-other read c is = filter-append is_hex read (c ∷ []) ∙ (ap (λ b. digits_of read ++ cond b (c ∷ []) []) is ∙ append-nil (digits_of read))

all_digits : (text : List ℕ) → AllDigits 16 (digits_of text)
all_digits [] = tt
all_digits (c ∷ text) = by_test (is_hex c) refl (all_digits text)
  where
    below : is_hex c ≡ true → digit_value c < 16
    below is = grind (arith, nat_tests)

    by_test : (b : Bool) → is_hex c ≡ b → AllDigits 16 (digits_of text) → AllDigits 16 (cond b (c ∷ digits_of text) (digits_of text))
    by_test true is others = (below is, others)
    by_test false is others = others

-- no character is read yet
pub digits_begin : (text : List ℕ) → DigitsSoFar text 0 0 [] text
digits_begin text = record { whole = refl; value = refl; count_is = refl; few = omega arith }

-- one more character that is no digit
pub digits-other : (text : List ℕ) (number count : ℕ) (read : List ℕ) (c : ℕ) (left : List ℕ) → is_hex c ≡ false → DigitsSoFar text number count read (c ∷ left) → DigitsSoFar text number count (read ++ c ∷ []) left
digits-other text number count read c left is so_far = record {
  whole = so_far.whole ∙ sym (append_assoc read (c ∷ []) left);
  value = so_far.value ∙ ap (λ l. digits_value 16 l) (sym (digits_of-other read c is));
  count_is = so_far.count_is ∙ ap length (sym (digits_of-other read c is));
  few = so_far.few;
}

-- one more digit
pub digits-digit : (text : List ℕ) (number count : ℕ) (read : List ℕ) (c : ℕ) (left : List ℕ) (digit : ℕ) → digit ≡ digit_value c → is_hex c ≡ true → count < 6 → DigitsSoFar text number count read (c ∷ left) → DigitsSoFar text (number * 16 + digit) (count + 1) (read ++ c ∷ []) left
digits-digit text number count read c left digit same is room so_far = record {
  whole = so_far.whole ∙ sym (append_assoc read (c ∷ []) left);
  value = ap (λ n. number * 16 + n) same ∙ (ap (λ n. n * 16 + digit_value c) so_far.value ∙ (sym (digits_value_push 16 (digits_of read) c) ∙ ap (λ l. digits_value 16 l) (sym (digits_of-digit read c is))));
  count_is = omega (arith, so_far.count_is, ap length (digits_of-digit read c is), length-append (digits_of read) (c ∷ []));
  few = omega (arith, room);
}

below_power : (n : ℕ) → n < 6 → 16 ^ n ≤ 1048576
below_power zero small = omega arith
below_power (suc zero) small = omega arith
below_power (suc (suc zero)) small = omega arith
below_power (suc (suc (suc zero))) small = omega arith
below_power (suc (suc (suc (suc zero)))) small = omega arith
below_power (suc (suc (suc (suc (suc zero))))) small = omega arith
below_power (suc (suc (suc (suc (suc (suc n)))))) small = absurd (omega (arith, small))

-- five digits write a number of twenty bits
pub number_small : (text : List ℕ) (number count : ℕ) (read left : List ℕ) → count < 6 → DigitsSoFar text number count read left → number < 1048576
number_small text number count read left room so_far =
    omega (arith, so_far.value, digits_value-lt 16 (digits_of read) (all_digits read), below_power (length (digits_of read)) (omega (arith, room, so_far.count_is)))

-- all characters are read
pub digits_end : (text : List ℕ) (number count : ℕ) (read : List ℕ) → DigitsSoFar text number count read [] → Some number ≡ hex_number (digits_of text)
digits_end text number count read so_far =
    let same : text ≡ read = so_far.whole ∙ append-nil read in
    subst (λ l. Some number ≡ hex_number (digits_of l)) (sym same)
    (sym (ap (λ b. cond b (Some (digits_value 16 (digits_of read))) None) (passes (length (digits_of read)) 6 (omega (arith, so_far.few, so_far.count_is))) ∙ ap (λ n. Some n) (sym so_far.value)))

-- a seventh digit is too many
pub digits_stop : (text : List ℕ) (number count : ℕ) (read : List ℕ) (c : ℕ) (left : List ℕ) → is_hex c ≡ true → count ≡ 6 → DigitsSoFar text number count read (c ∷ left) → None ≡ hex_number (digits_of text)
digits_stop text number count read c left is full so_far =
    sym (ap (λ b. cond b (Some (digits_value 16 (digits_of text))) None) (fails (length (digits_of text)) 6 many))
  where
    all : digits_of text ≡ digits_of read ++ c ∷ digits_of left
    all = ap (λ l. digits_of l) so_far.whole ∙ (filter-append is_hex read (c ∷ left) ∙ ap (λ b. digits_of read ++ cond b (c ∷ digits_of left) (digits_of left)) is)

    many : 6 < length (digits_of text)
    many = omega (arith, full, so_far.count_is, ap length all, length-append (digits_of read) (c ∷ digits_of left))

    fails : (n most : ℕ) → most < n → nat_le n most ≡ false
    fails n most large = grind (arith, nat_tests)

-- whether a character is a digit, by its value
pub hex_is : (c : ℕ) → digit_value c < 16 → is_hex c ≡ true
hex_is c below = grind (arith, nat_tests)

pub hex_is_not : (c : ℕ) → (digit_value c < 16 → ⊥) → is_hex c ≡ false
hex_is_not c above = grind (arith, nat_tests)

-- the characters of bytes behind the first
pub digits_step : (text : List ℕ) (number count : ℕ) (read bs rest : List ℕ) (c : ℕ) → IsUtf8 bs → bs ≡ encode c ++ rest → DigitsSoFar text number count read (chars bs) → DigitsSoFar text number count read (c ∷ chars rest)
digits_step text number count read bs rest c utf8 same so_far = subst (λ l. DigitsSoFar text number count read l) (chars_past_char bs rest c utf8 same) so_far

-- no bytes are left
pub digits_ended : (text : List ℕ) (number count : ℕ) (read bs : List ℕ) → length bs ≡ 0 → DigitsSoFar text number count read (chars bs) → Some number ≡ hex_number (digits_of text)
digits_ended text number count read [] none so_far = digits_end text number count read (subst (λ l. DigitsSoFar text number count read l) chars-nil so_far)
digits_ended text number count read (b ∷ bs) none so_far = absurd (omega (arith, none))
