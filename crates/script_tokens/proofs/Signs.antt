-- Digits, marks and brackets begin no word and no string.
use Rattle.std.proofs.Common.{◌≡◌, ℕ, ◌<◌, true, false, ◌||◌, ◌==◌, None, nat_eq, refl, ap, ◌∙◌, arith}
use Rattle.std.specs.Char.{is_ascii_alphabetic, is_ascii_alphanumeric, is_ascii_digit}
use Rattle.std.proofs.lemmas.Bool.Decides.{nat_tests}
use Rattle.unicode_ident.proofs.IdentLemmas.{is_xid_start-ascii, is_xid_continue-ascii}
use Rattle.text_cut.specs.Runs.{is_blank}
use Rattle.script_tokens.specs.Words.{begins_word, continues_word}
use Rattle.script_tokens.specs.declared.token.Bracket.{Bracket}
use Rattle.script_tokens.specs.declared.token.Bracket.TheVariants.{Round, Square, Curly}
use Rattle.script_tokens.specs.Tokens.{opening, closing, is_mark}
use Rattle.script_tokens.specs.ReadTokens.{bracket_of}

-- a character of ASCII that begins no word and no string, and is no blank
pub record IsApart (c : ℕ) : Type 0 where
  pub small : c < 128
  pub letter : is_ascii_alphabetic c ≡ false
  pub underscore : (c == 95) ≡ false
  pub quote : (c == 34) ≡ false
  pub blank : is_blank c ≡ false

pub apart_begins_no_word : (c : ℕ) → IsApart c → begins_word c ≡ false
apart_begins_no_word c is = ap (λ b. b || nat_eq c 95) (is_xid_start-ascii c is.small ∙ is.letter) ∙ is.underscore

pub apart_is_no_r : (c : ℕ) → IsApart c → c ≡ 114 → ⊥
apart_is_no_r c is e = no_letter c e is.letter
  where
    no_letter : (c : ℕ) → c ≡ 114 → is_ascii_alphabetic c ≡ false → ⊥
    no_letter c e f = grind (arith, nat_tests)

pub apart_is_no_quote : (c : ℕ) → IsApart c → c ≡ 34 → ⊥
apart_is_no_quote c is e = no_quote c e is.quote
  where
    no_quote : (c : ℕ) → c ≡ 34 → (c == 34) ≡ false → ⊥
    no_quote c e f = grind (arith, nat_tests)

-- digits are apart, and go on words
pub digit_apart : (c : ℕ) → is_ascii_digit c ≡ true → IsApart c
digit_apart c e = record { small = grind (arith, nat_tests); letter = grind (arith, nat_tests); underscore = grind (arith, nat_tests); quote = grind (arith, nat_tests); blank = grind (arith, nat_tests) }

pub digit_continues : (c : ℕ) → is_ascii_digit c ≡ true → continues_word c ≡ true
digit_continues c e = is_xid_continue-ascii c (digit_apart c e).small ∙ letter c e
  where
    letter : (c : ℕ) → is_ascii_digit c ≡ true → is_ascii_alphanumeric c || (c == 95) ≡ true
    letter c e = grind (arith, nat_tests)

-- marks are apart, and are no digits and no brackets
pub mark_apart : (c : ℕ) → is_mark c ≡ true → IsApart c
mark_apart c e = record { small = grind (arith, nat_tests); letter = grind (arith, nat_tests); underscore = grind (arith, nat_tests); quote = grind (arith, nat_tests); blank = grind (arith, nat_tests) }

pub mark_no_digit : (c : ℕ) → is_mark c ≡ true → is_ascii_digit c ≡ false
mark_no_digit c e = grind (arith, nat_tests)

pub mark_no_bracket : (c : ℕ) → is_mark c ≡ true → bracket_of c ≡ None
mark_no_bracket c e =
    let round : (c == 40) ≡ false = grind (arith, nat_tests) in
    let round_end : (c == 41) ≡ false = grind (arith, nat_tests) in
    let square : (c == 91) ≡ false = grind (arith, nat_tests) in
    let square_end : (c == 93) ≡ false = grind (arith, nat_tests) in
    let curly : (c == 123) ≡ false = grind (arith, nat_tests) in
    let curly_end : (c == 125) ≡ false = grind (arith, nat_tests) in
    rw (round, round_end, square, square_end, curly, curly_end) refl

-- brackets are apart
pub opening_apart : (k : Bracket) → IsApart (opening k)
opening_apart Round = record { small = omega arith; letter = refl; underscore = refl; quote = refl; blank = refl }
opening_apart Square = record { small = omega arith; letter = refl; underscore = refl; quote = refl; blank = refl }
opening_apart Curly = record { small = omega arith; letter = refl; underscore = refl; quote = refl; blank = refl }

pub closing_apart : (k : Bracket) → IsApart (closing k)
closing_apart Round = record { small = omega arith; letter = refl; underscore = refl; quote = refl; blank = refl }
closing_apart Square = record { small = omega arith; letter = refl; underscore = refl; quote = refl; blank = refl }
closing_apart Curly = record { small = omega arith; letter = refl; underscore = refl; quote = refl; blank = refl }

-- the characters that begin a raw string behind its `r` go on no word
pub hash_ends : continues_word 35 ≡ false
hash_ends = is_xid_continue-ascii 35 (omega arith)

pub quote_ends : continues_word 34 ≡ false
quote_ends = is_xid_continue-ascii 34 (omega arith)

-- a quote begins no word
pub quote_begins_no_word : begins_word 34 ≡ false
quote_begins_no_word = ap (λ b. b || nat_eq 34 95) (is_xid_start-ascii 34 (omega arith))

-- a line feed begins no word
pub line_feed_begins_no_word : begins_word 10 ≡ false
line_feed_begins_no_word = ap (λ b. b || nat_eq 10 95) (is_xid_start-ascii 10 (omega arith))
