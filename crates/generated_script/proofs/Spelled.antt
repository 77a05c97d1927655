-- Lines of ASCII that are written token by token are lines of these tokens.
use Rattle.std.proofs.Common.{◌≡◌, ℕ, ◌<◌, Bool, true, false, ◌==◌, ◌&&◌, ◌||◌, not, cond, nat_eq, List, [], ◌∷◌, ◌++◌, refl, ap, ◌∙◌, sym, inl, arith}
use Rattle.std.specs.Char.{is_ascii, is_ascii_lowercase, is_ascii_alphabetic, is_ascii_alphanumeric, is_ascii_digit}
use Rattle.std.specs.Str.{bytes_eq, encode_utf8_all}
use Rattle.std.proofs.lemmas.Bool.{and_parts}
use Rattle.std.proofs.lemmas.Bool.Decides.{nat_tests}
use Rattle.std.proofs.lemmas.Str.{encode_ascii}
use Rattle.unicode_ident.proofs.IdentLemmas.{is_xid_start-ascii, is_xid_continue-ascii}
use Rattle.text_cut.specs.Runs.{starts, AllPass, is_blank}
use Rattle.text_cut.specs.Reading.{Spelled, texts, AreSpelled}
use Rattle.syn_trees.specs.declared.token_tree.Spacing.TheVariants.{Alone, Joint}
use Rattle.syn_trees.specs.StringToken.{Plain, IsInside, is_ordinary}
use Rattle.script_tokens.specs.declared.token.Bracket.{Bracket}
use Rattle.script_tokens.specs.declared.token.Bracket.TheVariants.{Round, Square, Curly}
use Rattle.script_tokens.specs.Words.{begins_word, continues_word, IsWord}
use Rattle.script_tokens.specs.Tokens.{Kind, Word, Numeral, Text, Mark, Tok, AsWord, AsNumeral, AsText, AsMark, Opening, Closing, Spelling, kind_by, opening, closing, is_mark, spacing, str_from, IsTok}
use Rattle.script_tokens.specs.Tokens as tokens
use Rattle.script_tokens.specs.Numbers.{all_digits}
use Rattle.script_tokens.specs.Lines.{IsLine}
use Rattle.generated_script.specs.Made.{quoted}
use Rattle.generated_script.proofs.Written.{Sign, Name, Digits, Quoted, Point, Opens, Closes, Written, signed, space, is_wordy, is_point, next_is, kind, spelled_of, toks_of, line_of, all_pass, are_some, is_plain, is_sound, are_sound}

-- the bytes of characters of ASCII are these characters
pub same_bytes : (cs : List ℕ) → all_pass is_ascii cs ≡ true → encode_utf8_all cs ≡ cs
same_bytes [] e = refl
same_bytes (c ∷ cs) e =
    let both = and_parts (is_ascii c) (all_pass is_ascii cs) e in
    ap (λ l. l ++ encode_utf8_all cs) (encode_ascii c (small c both.0)) ∙ ap (λ l. c ∷ l) (same_bytes cs both.1)
  where
    small : (c : ℕ) → is_ascii c ≡ true → c < 128
    small c e = grind (arith, nat_tests)

-- what passes one test passes a weaker one
pub pass_weaker : (p q : ℕ → Bool) → ((c : ℕ) → p c ≡ true → q c ≡ true) → (cs : List ℕ) → all_pass p cs ≡ true → all_pass q cs ≡ true
pass_weaker p q weaker [] e = refl
pass_weaker p q weaker (c ∷ cs) e =
    let both = and_parts (p c) (all_pass p cs) e in
    rw (weaker c both.0) (pass_weaker p q weaker cs both.1)

not_both : (b : Bool) → b ≡ true → b ≡ false → ⊥
not_both b t f = cc

from_not : (b : Bool) → not b ≡ true → b ≡ false
from_not true e = cc
from_not false e = refl

or_false : (a b : Bool) → a || b ≡ false → (a ≡ false) × (b ≡ false)
or_false true b e = absurd (not_both true refl e)
or_false false b e = (refl, e)

-- small letters are of ASCII, begin words, and are no marks
letter_ascii : (c : ℕ) → is_ascii_lowercase c ≡ true → is_ascii c ≡ true
letter_ascii c e = grind (arith, nat_tests)

letter_no_mark : (c : ℕ) → is_ascii_lowercase c ≡ true → is_mark c ≡ false
letter_no_mark c e = grind (arith, nat_tests)

letter_small : (c : ℕ) → is_ascii_lowercase c ≡ true → c < 128
letter_small c e = grind (arith, nat_tests)

letter_is : (c : ℕ) → is_ascii_lowercase c ≡ true → is_ascii_alphabetic c ≡ true
letter_is c e = grind (arith, nat_tests)

letter_begins : (c : ℕ) → is_ascii_lowercase c ≡ true → begins_word c ≡ true
letter_begins c e = ap (λ b. b || nat_eq c 95) (is_xid_start-ascii c (letter_small c e) ∙ letter_is c e)

letter_goes_on : (c : ℕ) → is_ascii_lowercase c ≡ true → continues_word c ≡ true
letter_goes_on c e = is_xid_continue-ascii c (letter_small c e) ∙ known c e
  where
    known : (c : ℕ) → is_ascii_lowercase c ≡ true → is_ascii_alphanumeric c || (c == 95) ≡ true
    known c e = grind (arith, nat_tests)

-- and so are digits, but that they begin none
digit_ascii : (c : ℕ) → is_ascii_digit c ≡ true → is_ascii c ≡ true
digit_ascii c e = grind (arith, nat_tests)

digit_no_mark : (c : ℕ) → is_ascii_digit c ≡ true → is_mark c ≡ false
digit_no_mark c e = grind (arith, nat_tests)

digit_goes_on : (c : ℕ) → is_ascii_digit c ≡ true → continues_word c ≡ true
digit_goes_on c e = is_xid_continue-ascii c (small c e) ∙ known c e
  where
    small : (c : ℕ) → is_ascii_digit c ≡ true → c < 128
    small c e = grind (arith, nat_tests)

    known : (c : ℕ) → is_ascii_digit c ≡ true → is_ascii_alphanumeric c || (c == 95) ≡ true
    known c e = grind (arith, nat_tests)

-- marks and brackets go on no word
mark_ascii : (c : ℕ) → is_mark c ≡ true → is_ascii c ≡ true
mark_ascii c e = grind (arith, nat_tests)

mark_ends : (c : ℕ) → is_mark c ≡ true → continues_word c ≡ false
mark_ends c e = is_xid_continue-ascii c (small c e) ∙ known c e
  where
    small : (c : ℕ) → is_mark c ≡ true → c < 128
    small c e = grind (arith, nat_tests)

    known : (c : ℕ) → is_mark c ≡ true → is_ascii_alphanumeric c || (c == 95) ≡ false
    known c e = grind (arith, nat_tests)

-- a character that is known goes on no word
ends_word : (c : ℕ) → c < 128 → is_ascii_alphanumeric c || (c == 95) ≡ false → continues_word c ≡ false
ends_word c small e = is_xid_continue-ascii c small ∙ e

opening_ends : (bracket : Bracket) → continues_word (opening bracket) ≡ false
opening_ends Round = ends_word 40 (omega arith) refl
opening_ends Square = ends_word 91 (omega arith) refl
opening_ends Curly = ends_word 123 (omega arith) refl

closing_ends : (bracket : Bracket) → continues_word (closing bracket) ≡ false
closing_ends Round = ends_word 41 (omega arith) refl
closing_ends Square = ends_word 93 (omega arith) refl
closing_ends Curly = ends_word 125 (omega arith) refl

opening_no_mark : (bracket : Bracket) → is_mark (opening bracket) ≡ false
opening_no_mark Round = refl
opening_no_mark Square = refl
opening_no_mark Curly = refl

closing_no_mark : (bracket : Bracket) → is_mark (closing bracket) ≡ false
closing_no_mark Round = refl
closing_no_mark Square = refl
closing_no_mark Curly = refl

-- characters with a line feed behind them
abbrev ended : List Written → List ℕ
ended ws = texts (spelled_of ws) ++ 10 ∷ []

-- what follows goes on no word where the next token does not
sign_ends : (sign : Sign) (goes_on : Bool) (more rest : List ℕ) → is_sound sign goes_on ≡ true → is_wordy sign ≡ false → starts continues_word ((signed sign ++ more) ++ rest) ≡ false
sign_ends (Name word) goes_on more rest e ends = absurd (cc)
sign_ends (Digits digits) goes_on more rest e ends = absurd (cc)
sign_ends (Quoted inside) goes_on more rest e ends = ends_word 34 (omega arith) refl
sign_ends (Point c) goes_on more rest e ends = mark_ends c e
sign_ends (Opens bracket) goes_on more rest e ends = opening_ends bracket
sign_ends (Closes bracket) goes_on more rest e ends = closing_ends bracket

next_ends : (ws : List Written) → are_sound ws ≡ true → next_is is_wordy ws ≡ false → starts continues_word (ended ws) ≡ false
next_ends [] e ends = ends_word 10 (omega arith) refl
next_ends (w ∷ ws) e ends = by_space w.spaced refl
  where
    by_space : (spaced : Bool) → w.spaced ≡ spaced → starts continues_word (((space w.spaced ++ signed w.sign) ++ texts (spelled_of ws)) ++ 10 ∷ []) ≡ false
    by_space true is = ap (λ b. starts continues_word (((space b ++ signed w.sign) ++ texts (spelled_of ws)) ++ 10 ∷ [])) is ∙ ends_word 32 (omega arith) refl
    by_space false is =
        ap (λ b. starts continues_word (((space b ++ signed w.sign) ++ texts (spelled_of ws)) ++ 10 ∷ [])) is
        ∙ sign_ends w.sign (next_is is_wordy ws) (texts (spelled_of ws)) (10 ∷ []) (and_parts (is_sound w.sign (next_is is_wordy ws)) (are_sound ws) e).0 (sym (ap (λ b. cond b false (is_wordy w.sign)) is) ∙ ends)

-- what follows begins with a mark where the next token is one
sign_marks : (sign : Sign) (goes_on : Bool) (more rest : List ℕ) → is_sound sign goes_on ≡ true → starts is_mark ((signed sign ++ more) ++ rest) ≡ is_point sign
sign_marks (Name []) goes_on more rest e = absurd (cc)
sign_marks (Name (c ∷ cs)) goes_on more rest e = letter_no_mark c (and_parts _ _ (and_parts _ _ e).0).0
sign_marks (Digits []) goes_on more rest e = absurd (cc)
sign_marks (Digits (c ∷ cs)) goes_on more rest e = digit_no_mark c (and_parts _ _ (and_parts _ _ e).0).0
sign_marks (Quoted inside) goes_on more rest e = refl
sign_marks (Point c) goes_on more rest e = e
sign_marks (Opens bracket) goes_on more rest e = opening_no_mark bracket
sign_marks (Closes bracket) goes_on more rest e = closing_no_mark bracket

next_marks : (ws : List Written) → are_sound ws ≡ true → starts is_mark (ended ws) ≡ next_is is_point ws
next_marks [] e = refl
next_marks (w ∷ ws) e = by_space w.spaced
  where
    by_space : (spaced : Bool) → starts is_mark (((space spaced ++ signed w.sign) ++ texts (spelled_of ws)) ++ 10 ∷ []) ≡ cond spaced false (is_point w.sign)
    by_space true = refl
    by_space false = sign_marks w.sign (next_is is_wordy ws) (texts (spelled_of ws)) (10 ∷ []) (and_parts (is_sound w.sign (next_is is_wordy ws)) (are_sound ws) e).0

-- a word of small letters is a whole word
word_passes : (cs : List ℕ) → all_pass is_ascii_lowercase cs ≡ true → AllPass continues_word cs
word_passes [] e = tt
word_passes (c ∷ cs) e = let both = and_parts (is_ascii_lowercase c) (all_pass is_ascii_lowercase cs) e in (letter_goes_on c both.0, word_passes cs both.1)

word_is : (word : List ℕ) → are_some word && all_pass is_ascii_lowercase word ≡ true → IsWord word
word_is [] e = absurd (cc)
word_is (c ∷ cs) e = let both = and_parts (is_ascii_lowercase c) (all_pass is_ascii_lowercase cs) e in (letter_begins c both.0, word_passes cs both.1)

digits_pass : (cs : List ℕ) → all_digits cs ≡ true → AllPass continues_word cs
digits_pass [] e = tt
digits_pass (c ∷ cs) e = let both = and_parts (is_ascii_digit c) (all_digits cs) e in (digit_goes_on c both.0, digits_pass cs both.1)

digits_ascii : (cs : List ℕ) → all_digits cs ≡ true → all_pass is_ascii cs ≡ true
digits_ascii [] e = refl
digits_ascii (c ∷ cs) e = let both = and_parts (is_ascii_digit c) (all_digits cs) e in rw (digit_ascii c both.0) (digits_ascii cs both.1)

-- plain characters are of ASCII, and stand between quotes
pub plain_ascii : (c : ℕ) → is_plain c ≡ true → is_ascii c ≡ true
plain_ascii c e = (and_parts (is_ascii c) (is_ordinary c) e).0

plain_inside : (cs : List ℕ) → all_pass is_plain cs ≡ true → IsInside cs
plain_inside [] e = tt
plain_inside (c ∷ []) e = (and_parts (is_ascii c) (is_ordinary c) (and_parts (is_plain c) true e).0).1
plain_inside (c ∷ d ∷ cs) e =
    let both = and_parts (is_plain c) (all_pass is_plain (d ∷ cs)) e in
    inl ((and_parts (is_ascii c) (is_ordinary c) both.0).1, plain_inside (d ∷ cs) both.1)

pub all_both : (p : ℕ → Bool) (xs ys : List ℕ) → all_pass p xs ≡ true → all_pass p ys ≡ true → all_pass p (xs ++ ys) ≡ true
all_both p [] ys e f = f
all_both p (c ∷ xs) ys e f = let both = and_parts (p c) (all_pass p xs) e in rw both.0 (all_both p xs ys both.1 f)

-- the characters of a token are of ASCII
opening_ascii : (bracket : Bracket) → all_pass is_ascii (opening bracket ∷ []) ≡ true
opening_ascii Round = refl
opening_ascii Square = refl
opening_ascii Curly = refl

closing_ascii : (bracket : Bracket) → all_pass is_ascii (closing bracket ∷ []) ≡ true
closing_ascii Round = refl
closing_ascii Square = refl
closing_ascii Curly = refl

sign_ascii : (sign : Sign) (goes_on : Bool) → is_sound sign goes_on ≡ true → all_pass is_ascii (signed sign) ≡ true
sign_ascii (Name word) goes_on e = pass_weaker is_ascii_lowercase is_ascii letter_ascii word (and_parts _ _ (and_parts _ _ e).0).1
sign_ascii (Digits digits) goes_on e = digits_ascii digits (and_parts _ _ (and_parts _ _ e).0).1
sign_ascii (Quoted inside) goes_on e = all_both is_ascii inside (34 ∷ []) (pass_weaker is_plain is_ascii plain_ascii inside e) refl
sign_ascii (Point c) goes_on e = rw (mark_ascii c e) refl
sign_ascii (Opens bracket) goes_on e = opening_ascii bracket
sign_ascii (Closes bracket) goes_on e = closing_ascii bracket

-- how a token is spelled in front of what follows, and what it then is
record SpelledAs (text rest : List ℕ) (kind : Kind) : Type 0 where
  spelling : Spelling text rest
  same : kind ≡ kind_by spelling

digits_spelled : (digits rest : List ℕ) → are_some digits && all_digits digits ≡ true → starts continues_word rest ≡ false → SpelledAs digits rest (Numeral digits)
digits_spelled [] rest e ends = absurd (cc)
digits_spelled (c ∷ cs) rest e ends =
    let both = and_parts (is_ascii_digit c) (all_digits cs) e in
    record {
      spelling = AsNumeral (record { digit = c; more = cs; whole = refl; is_digit = both.0; longest = record { pass = digits_pass cs both.1; stops = ends } });
      same = ap Numeral (sym (same_bytes (c ∷ cs) (digits_ascii (c ∷ cs) e)));
    }

sign_spelled : (sign : Sign) (goes_on joint : Bool) (rest : List ℕ) → is_sound sign goes_on ≡ true → (goes_on ≡ false → starts continues_word rest ≡ false) → starts is_mark rest ≡ joint → SpelledAs (signed sign) rest (kind sign joint)
sign_spelled (Name word) goes_on joint rest e ends marks =
    let both = and_parts (are_some word && all_pass is_ascii_lowercase word) (not (bytes_eq word (114 ∷ []) || goes_on)) e in
    let neither = or_false (bytes_eq word (114 ∷ [])) goes_on (from_not _ both.1) in
    record {
      spelling = AsWord (record { word = word_is word both.0; ends = ends neither.1; no_raw = λ is opens. not_both (bytes_eq word (114 ∷ [])) (ap (λ l. bytes_eq l (114 ∷ [])) is) neither.0 });
      same = ap Word (sym (same_bytes word (sign_ascii (Name word) goes_on e)));
    }
sign_spelled (Digits digits) goes_on joint rest e ends marks =
    let both = and_parts (are_some digits && all_digits digits) (not goes_on) e in
    digits_spelled digits rest both.0 (ends (from_not goes_on both.1))
sign_spelled (Quoted inside) goes_on joint rest e ends marks = record {
  spelling = AsText inside (record { quoting = Plain; quoted = record { whole = refl; are = plain_inside inside e } });
  same = λ i. Text (record { text = sym (same_bytes (quoted inside) (sign_ascii (Quoted inside) goes_on e)) i; inside = sym (same_bytes inside (pass_weaker is_plain is_ascii plain_ascii inside e)) i });
}
sign_spelled (Point c) goes_on joint rest e ends marks = record { spelling = AsMark c refl e; same = ap (λ b. Mark c (cond b Joint Alone)) (sym marks) }
sign_spelled (Opens bracket) goes_on joint rest e ends marks = record { spelling = Opening bracket refl; same = refl }
sign_spelled (Closes bracket) goes_on joint rest e ends marks = record { spelling = Closing bracket refl; same = refl }

space_blank : (spaced : Bool) → AllPass is_blank (space spaced)
space_blank true = (refl, tt)
space_blank false = tt

-- the space in front of a token is the blanks of the specs
space_some : (spaced : Bool) → spaced ≡ tokens.are_some (space spaced)
space_some true = refl
space_some false = refl

are_spelled : (front : List (Spelled Tok)) (ws : List Written) → are_sound ws ≡ true → AreSpelled IsTok front (spelled_of ws) (10 ∷ [])
are_spelled front [] e = tt
are_spelled front (w ∷ ws) e =
    let both = and_parts (is_sound w.sign (next_is is_wordy ws)) (are_sound ws) e in
    let there : SpelledAs (signed w.sign) (ended ws) (kind w.sign (next_is is_point ws)) =
    sign_spelled w.sign (next_is is_wordy ws) (next_is is_point ws) (ended ws) both.0 (λ ends. next_ends ws both.1 ends) (next_marks ws both.1) in (
      record {
        blanks = space w.spaced;
        bare = signed w.sign;
        whole = refl;
        are_blanks = space_blank w.spaced;
        spelling = there.spelling;
        spaced = space_some w.spaced;
        kind = there.same;
      },
      are_spelled (front ++ _ ∷ []) ws both.1,
    )

-- what is written token by token is a line of these tokens
pub line_written : (ws : List Written) → are_sound ws ≡ true → IsLine (line_of ws) (toks_of ws)
line_written ws e = record { spelled = spelled_of ws; after = []; whole = refl; are_blanks = tt; are = are_spelled [] ws e; values = refl }

space_ascii : (spaced : Bool) → all_pass is_ascii (space spaced) ≡ true
space_ascii true = refl
space_ascii false = refl

texts_ascii : (ws : List Written) → are_sound ws ≡ true → all_pass is_ascii (texts (spelled_of ws)) ≡ true
texts_ascii [] e = refl
texts_ascii (w ∷ ws) e =
    let both = and_parts (is_sound w.sign (next_is is_wordy ws)) (are_sound ws) e in
    all_both is_ascii (space w.spaced ++ signed w.sign) (texts (spelled_of ws)) (all_both is_ascii (space w.spaced) (signed w.sign) (space_ascii w.spaced) (sign_ascii w.sign _ both.0)) (texts_ascii ws both.1)

-- and of ASCII
pub line_ascii : (ws : List Written) → are_sound ws ≡ true → all_pass is_ascii (line_of ws) ≡ true
line_ascii ws e = all_both is_ascii (texts (spelled_of ws)) (10 ∷ []) (texts_ascii ws e) refl
