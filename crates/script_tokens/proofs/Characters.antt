-- Which characters begin a word, and which go on one.
use Rattle.std.proofs.Common.{◌≡◌, ℕ, ◌<◌, Bool, true, false, ◌||◌, nat_eq, List, [], ◌∷◌, ◌++◌, refl, ap, ◌∙◌, subst, arith}
use Rattle.std.specs.Char.{is_ascii_alphabetic}
use Rattle.std.proofs.lemmas.Bool.Decides.{nat_tests}
use Rattle.unicode_ident.specs.Ident.{is_xid_start}
use Rattle.unicode_ident.proofs.IdentLemmas.{is_xid_start-ascii, is_xid_continue-ascii, is_xid_start-is_xid_continue}
use Rattle.text_cut.specs.Runs.{starts, AllPass, is_blank}
use Rattle.script_tokens.specs.Words.{begins_word, continues_word, IsWord}

-- what is false is not true
not_both : (b : Bool) → b ≡ true → b ≡ false → ⊥
not_both b t f = cc

blank_small : (c : ℕ) → is_blank c ≡ true → c < 128
blank_small c e = grind (arith, nat_tests)

-- a blank begins no word
blank_begins_no_word : (c : ℕ) → is_blank c ≡ true → begins_word c ≡ false
blank_begins_no_word c e = ap (λ b. b || nat_eq c 95) (is_xid_start-ascii c (blank_small c e)) ∙ no_letter c e
  where
    no_letter : (c : ℕ) → is_blank c ≡ true → is_ascii_alphabetic c || nat_eq c 95 ≡ false
    no_letter c e = grind (arith, nat_tests)

-- what begins a word is no blank
begins_plain : (c : ℕ) → begins_word c ≡ true → is_blank c ≡ false
begins_plain c e = by_test (is_blank c) refl
  where
    by_test : (t : Bool) → is_blank c ≡ t → is_blank c ≡ false
    by_test true is = absurd (not_both (begins_word c) e (blank_begins_no_word c is))
    by_test false is = is

-- what begins a word goes on one
pub begins_continues : (c : ℕ) → begins_word c ≡ true → continues_word c ≡ true
begins_continues c e = by_test (is_xid_start c) refl
  where
    is_underscore : (c : ℕ) (t : Bool) → t ≡ false → t || nat_eq c 95 ≡ true → 95 ≡ c
    is_underscore c t f e = grind (arith, nat_tests)

    by_test : (t : Bool) → is_xid_start c ≡ t → continues_word c ≡ true
    by_test true is = is_xid_start-is_xid_continue c is
    by_test false is = subst (λ d. continues_word d ≡ true) (is_underscore c (is_xid_start c) is e) (is_xid_continue-ascii 95 (omega arith))

-- a word begins with a character that begins one, and all its characters go on one
pub word_begins : (word rest : List ℕ) → IsWord word → starts begins_word (word ++ rest) ≡ true
word_begins [] rest is = absurd is
word_begins (c ∷ word) rest is = is.0

pub word_continues : (word : List ℕ) → IsWord word → AllPass continues_word word
word_continues [] is = absurd is
word_continues (c ∷ word) is = (begins_continues c is.0, is.1)

-- blanks end in front of a word
pub blanks_end : (word rest : List ℕ) → IsWord word → starts is_blank (word ++ rest) ≡ false
blanks_end [] rest is = absurd is
blanks_end (c ∷ word) rest is = begins_plain c is.0
