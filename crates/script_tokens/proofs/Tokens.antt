-- Tokens behind blanks: what stands in a text is found there, and what is found stands there.
use Rattle.std.proofs.Common.{◌≡◌, ℕ, ◌+◌, ◌<◌, nat_lt, true, false, List, [], ◌∷◌, ◌++◌, length, Some, None, refl, ap, ◌∙◌, sym, subst, append_assoc, length-append, arith}
use Rattle.std.specs.Option.{option_map, option_or}
use Rattle.std.proofs.lemmas.Bool.Decides.{nat_tests}
use Rattle.text_cut.specs.Runs.{front, size, is_blank}
use Rattle.text_cut.specs.Place.{Place, place, past}
use Rattle.text_cut.specs.Rules.{Spells}
use Rattle.text_cut.specs.Reading.{Spelled, texts, ReadsPieces}
use Rattle.text_cut.specs.Many.{IgnoresFront}
use Rattle.text_cut.proofs.OptionLaws.{mapped}
use Rattle.text_cut.proofs.Rules.{took_both, past_is, past_run}
use Rattle.text_cut.proofs.Runs.{front_is}
use Rattle.text_cut.proofs.Sizes.{size_append, size_some}
use Rattle.text_cut.proofs.Whole.{no_state}
use Rattle.script_tokens.specs.Tokens.{Tok, are_some, kind_by, IsTok}
use Rattle.script_tokens.specs.ReadTokens.{as_word, as_numeral, numeral_at, sign_at, bare_at, spaced_by, tok_at}
use Rattle.script_tokens.specs.Lines.{BeginsLineEnd}
use Rattle.script_tokens.proofs.Signs.{line_feed_begins_no_word}
use Rattle.script_tokens.proofs.Spellings.{plain_found, spelling_found, spelling_begins, spelling_some, BareIs, bare_is, no_word}

-- blanks lead on to a further place where there are some
passed : (at : ℕ) (blanks : List ℕ) → nat_lt at (at + size blanks) ≡ are_some blanks
passed at [] = none at
  where
    none : (n : ℕ) → nat_lt n (n + 0) ≡ false
    none n = grind (arith, nat_tests)
passed at (c ∷ blanks) = further at (size (c ∷ blanks)) (size_some (c ∷ blanks) (omega arith))
  where
    further : (n m : ℕ) → 0 < m → nat_lt n (n + m) ≡ true
    further n m some = grind (arith, nat_tests)

-- a token is found behind its blanks
pub tok_found : (front : List (Spelled Tok)) (text : List ℕ) (tok : Tok) (rest : List ℕ) (at : ℕ) → IsTok front text tok rest → tok_at (place at (text ++ rest)) ≡ Some (tok, place (at + size text) rest)
tok_found front text tok rest at is =
    let here : Place = place at (is.blanks ++ (is.bare ++ rest)) in
    let begin : Place = place (at + size is.blanks) (is.bare ++ rest) in
    let spaced : nat_lt at (at + size is.blanks) ≡ tok.spaced = passed at is.blanks ∙ sym is.spaced in
    let kind : kind_by is.spelling ≡ tok.kind = sym is.kind in
    let number : (at + size is.blanks) + size is.bare ≡ at + size text = omega (arith, size_append is.blanks is.bare, ap size is.whole) in
    ap (λ l. tok_at (place at (l ++ rest))) is.whole
    ∙ (ap (λ l. tok_at (place at l)) (append_assoc is.blanks is.bare rest)
    ∙ (ap (λ b. option_map (spaced_by here b) (bare_at b)) (past_run is_blank is.blanks (is.bare ++ rest) at (record { pass = is.are_blanks; stops = spelling_begins is.bare rest is.spelling }))
    ∙ (ap (λ o. option_map (spaced_by here begin) o) (spelling_found is.bare rest (at + size is.blanks) is.spelling)
    ∙ (λ i. Some (record { spaced = spaced i; kind = kind i }, place (number i) rest)))))

-- where a token is found, it stands
tok_is : (before : List (Spelled Tok)) (p : Place) (r : Tok × Place) → tok_at p ≡ Some r → Spells (λ at. IsTok before) p r
tok_is before p r found =
    let begin = past is_blank p in
    mapped (spaced_by p begin) (bare_at begin) r found
    (λ k there same.
    let bare : BareIs begin k = bare_is begin k there in
    subst (λ z. Spells (λ at. IsTok before) p z) same (record {
      text = front is_blank p.left ++ bare.text;
      took = took_both p begin k.1 (front is_blank p.left) bare.text (past_is is_blank p) bare.took;
      rule = record {
        blanks = front is_blank p.left;
        bare = bare.text;
        whole = refl;
        are_blanks = (front_is is_blank p.left).pass;
        spelling = bare.spelling;
        spaced = passed p.at (front is_blank p.left);
        kind = bare.is;
      };
    }))

tok_some : (front : List (Spelled Tok)) (text : List ℕ) (tok : Tok) (rest : List ℕ) → IsTok front text tok rest → 0 < length text
tok_some front text tok rest is = omega (arith, ap length is.whole, length-append is.blanks is.bare, spelling_some is.bare rest is.spelling)

-- tokens are read as the rule says
pub toks_read : ReadsPieces IsTok no_state (λ state. tok_at)
toks_read = record {
  found = λ front text tok rest is. tok_found front text tok rest (size (texts front)) is;
  is = λ front left r found. tok_is front (place (size (texts front)) left) r found;
  some = tok_some;
}

-- and whatever stands in front of them
pub toks_ignore_front : IgnoresFront IsTok
toks_ignore_front = record {
  same = λ front other text tok rest is. record {
    blanks = is.blanks;
    bare = is.bare;
    whole = is.whole;
    are_blanks = is.are_blanks;
    spelling = is.spelling;
    spaced = is.spaced;
    kind = is.kind;
  };
}

-- no token stands at a line feed
none_at_line_feed : (at : ℕ) (more : List ℕ) → bare_at (place at (10 ∷ more)) ≡ None
none_at_line_feed at more =
    plain_found (place at (10 ∷ more)) (record { no_plain = λ l e. cc; no_raw = λ l e opens. cc })
    ∙ ap (λ o. option_or (option_map as_word o) (option_or (option_map as_numeral (numeral_at (place at (10 ∷ more)))) (sign_at (place at (10 ∷ more))))) (no_word (place at (10 ∷ more)) line_feed_begins_no_word)

-- no token stands where a line ends
pub none_at_line_end : (rest : List ℕ) (at : ℕ) → BeginsLineEnd rest → tok_at (place at rest) ≡ None
none_at_line_end rest at is =
    let here : Place = place at (is.blanks ++ 10 ∷ is.more) in
    ap (λ l. tok_at (place at l)) is.whole
    ∙ (ap (λ b. option_map (spaced_by here b) (bare_at b)) (past_run is_blank is.blanks (10 ∷ is.more) at (record { pass = is.are_blanks; stops = refl }))
    ∙ ap (λ o. option_map (spaced_by here (place (at + size is.blanks) (10 ∷ is.more))) o) (none_at_line_feed (at + size is.blanks) is.more))
