-- String tokens: where one stands it is found, whatever follows it, and what is found is one.
use Rattle.std.proofs.Common.{◌≡◌, ℕ, ◌+◌, false, List, [], ◌∷◌, ◌++◌, replicate, Option, Some, None, refl, ap, ◌∙◌, subst, append_assoc, arith}
use Rattle.std.specs.Option.{option_map, option_and_then}
use Rattle.std.proofs.lemmas.Option.{same_Some}
use Rattle.text_cut.specs.Runs.{size}
use Rattle.text_cut.specs.Place.{Place, place, Took}
use Rattle.text_cut.specs.Rules.{past_word}
use Rattle.text_cut.proofs.OptionLaws.{mapped, none_some}
use Rattle.text_cut.proofs.Rules.{took_both, word_is}
use Rattle.text_cut.proofs.Sizes.{size_append}
use Rattle.syn_trees.specs.StringToken.{IsPlain, IsRaw, raw_end, Quoting, Plain, Raw, IsQuoted, IsStringToken}
use Rattle.syn_trees.specs.Literal.{opening}
use Rattle.syn_trees.specs.ReadString.{Found, closing, marks_of, plain_in, raw_in, found_between, plain_behind, raw_from, start_at, raw_start, found_or, token_at, token_end}
use Rattle.syn_trees.proofs.RawStarts.{marks_size, start_found, StartIs, raw_start_is}
use Rattle.syn_trees.proofs.Plain.{plain_found, PlainIs, plain_is}
use Rattle.syn_trees.proofs.Raw.{raw_found, RawIs, raw_is}

-- what is found of a token behind whose first quote this offset is
abbrev pub found_from : Quoting → ℕ → List ℕ → List ℕ → Found
found_from quoting from inside rest = record {
  marks = marks_of quoting;
  from = place from (inside ++ (closing quoting ++ rest));
  to = place (from + size inside) (closing quoting ++ rest);
  end = place ((from + size inside) + size (closing quoting)) rest;
}

-- a plain token is found
found_plain : (token inside rest : List ℕ) (at : ℕ) → IsPlain token inside → token_at (place at (token ++ rest)) ≡ Some (found_from Plain (at + 1) inside rest)
found_plain token inside rest at is =
    ap (λ l. token_at (place at (l ++ rest))) is.whole
    ∙ (ap (λ l. found_between None (place (at + 1) l) (plain_in false (at + 1) l)) (append_assoc inside (34 ∷ []) rest)
    ∙ ap (λ o. found_between None (place (at + 1) (inside ++ (34 ∷ rest))) o) (plain_found inside rest (at + 1) is.are))

-- a raw token is found
found_raw : (marks : ℕ) (token inside rest : List ℕ) (at : ℕ) → IsRaw marks token inside → token_at (place at (token ++ rest)) ≡ Some (found_from (Raw marks) (((at + 1) + marks) + 1) inside rest)
found_raw marks token inside rest at is =
    let text : List ℕ = inside ++ (raw_end marks ++ rest) in
    let there : (replicate marks 35 ++ (34 ∷ (inside ++ raw_end marks))) ++ rest ≡ replicate marks 35 ++ (34 ∷ text) =
    append_assoc (replicate marks 35) (34 ∷ (inside ++ raw_end marks)) rest ∙ ap (λ l. replicate marks 35 ++ (34 ∷ l)) (append_assoc inside (raw_end marks) rest) in
    ap (λ l. token_at (place at (l ++ rest))) is.whole
    ∙ (ap (λ l. option_and_then raw_from (start_at (place (at + 1) l))) there
    ∙ (ap (λ o. option_and_then raw_from o) (start_found marks (at + 1) text is.few)
    ∙ ap (λ o. found_between (Some marks) (place (((at + 1) + marks) + 1) text) o) (raw_found marks inside rest (((at + 1) + marks) + 1) is.first)))

-- a token is found, whatever follows it
pub parts_found : (quoting : Quoting) (token inside rest : List ℕ) (at : ℕ) → IsQuoted quoting token inside → token_at (place at (token ++ rest)) ≡ Some (found_from quoting (at + opening quoting) inside rest)
parts_found Plain token inside rest at is = found_plain token inside rest at is
parts_found (Raw marks) token inside rest at is =
    found_raw marks token inside rest at is ∙ ap (λ (n : ℕ). Some (found_from (Raw marks) n inside rest)) (omega arith)

-- the bytes of a token
pub quoted_size : (quoting : Quoting) (token inside : List ℕ) → IsQuoted quoting token inside → (opening quoting + size inside) + size (closing quoting) ≡ size token
quoted_size Plain token inside is = omega (arith, ap size is.whole, size_append inside (34 ∷ []))
quoted_size (Raw marks) token inside is =
    omega (arith, ap size is.whole, size_append (replicate marks 35) (34 ∷ (inside ++ raw_end marks)), size_append inside (raw_end marks), marks_size marks)

-- the place behind a token is found
pub token_found : (token rest : List ℕ) (at : ℕ) → IsStringToken token → token_end (place at (token ++ rest)) ≡ Some (place (at + size token) rest)
token_found token rest at is =
    ap (λ o. option_map (λ (found : Found). found.end) o) (parts_found is.quoting token is.inside rest at is.quoted)
    ∙ ap (λ (n : ℕ). Some (place n rest)) (omega (arith, quoted_size is.quoting token is.inside is.quoted))

-- a token with its parts stands between two places
pub record PartsAre (p : Place) (found : Found) : Type 0 where
  pub quoting : Quoting
  pub token : List ℕ
  pub inside : List ℕ
  pub quoted : IsQuoted quoting token inside
  pub marks : found.marks ≡ marks_of quoting
  pub took : Took p found.end token
  pub opens : found.from.at ≡ p.at + opening quoting
  pub between : Took found.from found.to inside

plain_parts : (p b : Place) (found : Found) → Took p b (34 ∷ []) → plain_behind b ≡ Some found → PartsAre p found
plain_parts p b found quote_there there = by_ends (plain_in false b.at b.left) refl there
  where
    by_ends : (o : Option (Place × Place)) → plain_in false b.at b.left ≡ o → found_between None b o ≡ Some found → PartsAre p found
    by_ends None e same = absurd (none_some found same)
    by_ends (Some r) e same =
        let is : PlainIs b r = plain_is b r e in
        subst (λ f. PartsAre p f) (same_Some _ _ same) (record {
          quoting = Plain;
          token = 34 ∷ (is.inside ++ 34 ∷ []);
          inside = is.inside;
          quoted = record { whole = refl; are = is.are };
          marks = refl;
          took = took_both p b r.1 (34 ∷ []) (is.inside ++ 34 ∷ []) quote_there (took_both b r.0 r.1 is.inside (34 ∷ []) is.before is.quote);
          opens = quote_there.ends;
          between = is.before;
        })

raw_parts : (p : Place) (start : ℕ × Place) (found : Found) → StartIs p start → raw_from start ≡ Some found → PartsAre p found
raw_parts p start found opens there = by_ends (raw_in start.0 start.1.at start.1.left) refl there
  where
    by_ends : (o : Option (Place × Place)) → raw_in start.0 start.1.at start.1.left ≡ o → found_between (Some start.0) start.1 o ≡ Some found → PartsAre p found
    by_ends None e same = absurd (none_some found same)
    by_ends (Some r) e same =
        let is : RawIs start.0 start.1 r = raw_is start.0 start.1 r e in
        subst (λ f. PartsAre p f) (same_Some _ _ same) (record {
          quoting = Raw start.0;
          token = 114 ∷ ((replicate start.0 35 ++ 34 ∷ []) ++ (is.inside ++ raw_end start.0));
          inside = is.inside;
          quoted = record { few = opens.few; whole = ap (λ l. 114 ∷ l) (append_assoc (replicate start.0 35) (34 ∷ []) (is.inside ++ raw_end start.0)); first = is.first };
          marks = refl;
          took = took_both p start.1 r.1 (114 ∷ (replicate start.0 35 ++ 34 ∷ [])) (is.inside ++ raw_end start.0) opens.took
              (took_both start.1 r.0 r.1 is.inside (raw_end start.0) is.before is.ending);
          opens = omega (arith, opens.took.ends, size_append (replicate start.0 35) (34 ∷ []), marks_size start.0);
          between = is.before;
        })

-- what is found is a token with its parts
pub parts_are : (p : Place) (found : Found) → token_at p ≡ Some found → PartsAre p found
parts_are p found there = by_quote (past_word (34 ∷ []) p) refl there
  where
    by_start : (o : Option (ℕ × Place)) → raw_start p ≡ o → option_and_then raw_from o ≡ Some found → PartsAre p found
    by_start None e same = absurd (none_some found same)
    by_start (Some start) e same = raw_parts p start found (raw_start_is p start e) same

    by_quote : (o : Option Place) → past_word (34 ∷ []) p ≡ o → found_or o plain_behind (option_and_then raw_from (raw_start p)) ≡ Some found → PartsAre p found
    by_quote None e same = by_start (raw_start p) refl same
    by_quote (Some b) e same = plain_parts p b found (word_is (34 ∷ []) p.at p.left b e) same

-- a token stands between two places
pub record TokenIs (p e : Place) : Type 0 where
  pub token : List ℕ
  pub is : IsStringToken token
  pub took : Took p e token

-- where the place behind a token is found, a token stands in front of it
pub token_is : (p e : Place) → token_end p ≡ Some e → TokenIs p e
token_is p e there = mapped (λ (found : Found). found.end) (token_at p) e there
    (λ found is same. let parts : PartsAre p found = parts_are p found is in
    record { token = parts.token; is = record { quoting = parts.quoting; inside = parts.inside; quoted = parts.quoted }; took = subst (λ d. Took p d parts.token) same parts.took })
