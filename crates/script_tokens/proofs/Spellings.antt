-- Single tokens without blanks: what stands in a text is found there, and what is found stands there.
use Rattle.std.proofs.Common.{◌≡◌, ℕ, zero, suc, ◌+◌, ◌<◌, Bool, true, false, ◌==◌, cond, replicate, List, [], ◌∷◌, ◌++◌, length, Option, Some, None, refl, ap, ◌∙◌, sym, subst, arith}
use Rattle.std.specs.Option.{option_map, option_or}
use Rattle.std.specs.Char.{len_utf8, is_ascii_digit}
use Rattle.std.specs.Str.{encode_utf8_all}
use Rattle.std.proofs.lemmas.Bool.{eqb-true}
use Rattle.std.proofs.lemmas.Option.{same_Some}
use Rattle.text_cut.specs.Runs.{starts, front, behind, size, is_blank, IsLongest}
use Rattle.text_cut.specs.Place.{Place, place, past, Took}
use Rattle.text_cut.proofs.OptionLaws.{mapped, chosen, none_some}
use Rattle.text_cut.proofs.Rules.{took_one, past_is, past_run}
use Rattle.text_cut.proofs.Runs.{front_is, front_of}
use Rattle.syn_trees.specs.StringToken.{OpensRaw, Quoting, Plain, Raw, IsQuoted}
use Rattle.syn_trees.specs.ReadQuoted.{Str, str_at}
use Rattle.syn_trees.proofs.Quotes.{str_found, StrIs, str_is}
use Rattle.script_tokens.specs.Words.{begins_word, continues_word, IsWord}
use Rattle.script_tokens.proofs.ReadWords.{word_read, WordIs, word_is}
use Rattle.script_tokens.specs.declared.token.Bracket.{Bracket}
use Rattle.script_tokens.specs.declared.token.Bracket.TheVariants.{Round, Square, Curly}
use Rattle.script_tokens.specs.Tokens.{Kind, Mark, Open, Close, opening, closing, is_mark, spacing, IsWholeWord, IsNumeral, Spelling, AsWord, AsNumeral, AsText, AsMark, Opening, Closing, kind_by}
use Rattle.script_tokens.specs.ReadTokens.{as_word, as_numeral, as_text, word_at, numeral_at, opens_raw, bracket_of, mark_of, sign_at, plain_at, bare_at}
use Rattle.script_tokens.proofs.Characters.{blanks_end}
use Rattle.script_tokens.proofs.Signs.{IsApart, apart_begins_no_word, apart_is_no_r, apart_is_no_quote, digit_apart, digit_continues, mark_apart, mark_no_digit, mark_no_bracket, opening_apart, closing_apart, hash_ends, quote_ends, quote_begins_no_word}
use Rattle.script_tokens.proofs.Opens.{OpensNone, str_none, opens_none, raw_opens}

not_both : (b : Bool) → b ≡ true → b ≡ false → ⊥
not_both b t f = cc

same_first : (c d : ℕ) (cs ds : List ℕ) → c ∷ cs ≡ d ∷ ds → c ≡ d
same_first c d cs ds e = cc

same_tail : (c d : ℕ) (cs ds : List ℕ) → c ∷ cs ≡ d ∷ ds → cs ≡ ds
same_tail c d cs ds e = cc

-- a character that is apart begins no string
apart_opens_none : (c : ℕ) (rest : List ℕ) → IsApart c → OpensNone (c ∷ rest)
apart_opens_none c rest is = record {
  no_plain = λ more e. apart_is_no_quote c is (same_first c 34 rest more e);
  no_raw = λ more e opens. apart_is_no_r c is (same_first c 114 rest more e);
}

-- what begins a raw string behind its `r` goes on no word
raw_ends_word : (text : List ℕ) → OpensRaw text → starts continues_word text ≡ false
raw_ends_word text is = by_marks is.marks is.is
  where
    by_marks : (marks : ℕ) → text ≡ replicate marks 35 ++ 34 ∷ is.more → starts continues_word text ≡ false
    by_marks zero e = ap (λ l. starts continues_word l) e ∙ quote_ends
    by_marks (suc marks) e = ap (λ l. starts continues_word l) e ∙ hash_ends

-- a whole word begins no string
word_opens_none : (text rest : List ℕ) → IsWholeWord text rest → OpensNone (text ++ rest)
word_opens_none [] rest is = absurd is.word
word_opens_none (c ∷ []) rest is = record {
  no_plain = λ more e. not_both (begins_word 34) (subst (λ d. begins_word d ≡ true) (same_first c 34 rest more e) is.word.0) quote_begins_no_word;
  no_raw = λ more e opens. is.no_raw (ap (λ d. d ∷ []) (same_first c 114 rest more e)) (subst (λ l. OpensRaw l) (sym (same_tail c 114 rest more e)) opens);
}
word_opens_none (c ∷ d ∷ text) rest is = record {
  no_plain = λ more e. not_both (begins_word 34) (subst (λ d. begins_word d ≡ true) (same_first c 34 (d ∷ (text ++ rest)) more e) is.word.0) quote_begins_no_word;
  no_raw = λ more e opens. not_both (continues_word d) is.word.1.0 (ap (λ l. starts continues_word l) (same_tail c 114 (d ∷ (text ++ rest)) more e) ∙ raw_ends_word more opens);
}

-- where no string begins, what stands there is a word, a numeral or a sign
pub plain_found : (p : Place) → OpensNone p.left → bare_at p ≡ plain_at p
plain_found p none =
    ap (λ o. option_or (option_map as_text o) (cond (opens_raw p) None (plain_at p))) (str_none p none)
    ∙ ap (λ b. cond b None (plain_at p)) (opens_none p none)

-- no word begins here
pub no_word : (p : Place) → starts begins_word p.left ≡ false → word_at p ≡ None
no_word p e = ap (λ b. cond b (Some (encode_utf8_all (front continues_word p.left), past continues_word p)) None) e

-- and no numeral
no_numeral : (p : Place) → starts is_ascii_digit p.left ≡ false → numeral_at p ≡ None
no_numeral p e = ap (λ b. cond b (Some (encode_utf8_all (front continues_word p.left), past continues_word p)) None) e

word_found : (text rest : List ℕ) (at : ℕ) (is : IsWholeWord text rest) → bare_at (place at (text ++ rest)) ≡ Some (kind_by (AsWord is), place (at + size text) rest)
word_found text rest at is =
    let p = place at (text ++ rest) in
    plain_found p (word_opens_none text rest is)
    ∙ ap (λ o. option_or (option_map as_word o) (option_or (option_map as_numeral (numeral_at p)) (sign_at p))) (word_read text rest at is.word is.ends)

numeral_read : (c : ℕ) (more rest : List ℕ) (at : ℕ) → is_ascii_digit c ≡ true → IsLongest continues_word more rest → numeral_at (place at (c ∷ more ++ rest)) ≡ Some (encode_utf8_all (c ∷ more), place (at + size (c ∷ more)) rest)
numeral_read c more rest at digit longest =
    let whole : IsLongest continues_word (c ∷ more) rest = record { pass = (digit_continues c digit, longest.pass); stops = longest.stops } in
    ap (λ b. cond b (Some (encode_utf8_all (front continues_word (c ∷ more ++ rest)), past continues_word (place at (c ∷ more ++ rest)))) None) digit
    ∙ (ap (λ l. Some (encode_utf8_all l, past continues_word (place at (c ∷ more ++ rest)))) (front_of continues_word (c ∷ more) rest whole)
    ∙ ap (λ e. Some (encode_utf8_all (c ∷ more), e)) (past_run continues_word (c ∷ more) rest at whole))

digit_found : (c : ℕ) (more rest : List ℕ) (at : ℕ) → is_ascii_digit c ≡ true → IsLongest continues_word more rest → bare_at (place at (c ∷ more ++ rest)) ≡ Some (as_numeral (encode_utf8_all (c ∷ more), place (at + size (c ∷ more)) rest))
digit_found c more rest at digit longest =
    let p = place at (c ∷ more ++ rest) in
    plain_found p (apart_opens_none c (more ++ rest) (digit_apart c digit))
    ∙ (ap (λ o. option_or (option_map as_word o) (option_or (option_map as_numeral (numeral_at p)) (sign_at p))) (no_word p (apart_begins_no_word c (digit_apart c digit)))
    ∙ ap (λ o. option_or (option_map as_numeral o) (sign_at p)) (numeral_read c more rest at digit longest))

numeral_found : (text rest : List ℕ) (at : ℕ) (is : IsNumeral text rest) → bare_at (place at (text ++ rest)) ≡ Some (kind_by (AsNumeral is), place (at + size text) rest)
numeral_found text rest at is =
    subst (λ l. bare_at (place at (l ++ rest)) ≡ Some (as_numeral (encode_utf8_all l, place (at + size l) rest))) (sym is.whole)
    (digit_found is.digit is.more rest at is.is_digit is.longest)

-- a single character that begins no word and no string is found as a sign
sign_found : (c : ℕ) (rest : List ℕ) (at : ℕ) (kind : Kind) → IsApart c → is_ascii_digit c ≡ false → option_or (bracket_of c) (mark_of c rest) ≡ Some kind → bare_at (place at (c ∷ rest)) ≡ Some (kind, place (at + size (c ∷ [])) rest)
sign_found c rest at kind apart digit is =
    let p = place at (c ∷ rest) in
    plain_found p (apart_opens_none c rest apart)
    ∙ (ap (λ o. option_or (option_map as_word o) (option_or (option_map as_numeral (numeral_at p)) (sign_at p))) (no_word p (apart_begins_no_word c apart))
    ∙ (ap (λ o. option_or (option_map as_numeral o) (sign_at p)) (no_numeral p digit)
    ∙ (ap (λ o. option_map (λ t. (t, place (at + len_utf8 c) rest)) o) is
    ∙ ap (λ n. Some (kind, place n rest)) (number at (len_utf8 c)))))
  where
    number : (n m : ℕ) → n + m ≡ n + (m + 0)
    number n m = omega arith

one_found : (text : List ℕ) (c : ℕ) (rest : List ℕ) (at : ℕ) (kind : Kind) → text ≡ c ∷ [] → bare_at (place at (c ∷ rest)) ≡ Some (kind, place (at + size (c ∷ [])) rest) → bare_at (place at (text ++ rest)) ≡ Some (kind, place (at + size text) rest)
one_found text c rest at kind e found = subst (λ l. bare_at (place at (l ++ rest)) ≡ Some (kind, place (at + size l) rest)) (sym e) found

bracket_found : (k : Bracket) (rest : List ℕ) (at : ℕ) → bare_at (place at (opening k ∷ rest)) ≡ Some (Open k, place (at + size (opening k ∷ [])) rest)
bracket_found Round rest at = sign_found 40 rest at (Open Round) (opening_apart Round) refl refl
bracket_found Square rest at = sign_found 91 rest at (Open Square) (opening_apart Square) refl refl
bracket_found Curly rest at = sign_found 123 rest at (Open Curly) (opening_apart Curly) refl refl

bracket_end_found : (k : Bracket) (rest : List ℕ) (at : ℕ) → bare_at (place at (closing k ∷ rest)) ≡ Some (Close k, place (at + size (closing k ∷ [])) rest)
bracket_end_found Round rest at = sign_found 41 rest at (Close Round) (closing_apart Round) refl refl
bracket_end_found Square rest at = sign_found 93 rest at (Close Square) (closing_apart Square) refl refl
bracket_end_found Curly rest at = sign_found 125 rest at (Close Curly) (closing_apart Curly) refl refl

mark_found : (c : ℕ) (rest : List ℕ) → is_mark c ≡ true → option_or (bracket_of c) (mark_of c rest) ≡ Some (Mark c (spacing rest))
mark_found c rest mark = ap (λ o. option_or o (mark_of c rest)) (mark_no_bracket c mark) ∙ ap (λ b. cond b (Some (Mark c (spacing rest))) None) mark

-- a token is found
pub spelling_found : (text rest : List ℕ) (at : ℕ) (spelling : Spelling text rest) → bare_at (place at (text ++ rest)) ≡ Some (kind_by spelling, place (at + size text) rest)
spelling_found text rest at (AsWord is) = word_found text rest at is
spelling_found text rest at (AsNumeral is) = numeral_found text rest at is
spelling_found text rest at (AsText inside is) =
    let p = place at (text ++ rest) in
    ap (λ o. option_or (option_map as_text o) (cond (opens_raw p) None (plain_at p))) (str_found is.quoting text inside rest at is.quoted)
spelling_found text rest at (AsMark c is mark) = one_found text c rest at (Mark c (spacing rest)) is (sign_found c rest at (Mark c (spacing rest)) (mark_apart c mark) (mark_no_digit c mark) (mark_found c rest mark))
spelling_found text rest at (Opening k is) = one_found text (opening k) rest at (Open k) is (bracket_found k rest at)
spelling_found text rest at (Closing k is) = one_found text (closing k) rest at (Close k) is (bracket_end_found k rest at)

quoted_begins : (quoting : Quoting) (text inside rest : List ℕ) → IsQuoted quoting text inside → starts is_blank (text ++ rest) ≡ false
quoted_begins Plain text inside rest is = ap (λ l. starts is_blank (l ++ rest)) is.whole
quoted_begins (Raw marks) text inside rest is = ap (λ l. starts is_blank (l ++ rest)) is.whole

-- no token begins with a blank
pub spelling_begins : (text rest : List ℕ) → Spelling text rest → starts is_blank (text ++ rest) ≡ false
spelling_begins text rest (AsWord is) = blanks_end text rest is.word
spelling_begins text rest (AsNumeral is) = ap (λ l. starts is_blank (l ++ rest)) is.whole ∙ (digit_apart is.digit is.is_digit).blank
spelling_begins text rest (AsText inside is) = quoted_begins is.quoting text inside rest is.quoted
spelling_begins text rest (AsMark c is mark) = ap (λ l. starts is_blank (l ++ rest)) is ∙ (mark_apart c mark).blank
spelling_begins text rest (Opening k is) = ap (λ l. starts is_blank (l ++ rest)) is ∙ (opening_apart k).blank
spelling_begins text rest (Closing k is) = ap (λ l. starts is_blank (l ++ rest)) is ∙ (closing_apart k).blank

quoted_some : (quoting : Quoting) (text inside : List ℕ) → IsQuoted quoting text inside → 0 < length text
quoted_some Plain text inside is = omega (arith, ap length is.whole)
quoted_some (Raw marks) text inside is = omega (arith, ap length is.whole)

word_some : (text : List ℕ) → IsWord text → 0 < length text
word_some [] is = absurd is
word_some (c ∷ text) is = omega arith

-- no token is empty
pub spelling_some : (text rest : List ℕ) → Spelling text rest → 0 < length text
spelling_some text rest (AsWord is) = word_some text is.word
spelling_some text rest (AsNumeral is) = omega (arith, ap length is.whole)
spelling_some text rest (AsText inside is) = quoted_some is.quoting text inside is.quoted
spelling_some text rest (AsMark c is mark) = omega (arith, ap length is)
spelling_some text rest (Opening k is) = omega (arith, ap length is)
spelling_some text rest (Closing k is) = omega (arith, ap length is)

-- a token without blanks stands between a place and r.1
pub record BareIs (p : Place) (r : Kind × Place) : Type 0 where
  pub text : List ℕ
  pub took : Took p r.1 text
  pub spelling : Spelling text r.1.left
  pub is : r.0 ≡ kind_by spelling

-- a character is a sign in front of this rest
record SignIs (c : ℕ) (rest : List ℕ) (kind : Kind) : Type 0 where
  spelling : Spelling (c ∷ []) rest
  is : kind ≡ kind_by spelling

opens_sign : (k : Bracket) (c : ℕ) (rest : List ℕ) (kind : Kind) → (c == opening k) ≡ true → Some (Open k) ≡ Some kind → SignIs c rest kind
opens_sign k c rest kind t same = record { spelling = Opening k (ap (λ d. d ∷ []) (eqb-true c (opening k) t)); is = sym (same_Some _ _ same) }

closes_sign : (k : Bracket) (c : ℕ) (rest : List ℕ) (kind : Kind) → (c == closing k) ≡ true → Some (Close k) ≡ Some kind → SignIs c rest kind
closes_sign k c rest kind t same = record { spelling = Closing k (ap (λ d. d ∷ []) (eqb-true c (closing k) t)); is = sym (same_Some _ _ same) }

bracket_is : (c : ℕ) (rest : List ℕ) (kind : Kind) → bracket_of c ≡ Some kind → SignIs c rest kind
bracket_is c rest kind e =
    chosen (c == 40) _ _ _ e (opens_sign Round c rest kind) (λ f e.
    chosen (c == 41) _ _ _ e (closes_sign Round c rest kind) (λ f e.
    chosen (c == 91) _ _ _ e (opens_sign Square c rest kind) (λ f e.
    chosen (c == 93) _ _ _ e (closes_sign Square c rest kind) (λ f e.
    chosen (c == 123) _ _ _ e (opens_sign Curly c rest kind) (λ f e.
    chosen (c == 125) _ _ _ e (closes_sign Curly c rest kind) (λ f e. absurd (none_some kind e)))))))

mark_is : (c : ℕ) (rest : List ℕ) (kind : Kind) → mark_of c rest ≡ Some kind → SignIs c rest kind
mark_is c rest kind e = chosen (is_mark c) _ _ _ e
    (λ mark same. record { spelling = AsMark c refl mark; is = sym (same_Some _ _ same) })
    (λ other none. absurd (none_some kind none))

one_is : (c : ℕ) (rest : List ℕ) (kind : Kind) (o : Option Kind) → bracket_of c ≡ o → option_or o (mark_of c rest) ≡ Some kind → SignIs c rest kind
one_is c rest kind None e same = mark_is c rest kind same
one_is c rest kind (Some t) e same = bracket_is c rest kind (e ∙ same)

-- the first of two answers that is there
either : {A P : Type 0} (o other : Option A) (x : A) → option_or o other ≡ Some x → (o ≡ Some x → P) → (o ≡ None → other ≡ Some x → P) → P
either None other x e former latter = latter refl e
either (Some y) other x e former latter = former e

sign_is : (at : ℕ) (cs : List ℕ) (r : Kind × Place) → sign_at (place at cs) ≡ Some r → BareIs (place at cs) r
sign_is at [] r e = absurd (none_some r e)
sign_is at (c ∷ cs) r e = mapped (λ (t : Kind). (t, place (at + len_utf8 c) cs)) (option_or (bracket_of c) (mark_of c cs)) r e
    (λ t there same.
    let sign : SignIs c cs t = one_is c cs t (bracket_of c) refl there in
    subst (λ z. BareIs (place at (c ∷ cs)) z) same (record { text = c ∷ []; took = took_one at c cs; spelling = sign.spelling; is = sign.is }))

numeral_text : (cs : List ℕ) → starts is_ascii_digit cs ≡ true → IsNumeral (front continues_word cs) (behind continues_word cs)
numeral_text [] e = absurd (cc)
numeral_text (c ∷ cs) e = rw (digit_continues c e) (record { digit = c; more = front continues_word cs; whole = refl; is_digit = e; longest = front_is continues_word cs })

numeral_is : (p : Place) (r : List ℕ × Place) → numeral_at p ≡ Some r → BareIs p (as_numeral r)
numeral_is p r e = chosen (starts is_ascii_digit p.left) _ _ _ e
    (λ digit same. subst (λ z. BareIs p (as_numeral z)) (same_Some _ _ same)
    (record { text = front continues_word p.left; took = past_is continues_word p; spelling = AsNumeral (numeral_text p.left digit); is = refl }))
    (λ other none. absurd (none_some r none))

word_stops : (p : Place) (r : List ℕ × Place) → word_at p ≡ Some r → starts continues_word r.1.left ≡ false
word_stops p r e = chosen (starts begins_word p.left) _ _ _ e
    (λ begins same. subst (λ (z : List ℕ × Place). starts continues_word z.1.left ≡ false) (same_Some _ _ same) (front_is continues_word p.left).stops)
    (λ other none. absurd (none_some r none))

-- a word behind which no raw string's start stands is whole
whole_word : (p : Place) (r : List ℕ × Place) → opens_raw p ≡ false → word_at p ≡ Some r → BareIs p (as_word r)
whole_word p r opens e =
    let is : WordIs p r = word_is p r e in
    record {
      text = is.word;
      took = is.took;
      spelling = AsWord (record {
        word = is.is;
        ends = word_stops p r e;
        no_raw = λ letter raw. not_both (opens_raw p) (ap (λ l. opens_raw (place p.at l)) (is.took.there ∙ ap (λ l. l ++ r.1.left) letter) ∙ raw_opens p.at r.1.left raw) opens;
      });
      is = ap (λ l. (as_word (l, r.1)).0) is.value;
    }

text_is : (p : Place) (r : Str × Place) → str_at p ≡ Some r → BareIs p (as_text r)
text_is p r e =
    let is : StrIs p r = str_is p r e in
    record { text = is.token; took = is.took; spelling = AsText is.inside (record { quoting = is.quoting; quoted = is.quoted }); is = ap (λ l. (as_text (l, r.1)).0) is.bytes }

plain_is : (p : Place) (r : Kind × Place) → opens_raw p ≡ false → plain_at p ≡ Some r → BareIs p r
plain_is p r opens e = either (option_map as_word (word_at p)) (option_or (option_map as_numeral (numeral_at p)) (sign_at p)) r e
    (λ word. mapped as_word (word_at p) r word (λ w there same. subst (λ z. BareIs p z) same (whole_word p w opens there)))
    (λ none other. either (option_map as_numeral (numeral_at p)) (sign_at p) r other
    (λ numeral. mapped as_numeral (numeral_at p) r numeral (λ n there same. subst (λ z. BareIs p z) same (numeral_is p n there)))
    (λ none sign. sign_is p.at p.left r sign))

-- where a token is found, it stands
pub bare_is : (p : Place) (r : Kind × Place) → bare_at p ≡ Some r → BareIs p r
bare_is p r e = either (option_map as_text (str_at p)) (cond (opens_raw p) None (plain_at p)) r e
    (λ text. mapped as_text (str_at p) r text (λ q there same. subst (λ z. BareIs p z) same (text_is p q there)))
    (λ none other. chosen (opens_raw p) None (plain_at p) (Some r) other
    (λ opens gone. absurd (none_some r gone))
    (λ opens plain. plain_is p r opens plain))
