-- The value of a literal without escapes is what stands between its quotes, as written.
use Rattle.std.proofs.Common.{◌≡◌, ℕ, ◌-◌, Bool, not, nat_eq, inl, inr, List, [], ◌∷◌, ◌++◌, take, drop, slice_range, Option, refl, ap, ◌∙◌, sym, subst, arith}
use Rattle.std.specs.Str.{IsUtf8, chars, encode_utf8_all}
use Rattle.std.proofs.lemmas.List.{append-nil}
use Rattle.text_cut.specs.Runs.{starts, size, AllPass}
use Rattle.text_cut.specs.Reading.{Spelled, texts, items, AreSpelled}
use Rattle.text_cut.proofs.Sizes.{taken_bytes}
use Rattle.syn_trees.specs.StringToken.{Quoting, Plain, Raw, IsQuoted}
use Rattle.syn_trees.specs.Escape.{IsUnit, self, by_letter, ascii, unicode, continuation, unit_rule, HasUnits, meant_of}
use Rattle.syn_trees.specs.Literal.{ValueOf, HasValue, IsBetweenQuotes, IsUnescaped}
use Rattle.syn_trees.specs.ReadString.{closing}
use Rattle.syn_trees.proofs.Lengths.{Opened, opened}
use Rattle.syn_trees.proofs.Literals.{SameParts, one_quoting}

abbrev no_backslash : ℕ → Bool
no_backslash c = not (nat_eq c 92)

front_passes : (p : ℕ → Bool) (xs ys : List ℕ) → AllPass p (xs ++ ys) → AllPass p xs
front_passes p [] ys pass = tt
front_passes p (x ∷ xs) ys pass = (pass.0, front_passes p xs ys pass.1)

rest_passes : (p : ℕ → Bool) (xs ys : List ℕ) → AllPass p (xs ++ ys) → AllPass p ys
rest_passes p [] ys pass = pass
rest_passes p (x ∷ xs) ys pass = rest_passes p xs ys pass.1

backslash : (text behind : List ℕ) → text ≡ 92 ∷ behind → AllPass no_backslash text → ⊥
backslash text behind whole pass = let first : AllPass no_backslash (92 ∷ behind) = subst (λ l. AllPass no_backslash l) whole pass in let no = first.0 in cc

-- a unit without a backslash stands for itself
unit_written : (text : List ℕ) (meant : Option ℕ) (rest : List ℕ) → IsUnit text meant rest → AllPass no_backslash text → (units : List (Option ℕ)) → meant_of (meant ∷ units) ≡ text ++ meant_of units
unit_written text meant rest (self is) pass units = ap (λ m. meant_of (m ∷ units)) is.value ∙ ap (λ l. l ++ meant_of units) (sym is.whole)
unit_written text meant rest (by_letter is) pass units = absurd (backslash text _ is.whole pass)
unit_written text meant rest (ascii is) pass units = absurd (backslash text _ is.whole pass)
unit_written text meant rest (unicode is) pass units = absurd (backslash text _ is.whole pass)
unit_written text meant rest (continuation is) pass units = absurd (backslash text _ is.whole pass)

spelled_written : (front ss : List (Spelled (Option ℕ))) (rest : List ℕ) → AreSpelled unit_rule front ss rest → AllPass no_backslash (texts ss) → meant_of (items ss) ≡ texts ss
spelled_written front [] rest are pass = refl
spelled_written front (s ∷ ss) rest are pass =
    unit_written s.text s.item (texts ss ++ rest) are.0 (front_passes no_backslash s.text (texts ss) pass) (items ss)
    ∙ ap (λ l. s.text ++ l) (spelled_written (front ++ s ∷ []) ss rest are.1 (rest_passes no_backslash s.text (texts ss) pass))

units_written : (inside : List ℕ) (units : List (Option ℕ)) → HasUnits inside units → AllPass no_backslash inside → meant_of units ≡ inside
units_written inside units has pass =
    let whole : inside ≡ texts has.pieces = has.reading.there ∙ append-nil (texts has.pieces) in
    ap (λ l. meant_of l) has.are
    ∙ (spelled_written [] has.pieces [] has.reading.are (subst (λ l. AllPass no_backslash l) whole pass) ∙ sym whole)

-- a token quoted plainly does not begin with `r`, and its last quote is behind what stands between
inside_passes : (token inside : List ℕ) → IsQuoted Plain (chars token) inside → IsUnescaped token → AllPass no_backslash inside
inside_passes token inside is (inl raw) = absurd (let no = sym (ap (λ l. starts (λ c. nat_eq c 114) l) is.whole) ∙ raw in cc)
inside_passes token inside is (inr pass) = front_passes no_backslash inside (34 ∷ []) (subst (λ l. AllPass no_backslash l) is.whole pass).1

inside_written : (token : List ℕ) (quoting : Quoting) (inside value : List ℕ) → IsQuoted quoting (chars token) inside → IsUnescaped token → ValueOf quoting inside value → value ≡ encode_utf8_all inside
inside_written token Plain inside value is unescaped of = of.2 ∙ ap encode_utf8_all (units_written inside of.0 of.1 (inside_passes token inside is unescaped))
inside_written token (Raw marks) inside value is unescaped of = of

-- the bytes between the quotes
between_bytes : (token : List ℕ) (start end : ℕ) → IsUtf8 token → (is : IsBetweenQuotes token start end) → slice_range token start end ≡ encode_utf8_all is.inside
between_bytes token start end utf8 is =
    let of : Opened is.quoting (chars token) is.inside = opened is.quoting (chars token) is.inside is.quoted in
    let long : end - start ≡ size is.inside = omega (arith, is.ends) in
    ap (λ n. take n (drop start token)) long
    ∙ (ap (λ n. take (size is.inside) (drop n token)) (is.starts ∙ sym of.opens)
    ∙ taken_bytes token of.front is.inside (closing is.quoting) utf8 of.whole)

-- the value of an unescaped token is what stands between its quotes
pub value_written : (token value : List ℕ) (start end : ℕ) → IsUtf8 token → IsUnescaped token → IsBetweenQuotes token start end → HasValue token value → value ≡ slice_range token start end
value_written token value start end utf8 unescaped is has =
    let same : SameParts has.quoting is.quoting has.inside is.inside = one_quoting (chars token) has.inside is.inside has.quoting is.quoting has.quoted is.quoted in
    inside_written token has.quoting has.inside value has.quoted unescaped has.is ∙ (ap encode_utf8_all same.insides ∙ sym (between_bytes token start end utf8 is))
