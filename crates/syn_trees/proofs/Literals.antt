-- Literals: bytes that are one are found whole, their parts are the only ones, and so is their value.
use Rattle.std.proofs.Common.{◌≡◌, ℕ, ◌+◌, ◌<◌, ◌≤◌, Bool, true, false, not, IsTrue, MatchBool, nat_eq, inl, inr, List, [], ◌∷◌, ◌++◌, length, Option, Some, None, refl, ap, ◌∙◌, sym, subst, arith}
use Rattle.std.specs.Str.{IsUtf8, chars, encode_utf8_all}
use Rattle.std.proofs.Math.Logic.{∥∥₁_elim}
use Rattle.std.proofs.Props.{props}
use Rattle.std.proofs.lemmas.List.{append-nil, append_cancel_right}
use Rattle.std.proofs.lemmas.Option.{same_Some}
use Rattle.std.proofs.lemmas.Str.{encodes-chars}
use Rattle.text_cut.specs.Runs.{starts, front, behind, size, AllPass}
use Rattle.text_cut.specs.Place.{Place, place, past, Took}
use Rattle.text_cut.proofs.OptionLaws.{none_some}
use Rattle.text_cut.proofs.Rules.{took_same}
use Rattle.text_cut.proofs.Runs.{front_behind, front_is}
use Rattle.text_cut.proofs.Sizes.{size_bytes}
use Rattle.syn_trees.specs.StringToken.{Quoting, Plain, Raw, IsQuoted, IsStringToken}
use Rattle.syn_trees.specs.Escape.{HasUnits, meant_of}
use Rattle.syn_trees.specs.Literal.{IsLiteral, ValueOf, HasValue, HasNoValue, opening, IsUnescaped}
use Rattle.syn_trees.specs.ReadString.{Found, closing, marks_of, token_at, token_end, PartsOf}
use Rattle.syn_trees.proofs.Tokens.{found_from, parts_found, token_found, TokenIs, token_is, PartsAre, parts_are}

-- a token that is a whole text is found, and nothing is left
whole_found : (token : List ℕ) → IsStringToken token → token_end (place 0 token) ≡ Some (place (0 + size token) [])
whole_found token is = ap (λ l. token_end (place 0 l)) (sym (append-nil token)) ∙ token_found token [] 0 is

-- bytes in front of which no token is found are no literal
pub no_token : (bytes : List ℕ) → None ≡ token_end (place 0 (chars bytes)) → IsLiteral bytes → ⊥
no_token bytes none literal = none_some _ (none ∙ whole_found (chars bytes) literal.is)

-- nor are bytes behind whose token something is left
pub no_whole_token : (bytes : List ℕ) (e : Place) → Some e ≡ token_end (place 0 (chars bytes)) → 0 < length e.left → IsLiteral bytes → ⊥
no_whole_token bytes e found more literal =
    let same : e ≡ place (0 + size (chars bytes)) [] = same_Some _ _ (found ∙ whole_found (chars bytes) literal.is) in
    omega (arith, more, ap (λ p. length p.left) same)

-- bytes behind whose token nothing is left are a string token
pub is_token : (bytes : List ℕ) (e : Place) → Some e ≡ token_end (place 0 (chars bytes)) → e.left ≡ [] → IsStringToken (chars bytes)
is_token bytes e found none =
    let is : TokenIs (place 0 (chars bytes)) e = token_is (place 0 (chars bytes)) e (sym found) in
    subst (λ l. IsStringToken l) (sym (is.took.there ∙ (ap (λ l. is.token ++ l) none ∙ append-nil is.token))) is.is

-- the parts of a whole token
pub whole_parts : (token inside : List ℕ) (quoting : Quoting) → IsQuoted quoting token inside → token_at (place 0 token) ≡ Some (found_from quoting (0 + opening quoting) inside [])
whole_parts token inside quoting is = ap (λ l. token_at (place 0 l)) (sym (append-nil token)) ∙ parts_found quoting token inside [] 0 is

-- a literal is found
pub literal_found : (bytes : List ℕ) → IsLiteral bytes → token_at (place 0 (chars bytes)) ≡ None → ⊥
literal_found bytes literal none = none_some _ (sym none ∙ whole_parts (chars bytes) literal.is.inside literal.is.quoting literal.is.quoted)

no_start : (n : ℕ) → 0 + n ≡ n
no_start n = omega arith

-- the parts of a literal are those that are found
pub literal_parts : (bytes : List ℕ) (found : Found) → IsLiteral bytes → Some found ≡ token_at (place 0 (chars bytes)) → PartsOf bytes found
literal_parts bytes found literal there =
    let is = literal.is in
    let same : found_from is.quoting (0 + opening is.quoting) is.inside [] ≡ found = same_Some _ _ (sym (there ∙ whole_parts (chars bytes) is.inside is.quoting is.quoted)) in
    subst (λ f. PartsOf bytes f) same (record {
      quoting = is.quoting;
      inside = is.inside;
      quoted = is.quoted;
      marks = refl;
      starts = no_start (opening is.quoting);
      ends = ap (λ n. n + size is.inside) (no_start (opening is.quoting));
      between = record { there = refl; ends = refl };
    })

-- two ways in which a token is quoted are one
pub record SameParts (quoting other : Quoting) (inside more : List ℕ) : Type 0 where
  pub quotings : quoting ≡ other
  pub insides : inside ≡ more

same_quoting : (quoting other : Quoting) → marks_of quoting ≡ marks_of other → quoting ≡ other
same_quoting Plain Plain same = refl
same_quoting Plain (Raw marks) same = absurd (none_some marks same)
same_quoting (Raw marks) Plain same = absurd (none_some marks (sym same))
same_quoting (Raw marks) (Raw others) same = ap (λ n. Raw n) (same_Some _ _ same)

pub one_quoting : (token inside more : List ℕ) (quoting other : Quoting) → IsQuoted quoting token inside → IsQuoted other token more → SameParts quoting other inside more
one_quoting token inside more quoting other is also =
    let same : found_from quoting (0 + opening quoting) inside [] ≡ found_from other (0 + opening other) more [] =
    same_Some _ _ (sym (whole_parts token inside quoting is) ∙ whole_parts token more other also) in
    let last : closing quoting ++ [] ≡ closing other ++ [] = ap (λ f. f.to.left) same in
    record {
      quotings = same_quoting quoting other (ap (λ f. f.marks) same);
      insides = append_cancel_right inside more (closing other ++ []) (ap (λ l. inside ++ l) (sym last) ∙ ap (λ f. f.from.left) same);
    }

-- the text between the quotes of a literal
pub between_is : (token text : List ℕ) (found : Found) → (parts : PartsOf token found) → Took found.from found.to (chars text) → parts.inside ≡ chars text
between_is token text found parts took = took_same found.from found.to parts.inside (chars text) parts.between took

-- a raw token's value is what stands between its quotes
pub raw_value : (token text : List ℕ) (found : Found) (marks : ℕ) → IsUtf8 text → PartsOf token found → found.marks ≡ Some marks → Took found.from found.to (chars text) → HasValue token text
raw_value token text found marks utf8 parts raw took = by_quoting parts.quoting parts.quoted (sym parts.marks ∙ raw)
  where
    same : text ≡ encode_utf8_all parts.inside
    same = sym (ap (λ l. encode_utf8_all l) (between_is token text found parts took) ∙ encodes-chars text utf8)

    by_quoting : (quoting : Quoting) → IsQuoted quoting (chars token) parts.inside → marks_of quoting ≡ Some marks → HasValue token text
    by_quoting Plain is none = absurd (none_some marks none)
    by_quoting (Raw others) is there = record { quoting = Raw others; inside = parts.inside; quoted = is; is = same }

-- a plain token is quoted plainly
quoted_plain : (token : List ℕ) (found : Found) → (parts : PartsOf token found) → found.marks ≡ None → parts.quoting ≡ Plain
quoted_plain token found parts none = same_quoting parts.quoting Plain (sym parts.marks ∙ none)

-- a plain token's value is what its units mean
pub plain_value : (token text value : List ℕ) (found : Found) (units : List (Option ℕ)) → PartsOf token found → found.marks ≡ None → Took found.from found.to (chars text)
    → HasUnits (chars text) units → value ≡ encode_utf8_all (meant_of units) → HasValue token value
plain_value token text value found units parts plain took has is = record {
  quoting = Plain;
  inside = parts.inside;
  quoted = subst (λ q. IsQuoted q (chars token) parts.inside) (quoted_plain token found parts plain) parts.quoted;
  is = (units, subst (λ l. HasUnits l units) (sym (between_is token text found parts took)) has, is);
}

-- without units it has none
pub no_value : (token text : List ℕ) (found : Found) → PartsOf token found → found.marks ≡ None → Took found.from found.to (chars text)
    → ((units : List (Option ℕ)) → HasUnits (chars text) units → ⊥) → HasNoValue token
no_value token text found parts plain took none value has = by_quoting has.quoting has.quoted has.is
  where
    by_quoting : (quoting : Quoting) → IsQuoted quoting (chars token) has.inside → ValueOf quoting has.inside value → ⊥
    by_quoting Plain is of =
        let same : SameParts Plain parts.quoting has.inside parts.inside = one_quoting (chars token) has.inside parts.inside Plain parts.quoting is parts.quoted in
        none of.0 (subst (λ l. HasUnits l of.0) (same.insides ∙ between_is token text found parts took) of.1)
    by_quoting (Raw marks) is of =
        let same : SameParts (Raw marks) parts.quoting has.inside parts.inside = one_quoting (chars token) has.inside parts.inside (Raw marks) parts.quoting is parts.quoted in
        none_some marks (sym plain ∙ (parts.marks ∙ ap (λ q. marks_of q) (sym same.quotings)))

nothing_left : (p : ℕ → Bool) (cs : List ℕ) → behind p cs ≡ [] → AllPass p cs
nothing_left p cs none = subst (λ l. AllPass p l) (sym (front_behind p cs ∙ (ap (λ l. front p cs ++ l) none ∙ append-nil (front p cs)))) (front_is p cs).pass

all_passed : (p : ℕ → Bool) (cs : List ℕ) → AllPass p cs → behind p cs ≡ []
all_passed p [] are = refl
all_passed p (c ∷ cs) are = rw are.0 (all_passed p cs are.1)

-- bytes are a literal exactly where nothing is left behind their token
pub literal_by_end : (bytes : List ℕ) (e : Place) (ends : Bool) → Some e ≡ token_end (place 0 (chars bytes)) → MatchBool ends (e.left ≡ []) (0 < length e.left) → length bytes ≤ 4_294_967_295
    → (IsTrue ends → IsLiteral bytes) × (IsLiteral bytes → IsTrue ends)
literal_by_end bytes e true found none short = ((λ t. record { is = is_token bytes e found none; short = short }), λ literal. refl)
literal_by_end bytes e false found more short = ((λ t. absurd (cc)), λ literal. absurd (no_whole_token bytes e found more literal))

true_false : true ≡ false → ⊥
true_false e = cc

abbrev no_backslash : ℕ → Bool
no_backslash c = not (nat_eq c 92)

-- a token that does not begin with `r` is unescaped exactly where nothing is left behind the characters other than `\`
pub unescaped_by_end : (bytes : List ℕ) (here end : Place) (ends : Bool) → here ≡ place 0 (chars bytes) → end ≡ past (λ c. not (nat_eq c 92)) here → starts (λ c. nat_eq c 114) here.left ≡ false
    → MatchBool ends (end.left ≡ []) (0 < length end.left) → (IsTrue ends → IsUnescaped bytes) × (IsUnescaped bytes → IsTrue ends)
unescaped_by_end bytes here end ends begins passes other by = by_answer ends by
  where
    same : end.left ≡ behind no_backslash (chars bytes)
    same = ap (λ p. p.left) (passes ∙ ap (λ p. past no_backslash p) begins)

    letter : starts (λ c. nat_eq c 114) (chars bytes) ≡ false
    letter = ap (λ p. starts (λ c. nat_eq c 114) p.left) (sym begins) ∙ other

    still : 0 < length end.left → IsUnescaped bytes → ⊥
    still more (inl raw) = absurd (true_false (sym raw ∙ letter))
    still more (inr pass) = omega (arith, more, ap length same, ap length (all_passed no_backslash (chars bytes) pass))

    by_answer : (ends : Bool) → MatchBool ends (end.left ≡ []) (0 < length end.left) → (IsTrue ends → IsUnescaped bytes) × (IsUnescaped bytes → IsTrue ends)
    by_answer true none = ((λ t. inr (nothing_left no_backslash (chars bytes) (sym same ∙ none))), λ is. refl)
    by_answer false more = ((λ t. absurd (true_false (sym t))), λ is. absurd (still more is))

-- the bytes of a text between two places
pub between_size : (here end : Place) (text : List ℕ) → IsUtf8 text → Took here end (chars text) → length text ≤ end.at
between_size here end text utf8 took = omega (arith, took.ends, size_bytes (chars text), ap length (encodes-chars text utf8))

-- the text of a token that is found is a literal
pub token_literal : (p : Place) (found : Found) (text : List ℕ) → IsUtf8 text → Some found ≡ token_at p → Took p found.end (chars text) → found.end.at ≤ 4_294_967_295 → IsLiteral text
token_literal p found text utf8 there took small =
    let parts : PartsAre p found = parts_are p found (sym there) in
    record {
      is = subst (λ l. IsStringToken l) (took_same p found.end parts.token (chars text) parts.took took) (record { quoting = parts.quoting; inside = parts.inside; quoted = parts.quoted });
      short = omega (arith, between_size p found.end text utf8 took, small);
    }

-- bytes that are known to be a literal are one
pub literal_known : (bytes : List ℕ) → ∥ IsLiteral bytes ∥₁ → IsLiteral bytes
literal_known bytes known =
    let found : Some (place (0 + size (chars bytes)) []) ≡ token_end (place 0 (chars bytes)) = ∥∥₁_elim known (hlevel props) (λ literal. sym (whole_found (chars bytes) literal.is)) in
    let short : length bytes ≤ 4_294_967_295 = ∥∥₁_elim known (hlevel props) (λ literal. literal.short) in
    record { is = is_token bytes (place (0 + size (chars bytes)) []) found refl; short = short }
