-- How long a value is, and where it stands: an escape takes no fewer bytes than the character that it stands for.
use Rattle.std.proofs.Common.{◌≡◌, ℕ, ◌+◌, ◌≤◌, ◌<◌, true, nat_eq, List, [], ◌∷◌, ◌++◌, length, replicate, Option, Some, None, refl, ap, ◌∙◌, sym, subst, append_assoc, arith}
use Rattle.std.specs.Char.{len_utf8}
use Rattle.std.specs.Str.{IsUtf8, chars}
use Rattle.std.proofs.lemmas.Str.{len_utf8_bounds}
use Rattle.std.proofs.lemmas.Option.{same_Some}
use Rattle.text_cut.specs.Runs.{starts, size}
use Rattle.text_cut.specs.Reading.{Spelled, texts, items, AreSpelled}
use Rattle.text_cut.specs.Part.{IsPart}
use Rattle.text_cut.proofs.OptionLaws.{chosen, none_some}
use Rattle.text_cut.proofs.Sizes.{size_append, size_bytes}
use Rattle.text_cut.proofs.Parts.{chars_size, part_behind}
use Rattle.syn_trees.specs.StringToken.{Quoting, Plain, Raw, raw_end, IsQuoted}
use Rattle.syn_trees.specs.Escape.{is_hex, letter, IsUnit, self, by_letter, ascii, unicode, continuation, unit_rule, HasUnits, meant_of}
use Rattle.syn_trees.specs.Literal.{ValueOf, HasValue, IsBetweenQuotes, FitsBetweenQuotes, opening}
use Rattle.syn_trees.specs.ReadString.{closing}
use Rattle.syn_trees.specs.Laws.{ValuesFit}
use Rattle.syn_trees.proofs.RawStarts.{marks_size}
use Rattle.syn_trees.proofs.Tokens.{quoted_size}
use Rattle.syn_trees.proofs.Literals.{SameParts, one_quoting}

-- the character of a letter behind `\` takes one byte
letter_size : (e c : ℕ) → letter e ≡ Some c → len_utf8 c ≤ 1
letter_size e c stands = chosen (nat_eq e 110) _ _ _ stands (λ is same. one 10 (omega arith) same)
    (λ other more. chosen (nat_eq e 114) _ _ _ more (λ is same. one 13 (omega arith) same)
    (λ other more. chosen (nat_eq e 116) _ _ _ more (λ is same. one 9 (omega arith) same)
    (λ other more. chosen (nat_eq e 92) _ _ _ more (λ is same. one 92 (omega arith) same)
    (λ other more. chosen (nat_eq e 48) _ _ _ more (λ is same. one 0 (omega arith) same)
    (λ other more. chosen (nat_eq e 39) _ _ _ more (λ is same. one 39 (omega arith) same)
    (λ other more. chosen (nat_eq e 34) _ _ _ more (λ is same. one 34 (omega arith) same)
    (λ other none. absurd (none_some c none))))))))
  where
    one : (d : ℕ) → len_utf8 d ≤ 1 → Some d ≡ Some c → len_utf8 c ≤ 1
    one d short same = subst (λ x. len_utf8 x ≤ 1) (same_Some _ _ same) short

-- the bytes of what a unit means
abbrev meant_size : Option ℕ → ℕ
meant_size None = 0
meant_size (Some c) = len_utf8 c

few_bytes : (meant : Option ℕ) → meant_size meant ≤ 4
few_bytes None = omega arith
few_bytes (Some c) = omega (arith, len_utf8_bounds c)

-- a unit's meaning takes no more bytes than the unit
unit_size : (text : List ℕ) (meant : Option ℕ) (rest : List ℕ) → IsUnit text meant rest → meant_size meant ≤ size text
unit_size text meant rest (self is) = omega (arith, ap size is.whole, ap meant_size is.value)
unit_size text meant rest (by_letter is) = omega (arith, ap size is.whole, ap meant_size is.value, letter_size is.e is.c is.stands)
unit_size text meant rest (ascii is) = omega (arith, ap size is.whole, few_bytes meant, len_utf8_bounds is.high, len_utf8_bounds is.low)
unit_size text meant rest (unicode is) = omega (arith, ap size is.whole, few_bytes meant, size_append is.digits (125 ∷ []), some_digit is.digits is.begins)
  where
    some_digit : (digits : List ℕ) → starts is_hex digits ≡ true → 1 ≤ size digits
    some_digit [] begins = absurd (cc)
    some_digit (c ∷ digits) begins = omega (arith, len_utf8_bounds c)
unit_size text meant rest (continuation is) = omega (arith, ap meant_size is.value)

-- one more unit
more_size : (meant : Option ℕ) (units : List (Option ℕ)) → size (meant_of (meant ∷ units)) ≡ meant_size meant + size (meant_of units)
more_size None units = omega arith
more_size (Some c) units = refl

-- what units mean takes no more bytes than the units
spelled_size : (front ss : List (Spelled (Option ℕ))) (rest : List ℕ) → AreSpelled unit_rule front ss rest → size (meant_of (items ss)) ≤ size (texts ss)
spelled_size front [] rest are = omega arith
spelled_size front (s ∷ ss) rest are =
    omega (arith, more_size s.item (items ss), unit_size s.text s.item (texts ss ++ rest) are.0, size_append s.text (texts ss), spelled_size (front ++ s ∷ []) ss rest are.1)

units_size : (inside : List ℕ) (units : List (Option ℕ)) → HasUnits inside units → size (meant_of units) ≤ size inside
units_size inside units has =
    omega (arith, ap (λ l. size (meant_of l)) has.are, spelled_size [] has.pieces [] has.reading.are, ap size has.reading.there, size_append (texts has.pieces) [])

-- quotes take bytes
opens : (quoting : Quoting) → 1 ≤ opening quoting
opens Plain = omega arith
opens (Raw marks) = omega arith

closes : (quoting : Quoting) → 1 ≤ size (closing quoting)
closes Plain = omega arith
closes (Raw marks) = omega arith

-- a value takes no more bytes than what stands between the quotes
inside_size : (quoting : Quoting) (inside value : List ℕ) → ValueOf quoting inside value → length value ≤ size inside
inside_size Plain inside value is = omega (arith, ap length is.2, size_bytes (meant_of is.0), units_size inside is.0 is.1)
inside_size (Raw marks) inside value is = omega (arith, ap length is, size_bytes inside)

pub value_between : (token value : List ℕ) → HasValue token value → FitsBetweenQuotes token value
value_between token value has start end is =
    let same : SameParts has.quoting is.quoting has.inside is.inside = one_quoting (chars token) has.inside is.inside has.quoting is.quoting has.quoted is.quoted in
    omega (arith, inside_size has.quoting has.inside value has.is, ap size same.insides, is.ends)

-- no value is longer than its token without a quote at each end
pub value_short : (token value : List ℕ) → IsUtf8 token → HasValue token value → length value + 2 ≤ length token
value_short token value utf8 has =
    omega (arith, inside_size has.quoting has.inside value has.is, chars_size token utf8, quoted_size has.quoting (chars token) has.inside has.quoted, opens has.quoting, closes has.quoting)

-- the characters in front of those between the quotes
pub record Opened (quoting : Quoting) (token inside : List ℕ) : Type 0 where
  pub front : List ℕ
  pub whole : token ≡ front ++ (inside ++ closing quoting)
  pub opens : size front ≡ opening quoting

pub opened : (quoting : Quoting) (token inside : List ℕ) → IsQuoted quoting token inside → Opened quoting token inside
opened Plain token inside is = record { front = 34 ∷ []; whole = is.whole; opens = refl }
opened (Raw marks) token inside is = record {
  front = 114 ∷ (replicate marks 35 ++ 34 ∷ []);
  whole = is.whole ∙ ap (λ l. 114 ∷ l) (sym (append_assoc (replicate marks 35) (34 ∷ []) (inside ++ raw_end marks)));
  opens = omega (arith, size_append (replicate marks 35) (34 ∷ []), marks_size marks);
}

-- what stands between the quotes is a part of the token
pub between_part : (token : List ℕ) (start end : ℕ) → IsUtf8 token → IsBetweenQuotes token start end → IsPart token start end
between_part token start end utf8 is =
    let of : Opened is.quoting (chars token) is.inside = opened is.quoting (chars token) is.inside is.quoted in
    let there : start ≡ size of.front = is.starts ∙ sym of.opens in
    subst (λ n. IsPart token start n) (sym (is.ends ∙ ap (λ n. n + size is.inside) there))
    (subst (λ n. IsPart token n (size of.front + size is.inside)) (sym there) (part_behind token of.front is.inside (closing is.quoting) utf8 of.whole))

pub between_ends : (token : List ℕ) (start end : ℕ) → IsUtf8 token → IsBetweenQuotes token start end → end < length token
between_ends token start end utf8 is =
    omega (arith, is.starts, is.ends, chars_size token utf8, quoted_size is.quoting (chars token) is.inside is.quoted, closes is.quoting)

pub values_fit : ValuesFit
values_fit = record {
  part = λ token start end utf8 is. (between_part token start end utf8 is, between_ends token start end utf8 is);
  between = value_between;
  short = value_short;
}
