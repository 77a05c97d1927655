-- The value of a token is what is read of it, and a token has at most one.
use Rattle.std.proofs.Common.{◌≡◌, ℕ, ◌+◌, ◌-◌, true, List, [], ◌∷◌, ◌++◌, length, take, Option, Some, None, refl, ap, ◌∙◌, sym, subst, length-append, arith}
use Rattle.std.specs.Option.{option_map, option_and_then}
use Rattle.std.specs.Str.{chars, encode_utf8_all}
use Rattle.std.proofs.lemmas.List.{append-nil, take_at}
use Rattle.std.proofs.lemmas.Option.{option_and_then_some, same_Some}
use Rattle.text_cut.specs.Place.{Place, place, Took}
use Rattle.text_cut.specs.Whole.{read_whole}
use Rattle.text_cut.proofs.OptionLaws.{mapped, chosen, none_some}
use Rattle.syn_trees.specs.StringToken.{Quoting, Plain, Raw, IsQuoted}
use Rattle.syn_trees.specs.Escape.{meant_of}
use Rattle.syn_trees.specs.Literal.{ValueOf, HasValue, HasNoValue, opening}
use Rattle.syn_trees.specs.ReadString.{marks_of, token_at, between, unit_at, value_in, ends_there, whole_value, value_of}
use Rattle.syn_trees.proofs.Tokens.{found_from, PartsAre, parts_are}
use Rattle.syn_trees.proofs.Literals.{whole_parts}
use Rattle.syn_trees.proofs.Units.{read_units, units_are}

-- what stands between two places
pub between_took : (from to : Place) (text : List ℕ) → Took from to text → between from to ≡ text
between_took from to text took =
    let count : length text ≡ length from.left - length to.left = omega (arith, ap length took.there, length-append text to.left) in
    ap (λ l. take (length from.left - length to.left) l) took.there ∙ take_at text to.left (length from.left - length to.left) count

value_in_found : (quoting : Quoting) (inside value : List ℕ) → ValueOf quoting inside value → value_in (marks_of quoting) inside ≡ Some value
value_in_found Plain inside value is =
    ap (λ o. option_map (λ units. encode_utf8_all (meant_of units)) o) (read_units inside is.0 is.1) ∙ ap (λ l. Some l) (sym is.2)
value_in_found (Raw marks) inside value is = ap (λ l. Some l) (sym is)

-- a token's value is read
pub value_found : (token value : List ℕ) → HasValue token value → value_of token ≡ Some value
value_found token value has =
    let from = found_from has.quoting (0 + opening has.quoting) has.inside [] in
    ap (λ o. option_and_then whole_value o) (whole_parts (chars token) has.inside has.quoting has.quoted)
    ∙ (ap (λ l. value_in (marks_of has.quoting) l) (between_took from.from from.to has.inside (record { there = refl; ends = refl }))
    ∙ value_in_found has.quoting has.inside value has.is)

value_in_is : (quoting : Quoting) (inside value : List ℕ) → value_in (marks_of quoting) inside ≡ Some value → ValueOf quoting inside value
value_in_is (Raw marks) inside value found = sym (same_Some _ _ found)
value_in_is Plain inside value found = mapped (λ units. encode_utf8_all (meant_of units)) (read_whole unit_at inside) value found
    (λ units read same. (units, units_are inside units read, sym same))

ends_empty : (left : List ℕ) → ends_there left ≡ true → left ≡ []
ends_empty [] ends = refl
ends_empty (c ∷ left) ends = absurd (cc)

-- what is read is the token's value
pub value_is : (token value : List ℕ) → value_of token ≡ Some value → HasValue token value
value_is token value read = option_and_then_some whole_value (token_at (place 0 (chars token))) value read
    (λ found there whole. chosen (ends_there found.end.left) (value_in found.marks (between found.from found.to)) None (Some value) whole
    (λ ends is.
    let parts : PartsAre (place 0 (chars token)) found = parts_are (place 0 (chars token)) found there in
    let same : chars token ≡ parts.token = parts.took.there ∙ (ap (λ l. parts.token ++ l) (ends_empty found.end.left ends) ∙ append-nil parts.token) in
    record {
      quoting = parts.quoting;
      inside = parts.inside;
      quoted = subst (λ l. IsQuoted parts.quoting l parts.inside) (sym same) parts.quoted;
      is = value_in_is parts.quoting parts.inside value
          (ap (λ m. value_in m parts.inside) (sym parts.marks) ∙ (ap (λ l. value_in found.marks l) (sym (between_took found.from found.to parts.inside parts.between)) ∙ is));
    })
    (λ more none. absurd (none_some value none)))

-- of a token without a value nothing is read
pub value_none : (token : List ℕ) → HasNoValue token → value_of token ≡ None
value_none token none = by_value (value_of token) refl
  where
    by_value : (o : Option (List ℕ)) → value_of token ≡ o → o ≡ None
    by_value None e = refl
    by_value (Some value) e = absurd (none value (value_is token value e))

-- a token has at most one value
pub one_value : (token value other : List ℕ) → HasValue token value → HasValue token other → value ≡ other
one_value token value other is also = same_Some _ _ (sym (value_found token value is) ∙ value_found token other also)
