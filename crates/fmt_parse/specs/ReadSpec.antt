-- What stands behind the colon, as functions of a place.
use Rattle.std.specs.Prelude.{ℕ, false, Option, Some, None, if◌then◌else◌, option_map}
use Rattle.std.specs.Option.{option_and_then}
use Rattle.std.specs.Char.{is_ascii_digit}
use Rattle.text_cut.specs.Runs.{starts, tail}
use Rattle.text_cut.specs.Place.{Place, first}
use Rattle.text_cut.specs.Rules.{both_at, one_at}
use Rattle.fmt_parse.specs.declared.piece.Alignment.{Alignment}
use Rattle.fmt_parse.specs.declared.piece.Alignment.TheVariants.{Unknown}
use Rattle.fmt_parse.specs.declared.piece.Count.TheVariants as count
use Rattle.fmt_parse.specs.Tokens.{starts_name, is_colon, is_dollar, is_dot, is_star, is_question, is_x, is_align}
use Rattle.fmt_parse.specs.Spec.{align_of, sign_test, sign_of, hash_test, zero_test, flag, Counted, no_count, starts_dollar_name, is_counted, hex_of, Typed, SpecParts, plain_parts}
use Rattle.fmt_parse.specs.ReadTokens.{between, int_at, name_at}

-- the fill that stands here, and behind it the alignment
abbrev pub filled_at : ℕ × Place → Option ((Option ℕ × Alignment) × Place)
filled_at r = option_map (λ (s : ℕ × Place). ((Some r.0, align_of s.0), s.1)) (first r.1)

-- the alignment that stands here, with its fill where it has one
unfoldable pub align_at : Place → Option ((Option ℕ × Alignment) × Place)
align_at p = if starts is_align (tail p.left) then option_and_then filled_at (first p)
    else (if starts is_align p.left then option_map (λ (r : ℕ × Place). ((None, align_of r.0), r.1)) (first p) else Some ((None, Unknown), p))

-- the number of a count, with a `$` behind it or without one
abbrev pub numbered : Place → ℕ × Place → Option (Counted × Place)
numbered p n = if starts is_dollar n.1.left then option_map (λ (d : ℕ × Place). ((count.IsParam n.0, Some (between p n.1)), d.1)) (first n.1)
    else Some ((count.Is n.0, Some (between p n.1)), n.1)

unfoldable pub number_count_at : Place → Option (Counted × Place)
number_count_at p = option_and_then (numbered p) (int_at p)

-- the name of a count, and the `$` behind it
abbrev pub dollar_behind : Place → Place → Option (Counted × Place)
dollar_behind p e = option_map (λ (d : ℕ × Place). ((count.IsName (between p e), Some (between p e)), d.1)) (first e)

unfoldable pub name_count_at : Place → Option (Counted × Place)
name_count_at p = option_and_then (dollar_behind p) (name_at p)

-- the count that stands here
unfoldable pub count_at : Place → Option (Counted × Place)
count_at p = if starts is_ascii_digit p.left then number_count_at p else (if starts_dollar_name p.left then name_count_at p else Some (no_count, p))

-- the star that stands here, which takes the argument of this number
abbrev pub starred : ℕ → Place → ℕ × Place → Counted × Place
starred number p r = ((count.IsStar number, Some (between p r.1)), r.1)

-- a count, where it is one
abbrev pub if_counted : Counted × Place → Option (Counted × Place)
if_counted r = if is_counted r.0.0 then Some r else None

-- what stands behind the dot
unfoldable pub precise_at : ℕ → Place → Option (Counted × Place)
precise_at number p = if starts is_star p.left then option_map (starred number p) (first p) else option_and_then if_counted (count_at p)

abbrev pub behind_dot : ℕ → ℕ × Place → Option (Counted × Place)
behind_dot number r = precise_at number r.1

-- the precision that stands here
unfoldable pub precision_at : ℕ → Place → Option (Counted × Place)
precision_at number p = if starts is_dot p.left then option_and_then (behind_dot number) (first p) else Some (no_count, p)

-- `?` as a type
abbrev pub question_at : Place → Option (Typed × Place)
question_at p = option_map (λ (r : ℕ × Place). ((None, between p r.1), r.1)) (first p)

-- a `?` behind `x` or `X`, or none
abbrev pub behind_hex : Place → ℕ × Place → Option (Typed × Place)
behind_hex p r = if starts is_question r.1.left then option_map (λ (s : ℕ × Place). ((Some (hex_of r.0), between r.1 s.1), s.1)) (first r.1)
    else Some ((None, between p r.1), r.1)

-- `x`, `X`, `x?` or `X?` as a type
unfoldable pub hex_at : Place → Option (Typed × Place)
hex_at p = option_and_then (behind_hex p) (first p)

-- a name as a type
unfoldable pub name_type_at : Place → Option (Typed × Place)
name_type_at p = option_map (λ (e : Place). ((None, between p e), e)) (name_at p)

-- the type that stands here
unfoldable pub type_at : Place → Option (Typed × Place)
type_at p = if starts is_question p.left then question_at p
    else (if starts is_x p.left then hex_at p
    else (if starts_name p.left then name_type_at p else Some ((None, between p p), p)))

-- all parts in their order
abbrev pub parts_at : ℕ → Place → Option (SpecParts × Place)
parts_at number = both_at align_at (both_at (one_at sign_test sign_of None) (both_at (one_at hash_test flag false) (both_at (one_at zero_test flag false) (both_at count_at (both_at (precision_at number) type_at)))))

abbrev pub behind_colon : ℕ → ℕ × Place → Option (SpecParts × Place)
behind_colon number r = parts_at number r.1

-- a colon with the parts behind it, or no colon
unfoldable pub format_at : ℕ → Place → Option (SpecParts × Place)
format_at number p = if starts is_colon p.left then option_and_then (behind_colon number) (first p) else Some (plain_parts p.at, p)
