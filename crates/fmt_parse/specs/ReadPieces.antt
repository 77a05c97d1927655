-- The pieces of a text, as functions of a place.
use Rattle.std.specs.Prelude.{ℕ, Bool, Option, Some, None, if◌then◌else◌, option_map}
use Rattle.std.specs.Option.{option_and_then}
use Rattle.std.specs.Char.{is_ascii_digit, is_whitespace}
use Rattle.text_cut.specs.Runs.{starts, tail}
use Rattle.text_cut.specs.Place.{Place, first, past}
use Rattle.text_cut.specs.Rules.{both_at}
use Rattle.fmt_parse.specs.declared.piece.Position.TheVariants as position
use Rattle.fmt_parse.specs.declared.piece.Piece.{Piece}
use Rattle.fmt_parse.specs.declared.piece.Piece.TheVariants.{Lit, NextArgument}
use Rattle.fmt_parse.specs.Tokens.{starts_name, is_open, is_close}
use Rattle.fmt_parse.specs.ReadTokens.{between, int_at, name_at}
use Rattle.fmt_parse.specs.Spec.{SpecParts}
use Rattle.fmt_parse.specs.ReadSpec.{format_at}
use Rattle.fmt_parse.specs.Pieces.{Written, Inner, placeholder, is_plain}

-- the number of an argument that stands here
unfoldable pub number_arg_at : Place → Option (Written × Place)
number_arg_at p = option_map (λ (r : ℕ × Place). ((Some (position.Is r.0), between p r.1), r.1)) (int_at p)

-- the name of an argument that stands here
unfoldable pub name_arg_at : Place → Option (Written × Place)
name_arg_at p = option_map (λ (e : Place). ((Some (position.Named (between p e)), between p e), e)) (name_at p)

-- the argument that is named here, or none
unfoldable pub arg_at : Place → Option (Written × Place)
arg_at p = if starts is_ascii_digit p.left then number_arg_at p else (if starts_name p.left then name_arg_at p else Some ((None, between p p), p))

-- the closing brace that stands here
abbrev pub closing_brace : Place → Option (Unit {0} × Place)
closing_brace e = if starts is_close e.left then option_map (λ (r : ℕ × Place). (tt, r.1)) (first e) else None

-- the white space and the closing brace that stand here
unfoldable pub end_at : Place → Option (Unit {0} × Place)
end_at p = closing_brace (past is_whitespace p)

-- what stands behind an opening brace, where this reads the options
abbrev pub inner_at : (Place → Option (SpecParts × Place)) → Place → Option (Inner × Place)
inner_at options = both_at arg_at (both_at options end_at)

-- the placeholder whose opening brace is at p
abbrev pub made : ℕ → Place → Inner × Place → Piece × Place
made number p r = (NextArgument (placeholder number (between p r.1) r.0), r.1)

abbrev pub behind_brace : (Place → Option (SpecParts × Place)) → ℕ → Place → ℕ × Place → Option (Piece × Place)
behind_brace options number p r = option_map (made number p) (inner_at options r.1)

unfoldable pub placeholder_at : (Place → Option (SpecParts × Place)) → ℕ → Place → Option (Piece × Place)
placeholder_at options number p = option_and_then (behind_brace options number p) (first p)

-- the doubled brace that stands here, if the second brace is there
abbrev pub second_brace : Place → ℕ × Place → Option (Piece × Place)
second_brace p r = option_map (λ (s : ℕ × Place). (Lit (between p r.1), s.1)) (first r.1)

unfoldable pub doubled_at : Place → Option (Piece × Place)
doubled_at p = option_and_then (second_brace p) (first p)

-- the characters other than braces that stand here
abbrev pub plain_text_at : Place → Piece × Place
plain_text_at p = (Lit (between p (past is_plain p)), past is_plain p)

-- what is behind the first of the characters
abbrev pub tail_starts : (ℕ → Bool) → Place → Bool
tail_starts test p = starts test (tail p.left)

-- the piece that stands here, where this reads the options, and the next argument has this number
unfoldable pub piece_at : (Place → Option (SpecParts × Place)) → ℕ → Place → Option (Piece × Place)
piece_at options number p = if starts is_plain p.left then Some (plain_text_at p)
    else (if starts is_open p.left then (if tail_starts is_open p then doubled_at p else placeholder_at options number p)
    else (if tail_starts is_close p then doubled_at p else None))

-- the piece of a format text that stands here
abbrev pub format_piece_at : ℕ → Place → Option (Piece × Place)
format_piece_at number = piece_at (format_at number) number
