-- What stands behind the argument of a placeholder of inline assembly, and its pieces, as functions of a place.
use Rattle.std.specs.Prelude.{ℕ, Option, Some, if◌then◌else◌, option_map}
use Rattle.std.specs.Option.{option_and_then}
use Rattle.text_cut.specs.Runs.{starts}
use Rattle.text_cut.specs.Place.{Place, first}
use Rattle.fmt_parse.specs.declared.piece.Piece.{Piece}
use Rattle.fmt_parse.specs.Tokens.{starts_name, is_colon}
use Rattle.fmt_parse.specs.Spec.{SpecParts, typed_parts, plain_parts}
use Rattle.fmt_parse.specs.ReadTokens.{between, name_at}
use Rattle.fmt_parse.specs.ReadPieces.{piece_at}

-- the name that is the type, from one place to another
abbrev pub named_type : Place → Place → SpecParts × Place
named_type p e = (typed_parts (between p e), e)

-- the modifier that stands here, or none
unfoldable pub modifier_at : Place → Option (SpecParts × Place)
modifier_at p = if starts_name p.left then option_map (named_type p) (name_at p) else Some (plain_parts p.at, p)

abbrev pub behind_asm_colon : ℕ × Place → Option (SpecParts × Place)
behind_asm_colon r = modifier_at r.1

-- a colon with the modifier behind it, or no colon
unfoldable pub modified_at : Place → Option (SpecParts × Place)
modified_at p = if starts is_colon p.left then option_and_then behind_asm_colon (first p) else Some (plain_parts p.at, p)

-- the piece of a template that stands here, where the counter is at this number
abbrev pub asm_piece_at : ℕ → Place → Option (Piece × Place)
asm_piece_at number = piece_at modified_at number
