-- The references of a format text, placeholder by placeholder: of each the value, then the precision, then the width.
use Rattle.std.specs.Prelude.{ℕ, ◌+◌, List, [], ◌∷◌, ◌++◌, slice_range, Option, Some, None, option_map}
use Rattle.either.specs.declared.Either.{Either}
use Rattle.either.specs.declared.Either.TheVariants.{Left, Right}
use Rattle.sym_core.specs.declared.name.Name.{Name}
use Rattle.sym_core.specs.declared.name.Name.TheVariants.{Text}
use Rattle.sym_core.specs.declared.text_range.TextRange.{TextRange}
use Rattle.fmt_parse.specs.declared.piece.Position.{Position}
use Rattle.fmt_parse.specs.declared.piece.Position.TheVariants as position
use Rattle.fmt_parse.specs.declared.piece.Count.{Count}
use Rattle.fmt_parse.specs.declared.piece.Count.TheVariants as count
use Rattle.fmt_parse.specs.declared.piece.Argument.{Argument}
use Rattle.fmt_parse.specs.declared.piece.Piece.{Piece}
use Rattle.fmt_parse.specs.declared.piece.Piece.TheVariants.{Lit, NextArgument}
use Rattle.hir_fmt.specs.declared.format_args.FormatArgPositionKind.TheVariants.{Implicit, Number, Named}
use Rattle.hir_fmt.specs.declared.reference.Reference.{Reference}

-- a format text, and by how much its ranges are shifted to be spans of its token; none where spans are not given
pub record Source : Type 0 where
  pub text : List ℕ
  pub shift : Option ℕ

-- a range that begins so many bytes further on
abbrev pub shifted : TextRange → ℕ → TextRange
shifted r by = record { start = r.start + by; end = r.end + by }

-- the span of a range of the text
abbrev pub span_in : Source → TextRange → Option TextRange
span_in source r = option_map (shifted r) source.shift

-- the span of a range that may be there
abbrev pub span_if : Source → Option TextRange → Option TextRange
span_if source None = None
span_if source (Some r) = span_in source r

-- the text in a range
abbrev pub text_in : Source → TextRange → List ℕ
text_in source r = slice_range source.text r.start r.end

-- the name in a range
abbrev pub name_in : Source → TextRange → Name
name_in source r = Text (text_in source r)

-- the reference that is the value of a placeholder
abbrev pub of_position : Source → Position → Option TextRange → Reference
of_position source (position.ImplicitlyIs n) span = record { wanted = Left n; kind = Implicit; span = span }
of_position source (position.Is n) span = record { wanted = Left n; kind = Number; span = span }
of_position source (position.Named r) span = record { wanted = Right (name_in source r); kind = Named; span = span }

abbrev pub value_of : Source → Argument → Reference
value_of source a = of_position source a.position (span_in source a.position_span)

-- a width or a precision: none, a number, or a reference
abbrev pub Counted : Type 0
Counted = Option (Either ℕ Reference)

abbrev pub of_count : Source → Count → Option TextRange → Counted
of_count source (count.Is n) span = Some (Left n)
of_count source (count.IsName r) span = Some (Right (record { wanted = Right (name_in source r); kind = Named; span = span }))
of_count source (count.IsParam n) span = Some (Right (record { wanted = Left n; kind = Number; span = span }))
of_count source (count.IsStar n) span = Some (Right (record { wanted = Left n; kind = Implicit; span = span }))
of_count source count.Implied span = None

abbrev pub precision_of : Source → Argument → Counted
precision_of source a = of_count source a.format.precision (span_if source a.format.precision_span)

abbrev pub width_of : Source → Argument → Counted
width_of source a = of_count source a.format.width (span_if source a.format.width_span)

-- the reference that a width or a precision is, if it is one
abbrev pub asked : Counted → List Reference
asked None = []
asked (Some (Left n)) = []
asked (Some (Right reference)) = reference ∷ []

-- the references of a placeholder
abbrev pub references_in : Source → Argument → List Reference
references_in source a = value_of source a ∷ (asked (precision_of source a) ++ asked (width_of source a))

-- the references of a text of these pieces
abbrev pub references_of : Source → List Piece → List Reference
references_of source [] = []
references_of source (Lit r ∷ pieces) = references_of source pieces
references_of source (NextArgument a ∷ pieces) = references_in source a ++ references_of source pieces
