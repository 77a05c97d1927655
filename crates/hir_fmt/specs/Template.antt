-- The template of a format text: its literals, neighbours merged, and its placeholders, with what their references refer to.
use Rattle.std.specs.Prelude.{ℕ, ◌==◌, List, [], ◌∷◌, ◌++◌, if◌then◌else◌, Option, Some, None, option_map, Ok, Err}
use Rattle.std.specs.declared.result.Result.{Result}
use Rattle.either.specs.declared.Either.{Either}
use Rattle.either.specs.declared.Either.TheVariants.{Left, Right}
use Rattle.sym_core.specs.declared.name.Name.{Name}
use Rattle.fmt_parse.specs.declared.piece.Argument.{Argument}
use Rattle.fmt_parse.specs.declared.piece.Alignment.{Alignment}
use Rattle.fmt_parse.specs.declared.piece.Alignment.TheVariants as align
use Rattle.fmt_parse.specs.declared.piece.Sign.{Sign}
use Rattle.fmt_parse.specs.declared.piece.Sign.TheVariants as sign
use Rattle.fmt_parse.specs.declared.piece.DebugHex.{DebugHex}
use Rattle.fmt_parse.specs.declared.piece.DebugHex.TheVariants as hex
use Rattle.fmt_parse.specs.declared.piece.Piece.{Piece}
use Rattle.fmt_parse.specs.declared.piece.Piece.TheVariants.{Lit, NextArgument}
use Rattle.hir_fmt.specs.declared.format_args.FormatTrait.{FormatTrait}
use Rattle.hir_fmt.specs.declared.format_args.FormatTrait.TheVariants as trait
use Rattle.hir_fmt.specs.declared.format_args.FormatSign.{FormatSign}
use Rattle.hir_fmt.specs.declared.format_args.FormatSign.TheVariants.{Plus, Minus}
use Rattle.hir_fmt.specs.declared.format_args.FormatDebugHex.{FormatDebugHex}
use Rattle.hir_fmt.specs.declared.format_args.FormatDebugHex.TheVariants.{Lower, Upper}
use Rattle.hir_fmt.specs.declared.format_args.FormatAlignment.{FormatAlignment}
use Rattle.hir_fmt.specs.declared.format_args.FormatAlignment.TheVariants as side
use Rattle.hir_fmt.specs.declared.format_args.FormatCount.{FormatCount}
use Rattle.hir_fmt.specs.declared.format_args.FormatCount.TheVariants as format_count
use Rattle.hir_fmt.specs.declared.format_args.FormatArgPosition.{FormatArgPosition}
use Rattle.hir_fmt.specs.declared.format_args.FormatOptions.{FormatOptions}
use Rattle.hir_fmt.specs.declared.format_args.FormatPlaceholder.{FormatPlaceholder}
use Rattle.hir_fmt.specs.declared.format_args.FormatArgsPiece.{FormatArgsPiece}
use Rattle.hir_fmt.specs.declared.format_args.FormatArgsPiece.TheVariants.{Literal, Placeholder}
use Rattle.hir_fmt.specs.declared.reference.Reference.{Reference}
use Rattle.hir_fmt.specs.References.{Source, span_in, text_in, value_of, precision_of, width_of, Counted}

-- the trait of one letter
abbrev pub trait_of_letter : ℕ → FormatTrait
trait_of_letter c =
    if c == 63 then trait.Debug else
    if c == 101 then trait.LowerExp else
    if c == 69 then trait.UpperExp else
    if c == 111 then trait.Octal else
    if c == 112 then trait.Pointer else
    if c == 98 then trait.Binary else
    if c == 120 then trait.LowerHex else
    if c == 88 then trait.UpperHex else trait.Display

-- the trait of a type: `?`, one of the letters `eEopbxX`, or Display
abbrev pub trait_of : List ℕ → FormatTrait
trait_of [] = trait.Display
trait_of (c ∷ []) = trait_of_letter c
trait_of (c ∷ d ∷ cs) = trait.Display

abbrev pub alignment_of : Alignment → Option FormatAlignment
alignment_of align.Left = Some side.Left
alignment_of align.Right = Some side.Right
alignment_of align.Center = Some side.Center
alignment_of align.Unknown = None

abbrev pub sign_of : Sign → FormatSign
sign_of sign.Plus = Plus
sign_of sign.Minus = Minus

abbrev pub debug_hex_of : DebugHex → FormatDebugHex
debug_hex_of hex.Lower = Lower
debug_hex_of hex.Upper = Upper

-- the place that was found, or what was wanted
abbrev pub found_or : Either ℕ Name → Option ℕ → Result ℕ (Either ℕ Name)
found_or wanted None = Err wanted
found_or wanted (Some place) = Ok place

-- a reference with what it refers to
abbrev pub position_of : Reference → (Either ℕ Name → Option ℕ) → FormatArgPosition
position_of r find = record { index = found_or r.wanted (find r.wanted); kind = r.kind; span = r.span }

-- a width or a precision with what it refers to
abbrev pub count_of : Counted → (Either ℕ Name → Option ℕ) → Option FormatCount
count_of None find = None
count_of (Some (Left n)) find = Some (format_count.Literal n)
count_of (Some (Right r)) find = Some (format_count.Argument (position_of r find))

abbrev pub options_of : Source → Argument → (Either ℕ Name → Option ℕ) → FormatOptions
options_of source a find = record {
  width = count_of (width_of source a) find;
  precision = count_of (precision_of source a) find;
  alignment = alignment_of a.format.align;
  fill = a.format.fill;
  sign = option_map sign_of a.format.sign;
  alternate = a.format.alternate;
  zero_pad = a.format.zero_pad;
  debug_hex = option_map debug_hex_of a.format.debug_hex;
}

abbrev pub placeholder_of : Source → Argument → (Either ℕ Name → Option ℕ) → FormatPlaceholder
placeholder_of source a find = record {
  argument = position_of (value_of source a) find;
  span = span_in source a.span;
  format_trait = trait_of (text_in source a.format.ty);
  format_options = options_of source a find;
}

-- the literal of these bytes; none where there are none
abbrev pub literal_of : List ℕ → List FormatArgsPiece
literal_of [] = []
literal_of (c ∷ cs) = Literal (c ∷ cs) ∷ []

-- the template of the pieces behind a literal that was begun
abbrev pub template_from : Source → List ℕ → List Piece → (Either ℕ Name → Option ℕ) → List FormatArgsPiece
template_from source begun [] find = literal_of begun
template_from source begun (Lit r ∷ pieces) find = template_from source (begun ++ text_in source r) pieces find
template_from source begun (NextArgument a ∷ pieces) find = literal_of begun ++ Placeholder (placeholder_of source a find) ∷ template_from source [] pieces find

-- the template of these pieces
abbrev pub template_of : Source → List Piece → (Either ℕ Name → Option ℕ) → List FormatArgsPiece
template_of source = template_from source []

-- a template that is being made: its pieces, and the literal behind them that may go on
abbrev pub Begun : Type 0
Begun = List FormatArgsPiece × List ℕ

-- the template with one piece of the text more
abbrev pub piece_added : Source → Piece → List FormatArgsPiece × List ℕ → (Either ℕ Name → Option ℕ) → List FormatArgsPiece × List ℕ
piece_added source (Lit r) made find = (made.0, made.1 ++ text_in source r)
piece_added source (NextArgument a) made find = ((made.0 ++ literal_of made.1) ++ Placeholder (placeholder_of source a find) ∷ [], [])

abbrev pub pieces_added : Source → List Piece → List FormatArgsPiece × List ℕ → (Either ℕ Name → Option ℕ) → List FormatArgsPiece × List ℕ
pieces_added source [] made find = made
pieces_added source (piece ∷ pieces) made find = pieces_added source pieces (piece_added source piece made find) find
