-- Canonical pieces: what template bytes keep of a template. Its literals as single bytes, and each placeholder with the place of its argument
-- or none, its trait, its options, and its counts: none, a number, or an argument in its turn.
use Rattle.std.specs.Prelude.{ℕ, List, [], ◌∷◌, ◌++◌, map, Option, Some, None, option_map, unwrap_or, Ok, Err}
use Rattle.std.specs.declared.result.Result.{Result}
use Rattle.either.specs.declared.Either.{Either}
use Rattle.sym_core.specs.declared.name.Name.{Name}
use Rattle.code_meaning.specs.Write.{Trait, Display, Debug, LowerExp, UpperExp, Octal, Pointer, Binary, LowerHex, UpperHex, Alignment, Left, Right, Center, Sign, Plus, Minus, DebugHex, Lower, Upper, FormattingOptions, Count, NoCount, Is, Of, Asked, Write, Byte, Put}
use Rattle.hir_fmt.specs.declared.format_args.FormatTrait.{FormatTrait}
use Rattle.hir_fmt.specs.declared.format_args.FormatTrait.TheVariants as trait
use Rattle.hir_fmt.specs.declared.format_args.FormatSign.{FormatSign}
use Rattle.hir_fmt.specs.declared.format_args.FormatSign.TheVariants as sign
use Rattle.hir_fmt.specs.declared.format_args.FormatDebugHex.{FormatDebugHex}
use Rattle.hir_fmt.specs.declared.format_args.FormatDebugHex.TheVariants as hex
use Rattle.hir_fmt.specs.declared.format_args.FormatAlignment.{FormatAlignment}
use Rattle.hir_fmt.specs.declared.format_args.FormatAlignment.TheVariants as side
use Rattle.hir_fmt.specs.declared.format_args.FormatCount.{FormatCount}
use Rattle.hir_fmt.specs.declared.format_args.FormatCount.TheVariants as count
use Rattle.hir_fmt.specs.declared.format_args.FormatArgPosition.{FormatArgPosition}
use Rattle.hir_fmt.specs.declared.format_args.FormatOptions.{FormatOptions}
use Rattle.hir_fmt.specs.declared.format_args.FormatPlaceholder.{FormatPlaceholder}
use Rattle.hir_fmt.specs.declared.format_args.FormatArgsPiece.{FormatArgsPiece}
use Rattle.hir_fmt.specs.declared.format_args.FormatArgsPiece.TheVariants.{Literal, Placeholder}

-- the place of an argument, or none for the one unresolved argument
abbrev pub Reference : Type 0
Reference = Option ℕ

-- the place that was found
abbrev pub found_place : Result ℕ (Either ℕ Name) → Reference
found_place (Ok place) = Some place
found_place (Err wanted) = None

abbrev pub reference_of : FormatArgPosition → Reference
reference_of position = found_place position.index

abbrev pub trait_of : FormatTrait → Trait
trait_of trait.Display = Display
trait_of trait.Debug = Debug
trait_of trait.LowerExp = LowerExp
trait_of trait.UpperExp = UpperExp
trait_of trait.Octal = Octal
trait_of trait.Pointer = Pointer
trait_of trait.Binary = Binary
trait_of trait.LowerHex = LowerHex
trait_of trait.UpperHex = UpperHex

abbrev pub alignment_of : FormatAlignment → Alignment
alignment_of side.Left = Left
alignment_of side.Right = Right
alignment_of side.Center = Center

abbrev pub sign_of : FormatSign → Sign
sign_of sign.Plus = Plus
sign_of sign.Minus = Minus

abbrev pub debug_hex_of : FormatDebugHex → DebugHex
debug_hex_of hex.Lower = Lower
debug_hex_of hex.Upper = Upper

-- the options without their counts; a space is the fill where none is written
abbrev pub options_of : FormatOptions → FormattingOptions
options_of options = record {
  fill = unwrap_or options.fill 32;
  alignment = option_map alignment_of options.alignment;
  sign = option_map sign_of options.sign;
  alternate = options.alternate;
  zero_pad = options.zero_pad;
  debug_hex = option_map debug_hex_of options.debug_hex;
}

abbrev pub count_of : Option FormatCount → Count Reference
count_of None = NoCount
count_of (Some (count.Literal n)) = Is n
count_of (Some (count.Argument position)) = Of (reference_of position)

-- what a placeholder asks of its argument
abbrev pub asked_of : FormatPlaceholder → Asked Reference
asked_of placeholder = record {
  by = trait_of placeholder.format_trait;
  options = options_of placeholder.format_options;
  width = count_of placeholder.format_options.width;
  precision = count_of placeholder.format_options.precision;
}

abbrev pub canonical_pieces : List FormatArgsPiece → List (Write Reference)
canonical_pieces [] = []
canonical_pieces (Literal text ∷ pieces) = map Byte text ++ canonical_pieces pieces
canonical_pieces (Placeholder placeholder ∷ pieces) = Put (reference_of placeholder.argument) (asked_of placeholder) ∷ canonical_pieces pieces
