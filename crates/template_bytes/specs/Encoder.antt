-- An encoder that took pieces: the pairs so far, and the draft, whose slots stay right while pairs are added.
use Rattle.std.specs.Prelude.{◌≡◌, ℕ, ◌≤◌, List, [], ◌∷◌, ◌++◌, length, string_bytes}
use Rattle.std.specs.Str.{IsUtf8, chars}
use Rattle.hir_fmt.specs.declared.format_args.FormatPlaceholder.{FormatPlaceholder}
use Rattle.hir_fmt.specs.declared.format_args.FormatArgsPiece.{FormatArgsPiece}
use Rattle.hir_fmt.specs.declared.format_args.FormatArgsPiece.TheVariants.{Literal, Placeholder}
use Rattle.template_bytes.specs.Canonical.{reference_of, asked_of, canonical_pieces}
use Rattle.template_bytes.specs.Pairs.{Pair, pairs_of}
use Rattle.template_bytes.specs.Chunks.{Part, Stop, letters}
use Rattle.template_bytes.specs.Spelling.{Placed, pieces_of, AreWritable, IsCanonical}
use Rattle.template_bytes.specs.Reading.{slots_among}
use Rattle.template_bytes.specs.declared.encoder.Encoder.{Encoder}
use Rattle.template_bytes.specs.declared.encoder.EncodedTemplate.{EncodedTemplate}
use Rattle.template_bytes.specs.ShownPairs.{shown_pairs}
use Rattle.template_bytes.specs.Draft.{AreDraftOf}

abbrev pub placed_of : FormatPlaceholder → Placed
placed_of placeholder = record { argument = reference_of placeholder.argument; asked = asked_of placeholder }

-- the characters and placeholders of pieces
abbrev pub parts_of_piece : FormatArgsPiece → List (Part Placed)
parts_of_piece (Literal text) = letters (chars text) []
parts_of_piece (Placeholder placeholder) = Stop (placed_of placeholder) ∷ []

abbrev pub template_parts : List FormatArgsPiece → List (Part Placed)
template_parts [] = []
template_parts (piece ∷ pieces) = parts_of_piece piece ++ template_parts pieces

-- the pairs, the bytes, the next place and the literal of an encoder that took these pieces
pub record HaveTaken (pieces : List FormatArgsPiece) (pairs : List Pair) (bytes : List ℕ) (next : ℕ) (literal : List ℕ) : Type 0 where
  pub canonical : canonical_pieces pieces ≡ pieces_of (template_parts pieces)
  pub writable : AreWritable (template_parts pieces)
  pub pairs_are : pairs ≡ pairs_of (canonical_pieces pieces)
  pub room : length pairs ≤ 4294967296
  pub text : IsUtf8 literal
  pub draft : (more : List Pair) → AreDraftOf (slots_among (pairs ++ more) (template_parts pieces)) bytes next literal

abbrev pub HasTaken : Encoder → List FormatArgsPiece → Type 0
HasTaken encoder pieces = HaveTaken pieces encoder.pairs encoder.draft.bytes.items encoder.draft.next (string_bytes encoder.draft.literal)

-- bytes and pairs are those of these pieces
pub record IsEncoded (made : EncodedTemplate) (pieces : List FormatArgsPiece) : Type 0 where
  pub bytes : IsCanonical made.bytes.items (canonical_pieces pieces)
  pub pairs : shown_pairs made.pairs.keys ≡ pairs_of (canonical_pieces pieces)
