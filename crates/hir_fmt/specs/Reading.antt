-- What is read of a literal.
use Rattle.std.specs.Prelude.{ℕ, ◌≤◌, List, length, Option, Some, None}
use Rattle.std.specs.List.{All}
use Rattle.std.specs.declared.vec.Vec.{Vec}
use Rattle.syn_trees.specs.Literal.{HasValue, HasNoValue, FitsBetweenQuotes}
use Rattle.fmt_parse.specs.declared.piece.Piece.{Piece}
use Rattle.fmt_parse.specs.Pieces.{ArePieces}
use Rattle.fmt_parse.specs.Ranges.{RangesWithin}
use Rattle.hir_fmt.specs.declared.read.Format.{Format}
use Rattle.hir_fmt.specs.Parsed.{IsNoFormat}

-- the literal has this value, which takes no more bytes than what stands between its quotes
pub record IsValue (token text : List ℕ) : Type 0 where
  pub value : HasValue token text
  pub fits : FitsBetweenQuotes token text
  pub short : length text ≤ 4_294_967_295

abbrev pub IsValueRead : List ℕ → Option (List ℕ) → Type 0
IsValueRead token None = HasNoValue token
IsValueRead token (Some text) = IsValue token text

-- the text has these pieces, whose ranges are parts of it
pub record HasPieces (text : List ℕ) (pieces : List Piece) : Type 0 where
  pub are : ArePieces text pieces
  pub within : All (RangesWithin text) pieces

abbrev pub ArePiecesRead : {Z : Type 0} → List ℕ → Option (Vec Piece Z) → Type 0
ArePiecesRead text None = (pieces : List Piece) → ArePieces text pieces → ⊥
ArePiecesRead text (Some pieces) = HasPieces text pieces.items

-- the literal has this value, and the value has these pieces
pub record HasFormat (token : List ℕ) (format : Format) : Type 0 where
  pub value : IsValue token format.text
  pub pieces : HasPieces format.text format.pieces.items

abbrev pub IsFormatRead : List ℕ → Option Format → Type 0
IsFormatRead token None = IsNoFormat token
IsFormatRead token (Some format) = HasFormat token format
