-- What holds of all format texts, and of all templates of inline assembly.
use Rattle.std.specs.Prelude.{◌≡◌, ℕ, List}
use Rattle.std.specs.List.{All}
use Rattle.std.specs.Str.{IsUtf8}
use Rattle.text_cut.specs.Reading.{Spelled}
use Rattle.fmt_parse.specs.declared.piece.Piece.{Piece}
use Rattle.fmt_parse.specs.declared.asm.AsmRead.{AsmRead}
use Rattle.fmt_parse.specs.Pieces.{ArePieces, StopsAt}
use Rattle.fmt_parse.specs.Ranges.{RangesWithin}
use Rattle.fmt_parse.specs.Asm.{AreFurthest, IsAsmRead}

-- a text is pieces in at most one way, or stops at one offset, and never both
pub record HasOneReading : Type 0 where
  pub one : (text : List ℕ) (pieces others : List Piece) → ArePieces text pieces → ArePieces text others → pieces ≡ others
  pub stop : (text : List ℕ) (at other : ℕ) → StopsAt text at → StopsAt text other → at ≡ other
  pub never_both : (text : List ℕ) (pieces : List Piece) (at : ℕ) → ArePieces text pieces → StopsAt text at → ⊥

-- every range of the pieces of a text is a part of the text
pub record PiecesStandWithin : Type 0 where
  pub within : (text : List ℕ) (pieces : List Piece) → IsUtf8 text → ArePieces text pieces → All (RangesWithin text) pieces

-- what two readings of a template say is the same
pub record SameAsmRead (read other : AsmRead) : Type 0 where
  pub same_pieces : read.pieces.items ≡ other.pieces.items
  pub same_curarg : read.curarg ≡ other.curarg
  pub same_complete : read.complete ≡ other.complete

-- some pieces from the front of the characters reach furthest
pub record HasFurthest (from : ℕ) (cs : List ℕ) : Type 0 where
  pub front : List (Spelled Piece)
  pub rest : List ℕ
  pub are : AreFurthest from cs front rest

-- from one number of the counter on, a template is read in one way, and in one only
pub record HasOneAsmReading : Type 0 where
  pub some : (from : ℕ) (cs : List ℕ) → HasFurthest from cs
  pub one : (from : ℕ) (text : List ℕ) (read other : AsmRead) → IsAsmRead from text read → IsAsmRead from text other → SameAsmRead read other

-- every range of the pieces that are read of a template is a part of it
pub record AsmPiecesStandWithin : Type 0 where
  pub within : (from : ℕ) (text : List ℕ) (read : AsmRead) → IsUtf8 text → IsAsmRead from text read → All (RangesWithin text) read.pieces.items
