-- The pieces of a template of inline assembly (the Rust Reference, "Inline assembly", section "Template string arguments").
use Rattle.std.specs.Prelude.{◌≡◌, ◌+◌, ◌-◌, ◌^◌, ◌≤◌, ◌<◌, ℕ, min, MatchBool, true, false, List, [], ◌∷◌, length}
use Rattle.std.specs.Char.{len_utf8}
use Rattle.std.specs.Str.{chars}
use Rattle.text_cut.specs.Runs.{starts, size}
use Rattle.text_cut.specs.Reading.{Spelled, texts, items, Reach}
use Rattle.fmt_parse.specs.declared.piece.Piece.{Piece}
use Rattle.fmt_parse.specs.declared.asm.AsmRead.{AsmRead}
use Rattle.fmt_parse.specs.Tokens.{range, IsName, starts_name, is_colon}
use Rattle.fmt_parse.specs.Spec.{SpecParts, typed_parts, plain_parts}
use Rattle.fmt_parse.specs.Pieces.{taken, IsAnyPiece}

-- MODIFIER: any NAME, or none; its range is the type
abbrev pub IsModifier : ℕ → List ℕ → SpecParts → List ℕ → Type 0
IsModifier at [] v rest = (starts_name rest ≡ false) × (v ≡ plain_parts at)
IsModifier at (c ∷ text) v rest = IsName (c ∷ text) rest × (v ≡ typed_parts (range at (c ∷ text)))

-- the options of a placeholder: a colon with the modifier behind it, or no colon
abbrev pub IsModified : ℕ → List ℕ → SpecParts → List ℕ → Type 0
IsModified at [] v rest = (starts is_colon rest ≡ false) × (v ≡ plain_parts at)
IsModified at (c ∷ text) v rest = (is_colon c ≡ true) × IsModifier (at + len_utf8 c) text v rest

-- the running counter behind these pieces: each placeholder that names no argument raises it by one, and the greatest number of 64 bits stays
abbrev pub counter : ℕ → List Piece → ℕ
counter from pieces = min (from + taken pieces) (2 ^ 64 - 1)

-- the spellings of a piece behind these, where the counter began at this number
abbrev pub IsAsmPiece : ℕ → List (Spelled Piece) → List ℕ → Piece → List ℕ → Type 0
IsAsmPiece from front text piece rest = IsAnyPiece IsModified (counter from (items front)) (size (texts front)) text piece rest

-- the characters begin with these pieces, no other pieces from their front reach further, and this is left
pub record AreFurthest (from : ℕ) (cs : List ℕ) (front : List (Spelled Piece)) (rest : List ℕ) : Type 0 where
  pub reach : Reach (IsAsmPiece from) cs front rest
  pub furthest : (others : List (Spelled Piece)) (left : List ℕ) → Reach (IsAsmPiece from) cs others left → size (texts others) ≤ size (texts front)

-- what is read of the bytes of a template: the pieces from its front that reach furthest, the counter behind them, and whether nothing is left
pub record IsAsmRead (from : ℕ) (text : List ℕ) (read : AsmRead) : Type 0 where
  pub front : List (Spelled Piece)
  pub rest : List ℕ
  pub are : AreFurthest from (chars text) front rest
  pub pieces : read.pieces.items ≡ items front
  pub counted : read.curarg ≡ counter from (items front)
  pub whole : MatchBool read.complete (rest ≡ []) (0 < length rest)
