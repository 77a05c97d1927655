-- A literal is cut into chunks: each is as long as it can be with at most 65,535 bytes, and ends at a character's end.
use Rattle.std.specs.Prelude.{ℕ, ◌+◌, ◌/◌, ◌%◌, ◌<◌, ◌≤◌, cond, nat_lt, List, [], ◌∷◌, ◌++◌, length}
use Rattle.std.specs.Char.{len_utf8}
use Rattle.std.specs.Str.{encode_utf8_all}

-- a part of a text: a character, or what stops the text, as a placeholder does
pub data Part (S : Type 0) : Type 0 where
  Letter : ℕ → Part S
  Stop : S → Part S

-- a text that was cut: a chunk of characters, or what stops the text
pub data Cut (S : Type 0) : Type 0 where
  Chunk : List ℕ → Cut S
  Mark : S → Cut S

-- how many bytes characters have
abbrev pub total : List ℕ → ℕ
total [] = 0
total (c ∷ cs) = len_utf8 c + total cs

-- a size is one byte where it is below 128, else 80 and two bytes, low byte first
abbrev pub size_bytes : ℕ → List ℕ
size_bytes size = cond (nat_lt size 128) (size ∷ []) (128 ∷ size % 256 ∷ size / 256 ∷ [])

-- a chunk is its size and its bytes
abbrev pub chunk_bytes : List ℕ → List ℕ
chunk_bytes chunk = size_bytes (length chunk) ++ chunk

module _ {S : Type 0} where
  -- characters in front of parts
  abbrev pub letters : List ℕ → List (Part S) → List (Part S)
  letters [] parts = parts
  letters (c ∷ cs) parts = Letter c ∷ letters cs parts

  -- the parts of a text that was cut
  abbrev pub parts_of : List (Cut S) → List (Part S)
  parts_of [] = []
  parts_of (Chunk cs ∷ cuts) = letters cs (parts_of cuts)
  parts_of (Mark s ∷ cuts) = Stop s ∷ parts_of cuts

  -- the character that follows a chunk of this size would make it too long
  abbrev pub IsFull : ℕ → List (Cut S) → Type 0
  IsFull size [] = Unit {0}
  IsFull size (Mark s ∷ cuts) = Unit {0}
  IsFull size (Chunk [] ∷ cuts) = ⊥
  IsFull size (Chunk (c ∷ cs) ∷ cuts) = 65535 < size + len_utf8 c

  -- each chunk has a character, at most 65,535 bytes, and as many as it can have
  abbrev pub AreLongest : List (Cut S) → Type 0
  AreLongest [] = Unit {0}
  AreLongest (Mark s ∷ cuts) = AreLongest cuts
  AreLongest (Chunk [] ∷ cuts) = ⊥
  AreLongest (Chunk (c ∷ cs) ∷ cuts) = (total (c ∷ cs) ≤ 65535) × (IsFull (total (c ∷ cs)) cuts × AreLongest cuts)

  -- the bytes of a text that was cut, given those of what stops it
  abbrev pub bytes_by : (S → List ℕ) → List (Cut S) → List ℕ
  bytes_by mark [] = []
  bytes_by mark (Chunk cs ∷ cuts) = chunk_bytes (encode_utf8_all cs) ++ bytes_by mark cuts
  bytes_by mark (Mark s ∷ cuts) = mark s ++ bytes_by mark cuts
