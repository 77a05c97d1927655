-- The canonical spelling of canonical pieces.
use Rattle.std.specs.Prelude.{◌≡◌, ◌↔◌, ℕ, ◌≤◌, IsTrue, List, [], ◌∷◌, ◌++◌, length, map, encode_utf8, Some}
use Rattle.code_meaning.specs.Write.{Asked, Write, Byte, Put, Count, NoCount, Is, Of}
use Rattle.code_meaning.specs.Template.{TemplateItem, is_scalar, decoded}
use Rattle.template_bytes.specs.Canonical.{Reference}
use Rattle.template_bytes.specs.Pairs.{pairs_of, items_among}
use Rattle.template_bytes.specs.Fields.{Fields, slot_bytes, AreSized, AreShort, place_behind}
use Rattle.template_bytes.specs.Chunks.{Part, Letter, Stop, Cut, Chunk, Mark, AreLongest, bytes_by}

-- chunks and slots, one behind the other, and 00
abbrev pub spelled : List (Cut Fields) → List ℕ
spelled cuts = bytes_by slot_bytes cuts ++ 0 ∷ []

-- the fields of each slot fit in their bytes and say something, where the slot in front of them has the place before this one
abbrev pub HaveShortFields : ℕ → List (Cut Fields) → Type 0
HaveShortFields next [] = Unit {0}
HaveShortFields next (Chunk cs ∷ cuts) = HaveShortFields next cuts
HaveShortFields next (Mark fields ∷ cuts) = AreSized fields × (AreShort next fields × HaveShortFields (place_behind next fields) cuts)

-- bytes are written in the canonical way, whatever they say
pub record AreCanonical (bytes : List ℕ) : Type 0 where
  pub cuts : List (Cut Fields)
  pub are : bytes ≡ spelled cuts
  pub short : HaveShortFields 0 cuts
  pub longest : AreLongest cuts

-- bytes are the canonical spelling of canonical pieces: they decode to them, with places of pairs in place of arguments
pub record IsCanonical (bytes : List ℕ) (pieces : List (Write Reference)) : Type 0 where
  pub written : AreCanonical bytes
  pub decodes : decoded bytes ≡ Some (items_among (pairs_of pieces) pieces)

-- a placeholder of canonical pieces
pub record Placed : Type 0 where
  pub argument : Reference
  pub asked : Asked Reference

-- the canonical pieces of characters and placeholders
abbrev pub pieces_of : List (Part Placed) → List (Write Reference)
pieces_of [] = []
pieces_of (Letter c ∷ parts) = map Byte (encode_utf8 c) ++ pieces_of parts
pieces_of (Stop placed ∷ parts) = Put placed.argument placed.asked ∷ pieces_of parts

-- the number of a count has at most 16 bits
abbrev pub IsShortCount : Count Reference → Type 0
IsShortCount NoCount = Unit {0}
IsShortCount (Is n) = n ≤ 65535
IsShortCount (Of r) = Unit {0}

-- the fill is a character, and the counts have at most 16 bits
pub record IsWritable (asked : Asked Reference) : Type 0 where
  pub fill : IsTrue (is_scalar asked.options.fill)
  pub width : IsShortCount asked.width
  pub precision : IsShortCount asked.precision

-- each letter is a character, and each placeholder can be written
abbrev pub AreWritable : List (Part Placed) → Type 0
AreWritable [] = Unit {0}
AreWritable (Letter c ∷ parts) = IsTrue (is_scalar c) × AreWritable parts
AreWritable (Stop placed ∷ parts) = IsWritable placed.asked × AreWritable parts

-- canonical pieces are those of a template: bytes that stand together are UTF-8, and placeholders can be written
pub record AreOfTemplate (pieces : List (Write Reference)) : Type 0 where
  pub parts : List (Part Placed)
  pub are : pieces ≡ pieces_of parts
  pub writable : AreWritable parts

-- canonical pieces have at most one canonical spelling
abbrev pub OneSpelling : Type 0
OneSpelling = (pieces : List (Write Reference)) (bytes others : List ℕ) → IsCanonical bytes pieces → IsCanonical others pieces → bytes ≡ others

-- with at most 4,294,967,296 pairs they have one
abbrev pub SomeSpelling : Type 0
SomeSpelling = (pieces : List (Write Reference)) → AreOfTemplate pieces → length (pairs_of pieces) ≤ 4294967296 → (bytes : List ℕ) × IsCanonical bytes pieces

-- over the same arguments, bytes and pairs are equal exactly if the canonical pieces are
abbrev pub SameForSame : Type 0
SameForSame = (pieces others : List (Write Reference)) (bytes more : List ℕ) → IsCanonical bytes pieces → IsCanonical more others
    → ((bytes ≡ more) × (pairs_of pieces ≡ pairs_of others)) ↔ (pieces ≡ others)

-- template bytes decode to at most one list
abbrev pub DecodesOnce : Type 0
DecodesOnce = (bytes : List ℕ) (items others : List TemplateItem) → decoded bytes ≡ Some items → decoded bytes ≡ Some others → items ≡ others
