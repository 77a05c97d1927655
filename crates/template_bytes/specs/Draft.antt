-- A draft: the bytes up to the last slot, the place behind it, and the literal that follows.
use Rattle.std.specs.Prelude.{◌≡◌, ℕ, List, [], ◌++◌}
use Rattle.std.specs.Str.{chars}
use Rattle.code_meaning.specs.Template.{Slot}
use Rattle.template_bytes.specs.Fields.{slot_bytes}
use Rattle.template_bytes.specs.Chunks.{Part, letters, bytes_by}
use Rattle.template_bytes.specs.Cutting.{cuts_of}
use Rattle.template_bytes.specs.Reading.{fields_cuts, place_behind_all}

-- the bytes of characters and slots, without an end
abbrev pub bytes_of : List (Part Slot) → List ℕ
bytes_of parts = bytes_by slot_bytes (fields_cuts 0 (cuts_of parts))

-- these are the bytes, the place and the literal of a draft of parts: whatever follows the front is cut apart from it
pub record AreDraftOf (parts : List (Part Slot)) (bytes : List ℕ) (next : ℕ) (literal : List ℕ) : Type 0 where
  pub front : List (Part Slot)
  pub are : parts ≡ front ++ letters (chars literal) []
  pub bytes_are : bytes ≡ bytes_of front
  pub next_is : next ≡ place_behind_all 0 (cuts_of front)
  pub apart : (more : List (Part Slot)) → cuts_of (front ++ more) ≡ cuts_of front ++ cuts_of more
