-- A text as a literal: its first chunk by its bytes alone, as the code looks for it, and its bytes by its characters.
use Rattle.std.specs.Prelude.{◌≡◌, ℕ, ◌<◌, ◌≤◌, List, [], ◌++◌, length}
use Rattle.std.specs.Str.{IsUtf8, chars}
use Rattle.code_meaning.specs.Template.{Slot}
use Rattle.template_bytes.specs.Chunks.{letters, bytes_by}
use Rattle.template_bytes.specs.Cutting.{cuts_of}

-- the first chunk of a text, and what is behind it: the longest of the fronts of the text that end at a character's end and have at most
-- 65,535 bytes
pub record IsChunk (text chunk behind : List ℕ) : Type 0 where
  pub there : text ≡ chunk ++ behind
  pub some : 0 < length chunk
  pub whole : IsUtf8 chunk
  pub fits : length chunk ≤ 65535
  pub longest : (other rest : List ℕ) → text ≡ other ++ rest → IsUtf8 other → length other ≤ 65535 → length other ≤ length chunk

-- no slot stands in a literal
abbrev pub no_bytes : Slot → List ℕ
no_bytes slot = []

-- the bytes of a text as a literal
abbrev pub literal_bytes : List ℕ → List ℕ
literal_bytes text = bytes_by no_bytes (cuts_of (letters (chars text) []))
