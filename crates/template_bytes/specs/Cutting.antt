-- How parts are cut: character by character, with the room that the open chunk still has.
use Rattle.std.specs.Prelude.{ℕ, ◌-◌, cond, nat_lt, List, [], ◌∷◌}
use Rattle.std.specs.Char.{len_utf8}
use Rattle.template_bytes.specs.Chunks.{Part, Letter, Stop, Cut, Chunk, Mark}

-- what still belongs to the open chunk, and what is behind it
pub record Opened (S : Type 0) : Type 0 where
  pub chunk : List ℕ
  pub behind : List (Cut S)

module _ {S : Type 0} where
  -- the open chunk is closed, if anything is in it
  abbrev pub closed_with : List ℕ → List (Cut S) → List (Cut S)
  closed_with [] cuts = cuts
  closed_with (c ∷ cs) cuts = Chunk (c ∷ cs) ∷ cuts

  abbrev pub closed : Opened S → List (Cut S)
  closed opened = closed_with opened.chunk opened.behind

  -- a character in the open chunk, or the first of the next one
  abbrev pub longer : ℕ → Opened S → Opened S
  longer c opened = record { chunk = c ∷ opened.chunk; behind = opened.behind }

  abbrev pub next_chunk : ℕ → Opened S → Opened S
  next_chunk c opened = record { chunk = []; behind = Chunk (c ∷ opened.chunk) ∷ opened.behind }

  -- parts, where the open chunk has room for so many bytes
  abbrev pub cut : ℕ → List (Part S) → Opened S
  cut room [] = record { chunk = []; behind = [] }
  cut room (Stop s ∷ parts) = record { chunk = []; behind = Mark s ∷ closed (cut 65535 parts) }
  cut room (Letter c ∷ parts) = cond (nat_lt room (len_utf8 c)) (next_chunk c (cut (65535 - len_utf8 c) parts)) (longer c (cut (room - len_utf8 c) parts))

  abbrev pub cuts_of : List (Part S) → List (Cut S)
  cuts_of parts = closed (cut 65535 parts)
