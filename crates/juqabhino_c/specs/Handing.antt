-- How an answer is handed out through a caller's room.
use Rattle.std.specs.Prelude.{◌≡◌, ◌≤◌, ◌<◌, ◌⊎◌, ℕ, List, ◌++◌, length, drop}

-- an answer of this status is handed out through room for bytes: where it fits it stands at the front, and what is behind it is as it was
abbrev pub Handed : List ℕ → ℕ → List ℕ → List ℕ → ℕ → Type 0
Handed output status room room_now result =
    ((length output ≤ length room) × ((result ≡ status) × (room_now ≡ output ++ drop (length output) room)))
    ⊎ ((length room < length output) × ((result ≡ 5) × (room_now ≡ room)))
