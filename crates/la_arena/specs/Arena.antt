-- Placing a value in an arena puts it behind the others, and answers how many there were.
use Rattle.std.specs.Prelude.{◌≡◌, ◌↔◌, ℕ, List, [], ◌∷◌, ◌++◌, length, Option, Some, Result, MatchResult}
use Rattle.std.specs.Iterator.{Drains, YieldsThen}
use Rattle.la_arena.specs.declared.arena.ArenaError.{ArenaError}
use Rattle.la_arena.specs.declared.arena.ArenaError.TheVariants.{Full}

module _ {T : Type 0} where
  -- the value stands behind the old ones, and its index is how many those are
  abbrev pub Places : List T → T → ℕ → List T → Type 0
  Places old value index new = (index ≡ length old) × (new ≡ old ++ value ∷ [])

module _ {S T : Type 0} (steps : S → Option T → S → Type 0) (s : S) (items : List T) where
  -- after the items one more came, and found no room; the refusal is `Full` exactly where no index is left
  abbrev pub IsRefused : List T → ArenaError → Type 0
  IsRefused values e = (refused : T) × (t : S) × YieldsThen steps s items (Some refused) t × (e ≡ Full ↔ (length values ≡ 4294967295))

  -- the items stand behind the old values, in the order in which they came; after them came none, or one that was refused
  abbrev pub PlacesItems : {A : Type 0} → List T → Result A ArenaError → List T → Type 0
  PlacesItems old result new = (new ≡ old ++ items) × MatchResult result (λ done. Drains steps s items) (IsRefused new)

  -- the arena holds the items in the order in which they came, and after them came none; or one more came and was refused
  abbrev pub CollectsItems : Result (List T) ArenaError → Type 0
  CollectsItems result = MatchResult result (λ arena. (arena ≡ items) × Drains steps s items) (IsRefused items)
