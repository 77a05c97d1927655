-- A map by expressions, as its entries, in the order of the expressions' places.
use Rattle.std.specs.Prelude.{ℕ, ◌<◌, ◌≤◌, Bool, List, [], ◌∷◌, length, nat_eq, nat_lt, cond, if◌then◌else◌, Option, Some, None}
use Rattle.std.specs.List.{AllPairs, AllWithin}
use Rattle.std.specs.Map.{lookup}
use Rattle.la_arena.specs.Idx.{number_of}
use Rattle.hir_store.specs.declared.ids.ExprId.{ExprId}

-- whether an expression has this number
abbrev pub has_number : ℕ → ExprId → Bool
has_number number id = nat_eq number (number_of id.raw)

module _ {A : Type 0} where
  -- the place of the expression of an entry
  abbrev pub place_in : ExprId × A → ℕ
  place_in entry = number_of entry.0.raw

  -- the places rise, so no expression has two entries
  abbrev pub IsRising : List (ExprId × A) → Type 0
  IsRising entries = AllPairs (λ earlier later. place_in earlier < place_in later) entries

  -- where an entry for this number stands or would stand: those in front are for smaller numbers, and no other is
  pub record IsPlaceFor (entries : List (ExprId × A)) (number place : ℕ) : Type 0 where
    pub within : place ≤ length entries
    pub smaller : AllWithin (λ entry. place_in entry < number) entries 0 place
    pub others : AllWithin (λ entry. number ≤ place_in entry) entries place (length entries)

  -- what an entry has at a number, where there is one
  abbrev pub in_entry : ℕ → Option (ExprId × A) → Option A
  in_entry number None = None
  in_entry number (Some entry) = cond (nat_eq number (place_in entry)) (Some entry.1) None

  -- what entries have at a number
  abbrev pub entry_at : List (ExprId × A) → ℕ → Option A
  entry_at entries number = lookup (has_number number) entries

  -- the entries with one for this expression: in front of the first for a later one, or in place of one for the same
  abbrev pub with_entry : List (ExprId × A) → ExprId → A → List (ExprId × A)
  with_entry [] id value = (id, value) ∷ []
  with_entry (entry ∷ entries) id value =
      if nat_lt (number_of id.raw) (place_in entry) then (id, value) ∷ entry ∷ entries
      else if nat_eq (number_of id.raw) (place_in entry) then (id, value) ∷ entries
      else entry ∷ with_entry entries id value
