-- What inserting all that an iterator gives makes of a map.
use Rattle.std.specs.Prelude.{◌≡◌, List, [], Option, Some, Result, MatchResult, fold}
use Rattle.std.specs.Iterator.{Drains, YieldsThen}
use Rattle.la_arena.specs.Idx.{index_of}
use Rattle.la_arena.specs.Map.{with_slot}
use Rattle.la_arena.specs.declared.idx.Idx.{Idx}

module _ {T V : Type 0} where
  -- the map after one insert for each pair, one after the other
  abbrev pub insert_all : List (Option V) → List (Idx T × V) → List (Option V)
  insert_all slots pairs =
      fold (λ before pair. with_slot before (index_of pair.0) (Some pair.1)) slots pairs

  module _ {U S : Type 0} (becomes : U → S → Type 0) (steps : S → Option (Idx T × V) → S → Type 0) where
    -- the pairs of what the iterator gave are inserted: all of them at `Ok`, and at `Err` those before one more
    abbrev pub Extends : {E : Type 0} → U → List (Option V) → List (Option V) → Result (Unit {0}) E → Type 0
    Extends iter old new result =
        (it : S) × (pairs : List (Idx T × V)) × becomes iter it × (new ≡ insert_all old pairs)
        × MatchResult result (λ _. Drains steps it pairs)
        (λ _. (refused : Idx T × V) × (rest : S) × YieldsThen steps it pairs (Some refused) rest)

    -- the map has the pairs of what the iterator gave, inserted one after the other
    abbrev pub IsMapOf : U → List (Option V) → Type 0
    IsMapOf iter map =
        (it : S) × (pairs : List (Idx T × V)) × becomes iter it × Drains steps it pairs
        × (map ≡ insert_all [] pairs)
