-- What holds of arenas and indexes of every type: placed values stay, and an index is its number.
use Rattle.std.specs.Prelude.{◌≡◌, ◌↔◌, ℕ, ◌<◌, Bool, List, Option, Some, IsTrue, length, slice_get}
use Rattle.std.specs.Borrow.{RattleType}
use Rattle.std.specs.Hash.{HashWrites, u32}
use Rattle.std.specs.Ordering.{nat_cmp}
use Rattle.std.specs.declared.cmp.Ordering.{Ordering}
use Rattle.la_arena.specs.contracts.idx.IdxPartialEq.TheImpl as idx_eq
use Rattle.la_arena.specs.contracts.idx.IdxPartialOrd.TheImpl as idx_partial_ord
use Rattle.la_arena.specs.contracts.idx.IdxOrd.TheImpl as idx_ord
use Rattle.la_arena.specs.contracts.idx.IdxHash.TheImpl as idx_hash
use Rattle.la_arena.specs.contracts.idx.RawIdxPartialEq.TheImpl as raw_eq
use Rattle.la_arena.specs.contracts.idx.RawIdxPartialOrd.TheImpl as raw_partial_ord
use Rattle.la_arena.specs.contracts.idx.RawIdxOrd.TheImpl as raw_ord
use Rattle.la_arena.specs.contracts.idx.RawIdxHash.TheImpl as raw_hash
use Rattle.la_arena.specs.Arena.{Places}
use Rattle.la_arena.specs.Idx.{number_of, index_of}

-- a placed value stands at its index, and each older index has the value that it had
pub record StandsAndStays (T : Type 0) : Type 0 where
  pub stands : (old new : List T) (value : T) (index : ℕ) → Places old value index new
      → slice_get new index ≡ Some value
  pub stays : (old new : List T) (value : T) (index older : ℕ) → Places old value index new
      → older < length old → slice_get new older ≡ slice_get old older

module _ {I : Type 0} (number : I → ℕ) where
  -- two of these are equal by `==` exactly where their numbers are, and then they are one
  pub record EqualByNumber (eq : I → I → Bool) : Type 0 where
    pub equal : (a b : I) → IsTrue (eq a b) ↔ (number a ≡ number b)
    pub one : (a b : I) → number a ≡ number b → a ≡ b

  -- they are ordered as their numbers are, by `cmp` and by `partial_cmp`
  pub record OrderedByNumber (cmp : I → I → Ordering) (partial_cmp : I → I → Option Ordering) : Type 0 where
    pub ordered : (a b : I) → cmp a b ≡ nat_cmp (number a) (number b)
    pub compared : (a b : I) → partial_cmp a b ≡ Some (nat_cmp (number a) (number b))

  -- each feeds a hash what its number feeds it, as a `u32`
  pub record HashedByNumber (hash_input : I → HashWrites) : Type 0 where
    pub fed : (a : I) → hash_input a ≡ u32 (number a)

-- `==` of indexes, their order, and what they feed a hash
module _ (T : RattleType) where
  abbrev pub IndexesEqualByNumber : Type 0
  IndexesEqualByNumber = EqualByNumber index_of (idx_eq.ghosts T).eq

  abbrev pub IndexesOrderedByNumber : Type 0
  IndexesOrderedByNumber = OrderedByNumber index_of (idx_ord.ghosts T).cmp (idx_partial_ord.ghosts T).partial_cmp

  abbrev pub IndexesHashedByNumber : Type 0
  IndexesHashedByNumber = HashedByNumber index_of (idx_hash.ghosts T).hash_input

-- the same of raw indexes
abbrev pub RawEqualByNumber : Type 0
RawEqualByNumber = EqualByNumber number_of (raw_eq.ghosts).eq

abbrev pub RawOrderedByNumber : Type 0
RawOrderedByNumber = OrderedByNumber number_of (raw_ord.ghosts).cmp (raw_partial_ord.ghosts).partial_cmp

abbrev pub RawHashedByNumber : Type 0
RawHashedByNumber = HashedByNumber number_of (raw_hash.ghosts).hash_input
