-- Pairs of a template: the distinct arguments with a use, by first use; in a placeholder the order is value, width, precision.
use Rattle.std.specs.Prelude.{ℕ, suc, nat_eq, Bool, true, false, ◌&&◌, ◌||◌, cond, IsTrue, List, [], ◌∷◌, ◌++◌, Some, None}
use Rattle.code_meaning.specs.Write.{Trait, Display, Debug, LowerExp, UpperExp, Octal, Pointer, Binary, LowerHex, UpperHex, Count, NoCount, Is, Of, Asked, Write, Byte, Put}
use Rattle.code_meaning.specs.Value.{Use, By, AsCount}
use Rattle.code_meaning.specs.Template.{Slot, TemplateItem, ByteItem, SlotItem}
use Rattle.template_bytes.specs.Canonical.{Reference}

-- an argument, or the one unresolved argument, with one use of it
pub record Pair : Type 0 where
  pub argument : Reference
  pub usage : Use

-- a use as a number, another for each
abbrev pub number_of : Use → ℕ
number_of (By Display) = 0
number_of (By Debug) = 1
number_of (By LowerExp) = 2
number_of (By UpperExp) = 3
number_of (By Octal) = 4
number_of (By Pointer) = 5
number_of (By Binary) = 6
number_of (By LowerHex) = 7
number_of (By UpperHex) = 8
number_of AsCount = 9

abbrev pub is_same_reference : Reference → Reference → Bool
is_same_reference (Some m) (Some n) = nat_eq m n
is_same_reference None None = true
is_same_reference (Some m) None = false
is_same_reference None (Some n) = false

abbrev pub is_same_pair : Pair → Pair → Bool
is_same_pair p q = is_same_reference p.argument q.argument && nat_eq (number_of p.usage) (number_of q.usage)

-- an argument put by a trait, or taken as a count
abbrev pub put_pair : Reference → Trait → Pair
put_pair argument by = record { argument = argument; usage = By by }

abbrev pub count_pair : Reference → Pair
count_pair argument = record { argument = argument; usage = AsCount }

-- the uses of a count
abbrev pub count_uses : Count Reference → List Pair
count_uses NoCount = []
count_uses (Is n) = []
count_uses (Of r) = count_pair r ∷ []

-- the uses of a placeholder: value, width, precision
abbrev pub uses_of : Reference → Asked Reference → List Pair
uses_of r asked = put_pair r asked.by ∷ (count_uses asked.width ++ count_uses asked.precision)

-- the uses of canonical pieces, in order
abbrev pub uses : List (Write Reference) → List Pair
uses [] = []
uses (Byte b ∷ pieces) = uses pieces
uses (Put r asked ∷ pieces) = uses_of r asked ++ uses pieces

-- pairs but for one
abbrev pub without : Pair → List Pair → List Pair
without p [] = []
without p (q ∷ pairs) = cond (is_same_pair p q) (without p pairs) (q ∷ without p pairs)

-- each of some pairs once, where it stands first
abbrev pub distinct : List Pair → List Pair
distinct [] = []
distinct (p ∷ pairs) = p ∷ without p (distinct pairs)

-- the pairs of canonical pieces
abbrev pub pairs_of : List (Write Reference) → List Pair
pairs_of pieces = distinct (uses pieces)

-- the place of a pair among these, the first where it stands; their number where it is none of them
abbrev pub place_among : List Pair → Pair → ℕ
place_among [] pair = 0
place_among (other ∷ pairs) pair = cond (is_same_pair other pair) 0 (suc (place_among pairs pair))

-- a count with the place of its pair in place of the argument
abbrev pub count_among : List Pair → Count Reference → Count ℕ
count_among pairs NoCount = NoCount
count_among pairs (Is n) = Is n
count_among pairs (Of r) = Of (place_among pairs (count_pair r))

-- a placeholder as a slot, with places of pairs in place of arguments
abbrev pub slot_among : List Pair → Reference → Asked Reference → Slot
slot_among pairs r asked = record {
  place = place_among pairs (put_pair r asked.by);
  options = asked.options;
  width = count_among pairs asked.width;
  precision = count_among pairs asked.precision;
}

-- canonical pieces with places of pairs in place of arguments
abbrev pub items_among : List Pair → List (Write Reference) → List TemplateItem
items_among pairs [] = []
items_among pairs (Byte b ∷ pieces) = ByteItem b ∷ items_among pairs pieces
items_among pairs (Put r asked ∷ pieces) = SlotItem (slot_among pairs r asked) ∷ items_among pairs pieces

-- whether a pair is among these
abbrev pub is_among : List Pair → Pair → Bool
is_among [] p = false
is_among (q ∷ pairs) p = is_same_pair q p || is_among pairs p

-- pairs with one more: one that is there keeps its place, and a new one goes last
abbrev pub added : List Pair → Pair → List Pair
added pairs p = cond (is_among pairs p) pairs (pairs ++ p ∷ [])

-- pairs with each of some more, one after the other
abbrev pub added_all : List Pair → List Pair → List Pair
added_all pairs [] = pairs
added_all pairs (p ∷ more) = added_all (added pairs p) more

-- each of some pairs is among these
abbrev pub AreAmong : List Pair → List Pair → Type 0
AreAmong pairs [] = Unit {0}
AreAmong pairs (p ∷ some) = IsTrue (is_among pairs p) × AreAmong pairs some
