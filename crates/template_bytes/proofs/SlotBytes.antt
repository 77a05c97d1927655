-- A slot is read back from its bytes, whatever its fields say.
use Rattle.std.proofs.Common.{◌≡◌, ℕ, ◌+◌, ◌*◌, ◌/◌, ◌%◌, ◌≤◌, Bool, true, false, ◌&&◌, cond, nat_eq, nat_lt, List, [], ◌∷◌, ◌++◌, length, Option, Some, None, is_some, refl, ap, ◌∙◌, append_assoc, length-append, arith}
use Rattle.std.proofs.lemmas.Bool.Decides.{nat_tests}
use Rattle.code_meaning.specs.Template.{Slot, bit, slot_from, four_bytes, place_bytes, slot_at, bytes_if, fields_size, with_slot, items_of}
use Rattle.template_bytes.specs.Fields.{Field, Absent, Direct, Indirect, Fields, is_there, is_indirect, first_byte, is_wide, place_in_bytes, flags_bytes, field_bytes, index_bytes, fields_bytes, slot_bytes, number_in, slot_of}
use Rattle.template_bytes.proofs.Bits.{bits, bit_in, bit_at}
use Rattle.template_bytes.proofs.FlagLaws.{flag_is}

-- the first byte, by its bits
abbrev first_bits : Fields → List Bool
first_bits fields =
    is_some fields.flags ∷ is_there fields.width ∷ is_there fields.precision ∷ is_some fields.index
    ∷ is_indirect fields.width ∷ is_indirect fields.precision ∷ true ∷ true ∷ []

-- the first byte is the number with these bits
first_is : (fields : Fields) → first_byte fields ≡ bits (first_bits fields)
first_is fields =
    omega (
      arith,
      flag_is (is_some fields.flags) 1,
      flag_is (is_there fields.width) 2,
      flag_is (is_there fields.precision) 4,
      flag_is (is_some fields.index) 8,
      flag_is (is_indirect fields.width) 16,
      flag_is (is_indirect fields.precision) 32,
    )

-- a bit of the first byte
pub first_bit : (fields : Fields) (place : ℕ) → bit place (first_byte fields) ≡ bit_in (first_bits fields) place
first_bit fields place = ap (bit place) (first_is fields) ∙ bit_at (first_bits fields) place

-- a number is read back from two bytes
from_two : (n : ℕ) → n % 256 + 256 * (n / 256) ≡ n
from_two n = omega arith

-- a number is read back from four bytes
from_four : (n : ℕ) → n % 256 + 256 * (n / 256 % 256 + 256 * (n / 65536 % 256 + 256 * (n / 16777216))) ≡ n
from_four n = omega arith

-- what is done with a field, and with the bytes behind it
abbrev Go : Type 0 → Type 0
Go A = Option ℕ → List ℕ → Option A

module _ {A : Type 0} where
  -- flags are read back from their bytes, whatever stands behind them
  flags_read : (flags : Option ℕ) (more : List ℕ) (go : Go A) → four_bytes (is_some flags) (flags_bytes flags ++ more) go ≡ go flags more
  flags_read None more go = refl
  flags_read (Some n) more go = ap (λ m. go (Some m) more) (from_four n)

  -- a place is read back from its bytes
  place_read : (wide : Bool) (n : ℕ) (more : List ℕ) (go : Go A) → place_bytes wide true (place_in_bytes wide n ++ more) go ≡ go (Some n) more
  place_read true n more go = ap (λ m. go (Some m) more) (from_four n)
  place_read false n more go = ap (λ m. go (Some m) more) (from_two n)

  -- a field that is not there takes no bytes
  absent_read : (wide : Bool) (more : List ℕ) (go : Go A) → place_bytes wide false more go ≡ go None more
  absent_read true more go = refl
  absent_read false more go = refl

  -- an index is read back from its bytes
  index_read : (wide : Bool) (index : Option ℕ) (more : List ℕ) (go : Go A) → place_bytes wide (is_some index) (index_bytes wide index ++ more) go ≡ go index more
  index_read wide None more go = absent_read wide more go
  index_read wide (Some n) more go = place_read wide n more go

  -- a width or a precision is read back from its bytes
  field_read : (wide : Bool) (field : Field) (more : List ℕ) (go : Go A)
      → place_bytes (wide && is_indirect field) (is_there field) (field_bytes wide field ++ more) go ≡ go (number_in field) more
  field_read wide Absent more go = absent_read (wide && false) more go
  field_read true (Direct n) more go = ap (λ m. go (Some m) more) (from_two n)
  field_read false (Direct n) more go = ap (λ m. go (Some m) more) (from_two n)
  field_read true (Indirect n) more go = place_read true n more go
  field_read false (Indirect n) more go = place_read false n more go

-- a slot from its index on, by the fields that are there
abbrev from_index : ℕ → Bool → Fields → Option ℕ → Option ℕ → Option ℕ → List ℕ → Option Slot
from_index next wide fields flags width precision bytes =
    place_bytes wide (is_some fields.index) bytes (λ index rest. slot_from next (first_byte fields) flags width precision index)

-- a slot from its precision on
abbrev from_precision : ℕ → Bool → Fields → Option ℕ → Option ℕ → List ℕ → Option Slot
from_precision next wide fields flags width bytes =
    place_bytes (wide && is_indirect fields.precision) (is_there fields.precision) bytes (from_index next wide fields flags width)

-- a slot from its width on
abbrev from_width : ℕ → Bool → Fields → Option ℕ → List ℕ → Option Slot
from_width next wide fields flags bytes = place_bytes (wide && is_indirect fields.width) (is_there fields.width) bytes (from_precision next wide fields flags)

-- a slot from its flags on
abbrev from_flags : ℕ → Bool → Fields → List ℕ → Option Slot
from_flags next wide fields bytes = four_bytes (is_some fields.flags) bytes (from_width next wide fields)

-- the first byte says which fields are there
fields_told : (next : ℕ) (wide : Bool) (fields : Fields) (bytes : List ℕ) → slot_at next wide (first_byte fields) bytes ≡ from_flags next wide fields bytes
fields_told next wide fields bytes =
    λ i. four_bytes (first_bit fields 0 i) bytes (λ flags rest.
    place_bytes (wide && first_bit fields 4 i) (first_bit fields 1 i) rest (λ width rest.
    place_bytes (wide && first_bit fields 5 i) (first_bit fields 2 i) rest (λ precision rest.
    place_bytes wide (first_bit fields 3 i) rest (λ index rest. slot_from next (first_byte fields) flags width precision index))))

-- the fields of a slot are read back behind its first byte, whatever stands behind them
fields_read : (next : ℕ) (wide : Bool) (fields : Fields) (rest : List ℕ) → slot_at next wide (first_byte fields) (fields_bytes wide fields ++ rest) ≡ slot_of next fields
fields_read next wide fields rest =
    let index = index_bytes wide fields.index ++ rest in
    let precision = field_bytes wide fields.precision ++ index in
    let width = field_bytes wide fields.width ++ precision in
    let in_a_row : fields_bytes wide fields ++ rest ≡ flags_bytes fields.flags ++ width = simp append_assoc in
    fields_told next wide fields (fields_bytes wide fields ++ rest)
    ∙ (ap (from_flags next wide fields) in_a_row
    ∙ (flags_read fields.flags width (from_width next wide fields)
    ∙ (field_read wide fields.width precision (from_precision next wide fields fields.flags)
    ∙ (field_read wide fields.precision index (from_index next wide fields fields.flags (number_in fields.width))
    ∙ index_read wide fields.index rest
    (λ place rest. slot_from next (first_byte fields) fields.flags (number_in fields.width) (number_in fields.precision) place)))))

-- the size of flags
flags_size : (flags : Option ℕ) → bytes_if (is_some flags) 4 ≡ length (flags_bytes flags)
flags_size None = refl
flags_size (Some n) = refl

-- the size of a width or a precision
field_size : (wide : Bool) (field : Field) → bytes_if (is_there field) (cond (wide && is_indirect field) 4 2) ≡ length (field_bytes wide field)
field_size wide Absent = refl
field_size true (Direct n) = refl
field_size false (Direct n) = refl
field_size true (Indirect n) = refl
field_size false (Indirect n) = refl

-- the size of an index
index_size : (wide : Bool) (index : Option ℕ) → bytes_if (is_some index) (cond wide 4 2) ≡ length (index_bytes wide index)
index_size wide None = refl
index_size true (Some n) = refl
index_size false (Some n) = refl

-- the first byte says how long the fields are
size_is : (wide : Bool) (fields : Fields) → fields_size wide (first_byte fields) ≡ length (fields_bytes wide fields)
size_is wide fields =
    let told : fields_size wide (first_byte fields) ≡ bytes_if (is_some fields.flags) 4
    + (bytes_if (is_there fields.width) (cond (wide && is_indirect fields.width) 4 2)
    + (bytes_if (is_there fields.precision) (cond (wide && is_indirect fields.precision) 4 2) + bytes_if (is_some fields.index) (cond wide 4 2))) =
    λ i. bytes_if (first_bit fields 0 i) 4
    + (bytes_if (first_bit fields 1 i) (cond (wide && first_bit fields 4 i) 4 2)
    + (bytes_if (first_bit fields 2 i) (cond (wide && first_bit fields 5 i) 4 2) + bytes_if (first_bit fields 3 i) (cond wide 4 2))) in
    simp (length-append) (told ∙ (λ i. flags_size fields.flags i + (field_size wide fields.width i + (field_size wide fields.precision i + index_size wide fields.index i))))

-- bytes that were read already are passed
passed : (next : ℕ) (bytes rest : List ℕ) → items_of next (length bytes) (bytes ++ rest) ≡ items_of next 0 rest
passed next [] rest = refl
passed next (b ∷ bytes) rest = passed next bytes rest

-- behind the fields of a slot
behind : (place : ℕ) (wide : Bool) (fields : Fields) (rest : List ℕ) → items_of place (fields_size wide (first_byte fields)) (fields_bytes wide fields ++ rest) ≡ items_of place 0 rest
behind place wide fields rest = ap (λ n. items_of place n (fields_bytes wide fields ++ rest)) (size_is wide fields) ∙ passed place (fields_bytes wide fields) rest

-- a byte from C0 on begins a slot
slot_begins : (next first : ℕ) (bytes : List ℕ) → 192 ≤ first
    → items_of next 0 (first ∷ bytes) ≡ with_slot (slot_at next false first bytes) (λ place. items_of place (fields_size false first) bytes)
slot_begins next first bytes high =
    let end : nat_eq first 0 ≡ false = grind (arith, nat_tests) in
    let short : nat_lt first 128 ≡ false = grind (arith, nat_tests) in
    let long : nat_eq first 128 ≡ false = grind (arith, nat_tests) in
    let wide : nat_eq first 129 ≡ false = grind (arith, nat_tests) in
    let nothing : nat_lt first 192 ≡ false = grind (arith, nat_tests) in
    rw (end, short, long, wide, nothing)

-- the first byte is C0 or above
first_high : (fields : Fields) → 192 ≤ first_byte fields
first_high fields = omega arith

-- a slot is read back, wide or not
read_as : (next : ℕ) (wide : Bool) (fields : Fields) (rest : List ℕ)
    → items_of next 0 (cond wide (129 ∷ first_byte fields ∷ fields_bytes true fields) (first_byte fields ∷ fields_bytes false fields) ++ rest)
    ≡ with_slot (slot_of next fields) (λ place. items_of place 0 rest)
read_as next true fields rest =
    let high : nat_lt (first_byte fields) 192 ≡ false = grind (arith, nat_tests, first_high fields) in
    λ i. cond (high i) None (with_slot (fields_read next true fields rest i) (λ place. behind place true fields rest i))
read_as next false fields rest =
    slot_begins next (first_byte fields) (fields_bytes false fields ++ rest) (first_high fields)
    ∙ (λ i. with_slot (fields_read next false fields rest i) (λ place. behind place false fields rest i))

-- a slot is read back from its bytes, and then what is behind them
pub read_slot : (next : ℕ) (fields : Fields) (rest : List ℕ) → items_of next 0 (slot_bytes fields ++ rest) ≡ with_slot (slot_of next fields) (λ place. items_of place 0 rest)
read_slot next fields rest = read_as next (is_wide fields) fields rest
