-- The fields of a slot, and their bytes: a first byte that says which stand there, and the fields in the order flags, width, precision, index.
use Rattle.std.specs.Prelude.{◌≢◌, ℕ, suc, ◌+◌, ◌/◌, ◌%◌, ◌<◌, ◌≤◌, Bool, true, false, ◌||◌, cond, nat_eq, nat_lt, IsTrue, List, [], ◌∷◌, ◌++◌, Option, Some, None, is_some, unwrap_or}
use Rattle.code_meaning.specs.Write.{Count, NoCount, Is, Of}
use Rattle.code_meaning.specs.Template.{Slot, plain_flags, slot_from, is_scalar}
use Rattle.template_bytes.specs.Flags.{flag_if, flags_word}

-- a field for a width or a precision: none, a number, or the place of a pair
pub data Field : Type 0 where
  Absent : Field
  Direct : ℕ → Field
  Indirect : ℕ → Field

pub record Fields : Type 0 where
  pub flags : Option ℕ
  pub width : Field
  pub precision : Field
  pub index : Option ℕ

abbrev pub is_there : Field → Bool
is_there Absent = false
is_there (Direct n) = true
is_there (Indirect place) = true

abbrev pub is_indirect : Field → Bool
is_indirect Absent = false
is_indirect (Direct n) = false
is_indirect (Indirect place) = true

-- bit 0 flags, 1 width, 2 precision, 3 index, 4 an indirect width, 5 an indirect precision; bits 6 and 7 are set
abbrev pub first_byte : Fields → ℕ
first_byte fields =
    192
    + (flag_if (is_some fields.flags) 1
    + (flag_if (is_there fields.width) 2
    + (flag_if (is_there fields.precision) 4
    + (flag_if (is_some fields.index) 8
    + (flag_if (is_indirect fields.width) 16
    + flag_if (is_indirect fields.precision) 32)))))

-- whether a place needs more than two bytes
abbrev pub is_big : ℕ → Bool
is_big place = nat_lt 65535 place

abbrev pub is_big_index : Option ℕ → Bool
is_big_index None = false
is_big_index (Some place) = is_big place

abbrev pub is_big_field : Field → Bool
is_big_field Absent = false
is_big_field (Direct n) = false
is_big_field (Indirect place) = is_big place

-- wide exactly where a place needs it
abbrev pub is_wide : Fields → Bool
is_wide fields = is_big_index fields.index || (is_big_field fields.width || is_big_field fields.precision)

-- a number in two bytes and in four, low byte first
abbrev pub in_two_bytes : ℕ → List ℕ
in_two_bytes n = n % 256 ∷ n / 256 ∷ []

abbrev pub in_four_bytes : ℕ → List ℕ
in_four_bytes n = n % 256 ∷ n / 256 % 256 ∷ n / 65536 % 256 ∷ n / 16777216 ∷ []

-- a place has four bytes in a wide slot, and two in a narrow one
abbrev pub place_in_bytes : Bool → ℕ → List ℕ
place_in_bytes wide place = cond wide (in_four_bytes place) (in_two_bytes place)

abbrev pub flags_bytes : Option ℕ → List ℕ
flags_bytes None = []
flags_bytes (Some flags) = in_four_bytes flags

abbrev pub field_bytes : Bool → Field → List ℕ
field_bytes wide Absent = []
field_bytes wide (Direct n) = in_two_bytes n
field_bytes wide (Indirect place) = place_in_bytes wide place

abbrev pub index_bytes : Bool → Option ℕ → List ℕ
index_bytes wide None = []
index_bytes wide (Some place) = place_in_bytes wide place

abbrev pub fields_bytes : Bool → Fields → List ℕ
fields_bytes wide fields = flags_bytes fields.flags ++ (field_bytes wide fields.width ++ (field_bytes wide fields.precision ++ index_bytes wide fields.index))

-- a slot is its first byte and its fields; a wide one has 81 in front
abbrev pub slot_bytes : Fields → List ℕ
slot_bytes fields = cond (is_wide fields) (129 ∷ first_byte fields ∷ fields_bytes true fields) (first_byte fields ∷ fields_bytes false fields)

-- each field fits in its bytes
abbrev pub FitsFlags : Option ℕ → Type 0
FitsFlags None = Unit {0}
FitsFlags (Some flags) = flags < 4294967296

abbrev pub FitsField : Field → Type 0
FitsField Absent = Unit {0}
FitsField (Direct n) = n ≤ 65535
FitsField (Indirect place) = place < 4294967296

abbrev pub FitsIndex : Option ℕ → Type 0
FitsIndex None = Unit {0}
FitsIndex (Some place) = place < 4294967296

pub record AreSized (fields : Fields) : Type 0 where
  pub flags : FitsFlags fields.flags
  pub width : FitsField fields.width
  pub precision : FitsField fields.precision
  pub index : FitsIndex fields.index

-- a field stands only where it says something: flags that are not plain, a number that is not 0, a place that is not the next one
abbrev pub SaysFlags : Option ℕ → Type 0
SaysFlags None = Unit {0}
SaysFlags (Some flags) = flags ≢ plain_flags

abbrev pub SaysField : Field → Type 0
SaysField Absent = Unit {0}
SaysField (Direct n) = n ≢ 0
SaysField (Indirect place) = Unit {0}

abbrev pub SaysIndex : ℕ → Option ℕ → Type 0
SaysIndex next None = Unit {0}
SaysIndex next (Some place) = place ≢ next

pub record AreShort (next : ℕ) (fields : Fields) : Type 0 where
  pub flags : SaysFlags fields.flags
  pub width : SaysField fields.width
  pub precision : SaysField fields.precision
  pub index : SaysIndex next fields.index

-- the place behind a slot: one more than its own
abbrev pub place_behind : ℕ → Fields → ℕ
place_behind next fields = suc (unwrap_or fields.index next)

-- A slot's fields

-- a number that is left out where it is this one
abbrev pub unless : ℕ → ℕ → Option ℕ
unless usual n = cond (nat_eq n usual) None (Some n)

abbrev pub is_given : {A : Type 0} → Count A → Bool
is_given NoCount = false
is_given (Is n) = true
is_given (Of a) = true

abbrev pub direct_field : Option ℕ → Field
direct_field None = Absent
direct_field (Some n) = Direct n

abbrev pub field_for : Count ℕ → Field
field_for NoCount = Absent
field_for (Is n) = direct_field (unless 0 n)
field_for (Of place) = Indirect place

-- the flags of a slot
abbrev pub flags_of : Slot → ℕ
flags_of slot = flags_word slot.options (is_given slot.width) (is_given slot.precision)

-- the fields of a slot: flags, a number and a place are left out where they say nothing
abbrev pub fields_for : ℕ → Slot → Fields
fields_for next slot = record {
  flags = unless plain_flags (flags_of slot);
  width = field_for slot.width;
  precision = field_for slot.precision;
  index = unless next slot.place;
}

-- what the fields of a slot say, where the slot in front of it has the place before this one
abbrev pub number_in : Field → Option ℕ
number_in Absent = None
number_in (Direct n) = Some n
number_in (Indirect place) = Some place

abbrev pub slot_of : ℕ → Fields → Option Slot
slot_of next fields = slot_from next (first_byte fields) fields.flags (number_in fields.width) (number_in fields.precision) fields.index

-- a slot that has fields: its fill is a character, its counts have at most 16 bits, and its places 32
abbrev pub FitsCount : Count ℕ → Type 0
FitsCount NoCount = Unit {0}
FitsCount (Is n) = n ≤ 65535
FitsCount (Of place) = place < 4294967296

pub record IsSlot (slot : Slot) : Type 0 where
  pub place : slot.place < 4294967296
  pub fill : IsTrue (is_scalar slot.options.fill)
  pub width : FitsCount slot.width
  pub precision : FitsCount slot.precision
