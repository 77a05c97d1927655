-- Template bytes are related to a list of bytes and slots by the first byte of each item.
--
--   00            the end, and the last byte
--   01 to 7F      a literal of that many bytes
--   80            a literal, with a length of two bytes
--   C0 to FF      a slot with the fields that the bits of this byte name
--   81            a slot whose places have four bytes: behind it stand a byte from C0 on and its fields
--
-- Numbers stand low byte first. Whatever is not listed decodes to nothing.
use Rattle.std.specs.Prelude.{ℕ, zero, suc, ◌+◌, ◌*◌, ◌/◌, ◌%◌, ◌^◌, Bool, true, false, ◌&&◌, ◌||◌, not, cond, List, [], ◌∷◌, nat_eq, nat_lt, Option, Some, None, unwrap_or}
use Rattle.code_meaning.specs.Write.{Alignment, Left, Right, Center, Sign, Plus, Minus, DebugHex, Lower, Upper, FormattingOptions, Count, NoCount, Is, Of}

-- a slot for one argument: its place among the arguments, options, and counts that may be the places of arguments
pub record Slot : Type 0 where
  pub place : ℕ
  pub options : FormattingOptions
  pub width : Count ℕ
  pub precision : Count ℕ

pub data TemplateItem : Type 0 where
  ByteItem : ℕ → TemplateItem
  SlotItem : Slot → TemplateItem

-- the bit of a number at a place
abbrev pub bit : ℕ → ℕ → Bool
bit place n = nat_eq ((n / (2 ^ place)) % 2) 1

-- whether a number is a Unicode scalar value
abbrev pub is_scalar : ℕ → Bool
is_scalar c = nat_lt c 55296 || (nat_lt 57343 c && nat_lt c 1114112)

-- Flags, bit by bit: 0 to 20 the fill, 21 sign plus, 22 sign minus, 23 alternate, 24 zero flag, 25 and 26 debug hexadecimal lower and
-- upper, 27 a width is given, 28 a precision is given, 29 and 30 the alignment, 31 unused.

abbrev pub fill_of : ℕ → ℕ
fill_of flags = flags % 2097152

abbrev pub sign_of : Bool → Bool → Option Sign
sign_of true minus = Some Plus
sign_of false true = Some Minus
sign_of false false = None

abbrev pub debug_hex_of : Bool → Bool → Option DebugHex
debug_hex_of true upper = Some Lower
debug_hex_of false true = Some Upper
debug_hex_of false false = None

-- 0 left, 1 right, 2 center, 3 none, by the low bit and the high bit
abbrev pub alignment_of : Bool → Bool → Option Alignment
alignment_of false false = Some Left
alignment_of true false = Some Right
alignment_of false true = Some Center
alignment_of true true = None

-- the fill is a character, bit 31 is 0, and neither both signs nor both debug hexadecimal bits are set
abbrev pub are_flags : ℕ → Bool
are_flags flags =
    is_scalar (fill_of flags) && (not (bit 31 flags) && (not (bit 21 flags && bit 22 flags) && not (bit 25 flags && bit 26 flags)))

abbrev pub options_of : ℕ → FormattingOptions
options_of flags = record {
  fill = fill_of flags;
  alignment = alignment_of (bit 29 flags) (bit 30 flags);
  sign = sign_of (bit 21 flags) (bit 22 flags);
  alternate = bit 23 flags;
  zero_pad = bit 24 flags;
  debug_hex = debug_hex_of (bit 25 flags) (bit 26 flags);
}

-- the flags where no field gives them: a space as fill, no alignment, nothing else
abbrev pub plain_flags : ℕ
plain_flags = 1610612768

-- a count, from its flag bit, its field and whether the field is the place of an argument: none without the flag, 0 without the field;
-- a field without the flag, or an indirect one that is not there, is no count
abbrev pub count_from : Bool → Option ℕ → Bool → Option (Count ℕ)
count_from false None false = Some NoCount
count_from true None false = Some (Is 0)
count_from true (Some n) false = Some (Is n)
count_from true (Some n) true = Some (Of n)
count_from _ _ _ = None

abbrev pub slot_with : ℕ → FormattingOptions → Option (Count ℕ) → Option (Count ℕ) → Option Slot
slot_with place options (Some width) (Some precision) = Some (record { place = place; options = options; width = width; precision = precision })
slot_with place options _ _ = None

-- a slot from the place that comes next, its first byte and its fields
abbrev pub slot_from : ℕ → ℕ → Option ℕ → Option ℕ → Option ℕ → Option ℕ → Option Slot
slot_from next first flags width precision index =
    cond (are_flags (unwrap_or flags plain_flags))
    (slot_with (unwrap_or index next) (options_of (unwrap_or flags plain_flags))
    (count_from (bit 27 (unwrap_or flags plain_flags)) width (bit 4 first))
    (count_from (bit 28 (unwrap_or flags plain_flags)) precision (bit 5 first)))
    None

module _ {A : Type 0} where
  -- a field of two bytes, where the bit for it is set
  abbrev pub two_bytes : Bool → List ℕ → (Option ℕ → List ℕ → Option A) → Option A
  two_bytes false bytes go = go None bytes
  two_bytes true (low ∷ high ∷ rest) go = go (Some (low + 256 * high)) rest
  two_bytes true _ go = None

  -- a field of four bytes, where the bit for it is set
  abbrev pub four_bytes : Bool → List ℕ → (Option ℕ → List ℕ → Option A) → Option A
  four_bytes false bytes go = go None bytes
  four_bytes true (a ∷ b ∷ c ∷ d ∷ rest) go = go (Some (a + 256 * (b + 256 * (c + 256 * d)))) rest
  four_bytes true _ go = None

  -- a place has four bytes in a wide slot, and two in a narrow one
  abbrev pub place_bytes : Bool → Bool → List ℕ → (Option ℕ → List ℕ → Option A) → Option A
  place_bytes true there bytes go = four_bytes there bytes go
  place_bytes false there bytes go = two_bytes there bytes go

-- the fields behind a first byte: flags by bit 0, width by bit 1, precision by bit 2, index by bit 3; bits 4 and 5 say that width and
-- precision are places of arguments
abbrev pub slot_at : ℕ → Bool → ℕ → List ℕ → Option Slot
slot_at next is_wide first bytes =
    four_bytes (bit 0 first) bytes (λ flags rest.
    place_bytes (is_wide && bit 4 first) (bit 1 first) rest (λ width rest.
    place_bytes (is_wide && bit 5 first) (bit 2 first) rest (λ precision rest.
    place_bytes is_wide (bit 3 first) rest (λ index rest.
    slot_from next first flags width precision index))))

abbrev pub bytes_if : Bool → ℕ → ℕ
bytes_if true n = n
bytes_if false n = 0

-- how many bytes the fields behind a first byte take
abbrev pub fields_size : Bool → ℕ → ℕ
fields_size is_wide first =
    bytes_if (bit 0 first) 4
    + (bytes_if (bit 1 first) (cond (is_wide && bit 4 first) 4 2)
    + (bytes_if (bit 2 first) (cond (is_wide && bit 5 first) 4 2)
    + bytes_if (bit 3 first) (cond is_wide 4 2)))

-- an item in front of those behind it
abbrev pub with_item : TemplateItem → Option (List TemplateItem) → Option (List TemplateItem)
with_item item None = None
with_item item (Some items) = Some (item ∷ items)

-- this many bytes of a literal, in front of the items behind them
abbrev pub with_bytes : ℕ → List ℕ → Option (List TemplateItem) → Option (List TemplateItem)
with_bytes zero bytes more = more
with_bytes (suc n) [] more = None
with_bytes (suc n) (b ∷ bytes) more = with_item (ByteItem b) (with_bytes n bytes more)

-- a slot in front of the items behind it, which begin at the place after its own
abbrev pub with_slot : Option Slot → (ℕ → Option (List TemplateItem)) → Option (List TemplateItem)
with_slot None go = None
with_slot (Some slot) go = with_item (SlotItem slot) (go (suc slot.place))

-- the end is the last byte
abbrev pub at_end : List ℕ → Option (List TemplateItem)
at_end [] = Some []
at_end (b ∷ bytes) = None

-- a literal with a length of two bytes; `go` reads on behind so many bytes and the length
abbrev pub long_literal : List ℕ → (ℕ → Option (List TemplateItem)) → Option (List TemplateItem)
long_literal (low ∷ high ∷ rest) go = with_bytes (low + 256 * high) rest (go (low + 256 * high))
long_literal _ go = None

-- a wide slot, from its first byte on; `go` reads on behind that byte and so many bytes of fields
abbrev pub wide_slot : ℕ → List ℕ → (ℕ → ℕ → Option (List TemplateItem)) → Option (List TemplateItem)
wide_slot next [] go = None
wide_slot next (first ∷ rest) go =
    cond (nat_lt first 192) None (with_slot (slot_at next true first rest) (λ place. go place (fields_size true first)))

-- the items of template bytes, of which the first `passed` were read already; `next` is one more than the place of the slot before
abbrev pub items_of : ℕ → ℕ → List ℕ → Option (List TemplateItem)
items_of next passed [] = None
items_of next (suc passed) (b ∷ bytes) = items_of next passed bytes
items_of next zero (b ∷ bytes) =
    cond (nat_eq b 0) (at_end bytes)
    (cond (nat_lt b 128) (with_bytes b bytes (items_of next b bytes))
    (cond (nat_eq b 128) (long_literal bytes (λ n. items_of next (suc (suc n)) bytes))
    (cond (nat_eq b 129) (wide_slot next bytes (λ place passed. items_of place (suc passed) bytes))
    (cond (nat_lt b 192) None
    (with_slot (slot_at next false b bytes) (λ place. items_of place (fields_size false b) bytes))))))

-- template bytes decode to these bytes and slots
abbrev pub decoded : List ℕ → Option (List TemplateItem)
decoded bytes = items_of 0 0 bytes
