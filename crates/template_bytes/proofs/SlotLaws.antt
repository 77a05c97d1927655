-- The fields of a slot are read back as the slot, and a slot has one set of short fields.
use Rattle.std.proofs.Common.{◌≡◌, ℕ, suc, ◌<◌, ◌≤◌, Bool, true, false, cond, nat_eq, lit<, ne_eqb, eq-eqb, eqb-true, Option, Some, None, unwrap_or, refl, sym, ap, ◌∙◌}
use Rattle.std.proofs.lemmas.Option.{same_Some, none-some}
use borrow.Author.Tests.{eqb-false}
use Rattle.code_meaning.specs.Write.{Count, NoCount, Is, Of}
use Rattle.code_meaning.specs.Template.{Slot, bit, are_flags, options_of, plain_flags, count_from, slot_with}
use Rattle.template_bytes.specs.Flags.{flags_word}
use Rattle.template_bytes.specs.Fields.{Field, Absent, Direct, Indirect, Fields, is_indirect, AreSized, AreShort, FitsFlags, FitsField, FitsIndex, SaysFlags, SaysField, SaysIndex, place_behind, unless, is_given, direct_field, field_for, flags_of, fields_for, number_in, slot_of, FitsCount, IsSlot}
use Rattle.template_bytes.proofs.FlagLaws.{flags_fit, flags_are, options_back, width_back, precision_back, word_back}
use Rattle.template_bytes.proofs.SlotBytes.{first_bit}
pub use Rattle.template_bytes.proofs.SlotBytes.{read_slot}

-- the flags of a slot with these fields
abbrev word_in : Fields → ℕ
word_in fields = unwrap_or fields.flags plain_flags

-- what fields say of a slot
record Say (next : ℕ) (fields : Fields) (slot : Slot) : Type 0 where
  are : are_flags (word_in fields) ≡ true
  place : unwrap_or fields.index next ≡ slot.place
  options : options_of (word_in fields) ≡ slot.options
  width : count_from (bit 27 (word_in fields)) (number_in fields.width) (is_indirect fields.width) ≡ Some slot.width
  precision : count_from (bit 28 (word_in fields)) (number_in fields.precision) (is_indirect fields.precision) ≡ Some slot.precision

-- the first byte says which counts are places
slot_told : (next : ℕ) (fields : Fields) → slot_of next fields ≡
    cond (are_flags (word_in fields))
    (slot_with (unwrap_or fields.index next) (options_of (word_in fields))
    (count_from (bit 27 (word_in fields)) (number_in fields.width) (is_indirect fields.width))
    (count_from (bit 28 (word_in fields)) (number_in fields.precision) (is_indirect fields.precision)))
    None
slot_told next fields =
    λ i. cond (are_flags (word_in fields))
    (slot_with (unwrap_or fields.index next) (options_of (word_in fields))
    (count_from (bit 27 (word_in fields)) (number_in fields.width) (first_bit fields 4 i))
    (count_from (bit 28 (word_in fields)) (number_in fields.precision) (first_bit fields 5 i)))
    None

-- a slot that is there was made of these parts
made : (next : ℕ) (fields : Fields) (slot : Slot) (are : Bool) (width precision : Option (Count ℕ))
    → are_flags (word_in fields) ≡ are
    → count_from (bit 27 (word_in fields)) (number_in fields.width) (is_indirect fields.width) ≡ width
    → count_from (bit 28 (word_in fields)) (number_in fields.precision) (is_indirect fields.precision) ≡ precision
    → cond are (slot_with (unwrap_or fields.index next) (options_of (word_in fields)) width precision) None ≡ Some slot → Say next fields slot
made next fields slot false width precision are width_is precision_is there = absurd (none-some slot there)
made next fields slot true None precision are width_is precision_is there = absurd (none-some slot there)
made next fields slot true (Some width) None are width_is precision_is there = absurd (none-some slot there)
made next fields slot true (Some width) (Some precision) are width_is precision_is there =
    let same = same_Some _ _ there in
    record {
      are = are;
      place = ap (λ s. s.place) same;
      options = ap (λ s. s.options) same;
      width = width_is ∙ ap (λ s. Some s.width) same;
      precision = precision_is ∙ ap (λ s. Some s.precision) same;
    }

-- where there is a slot, its fields say what it is
says : (next : ℕ) (fields : Fields) (slot : Slot) → slot_of next fields ≡ Some slot → Say next fields slot
says next fields slot there = made next fields slot _ _ _ refl refl refl (sym (slot_told next fields) ∙ there)

-- a field that says something is the one for its count
field_is : (given : Bool) (field : Field) (count : Count ℕ) → count_from given (number_in field) (is_indirect field) ≡ Some count → SaysField field
    → (given ≡ is_given count) × (field ≡ field_for count)
field_is false Absent count there short = (ap is_given (same_Some _ _ there), ap field_for (same_Some _ _ there))
field_is true Absent count there short = (ap is_given (same_Some _ _ there), ap field_for (same_Some _ _ there))
field_is false (Direct n) count there short = absurd (none-some count there)
field_is true (Direct n) count there short =
    let something : nat_eq n 0 ≡ false = ne_eqb n 0 short in
    (ap is_given (same_Some _ _ there), ap (λ b. direct_field (cond b None (Some n))) (sym something) ∙ ap field_for (same_Some _ _ there))
field_is false (Indirect n) count there short = absurd (none-some count there)
field_is true (Indirect n) count there short = (ap is_given (same_Some _ _ there), ap field_for (same_Some _ _ there))

-- flags that say something are what is left of them where plain ones are left out
flags_again : (flags : Option ℕ) → SaysFlags flags → flags ≡ unless plain_flags (unwrap_or flags plain_flags)
flags_again None short = refl
flags_again (Some n) short = ap (λ b. cond b None (Some n)) (sym (ne_eqb n plain_flags short))

-- and so is an index where the next place is left out
index_again : (next : ℕ) (index : Option ℕ) → SaysIndex next index → index ≡ unless next (unwrap_or index next)
index_again next None short = ap (λ b. cond b None (Some next)) (sym (eq-eqb next next refl))
index_again next (Some n) short = ap (λ b. cond b None (Some n)) (sym (ne_eqb n next short))

-- flags have 32 bits
word_fits : (flags : Option ℕ) → FitsFlags flags → unwrap_or flags plain_flags < 4294967296
word_fits None fits = lit< tt
word_fits (Some n) fits = fits

-- a slot has one set of short fields
pub fields_are : (next : ℕ) (fields : Fields) (slot : Slot) → slot_of next fields ≡ Some slot → AreSized fields → AreShort next fields → fields ≡ fields_for next slot
fields_are next fields slot there sized short =
    let say = says next fields slot there in
    let width = field_is _ fields.width slot.width say.width short.width in
    let precision = field_is _ fields.precision slot.precision say.precision short.precision in
    let word : word_in fields ≡ flags_of slot =
    sym (word_back (word_in fields) (word_fits fields.flags sized.flags) say.are) ∙ (λ i. flags_word (say.options i) (width.0 i) (precision.0 i)) in
    let flags : fields.flags ≡ unless plain_flags (flags_of slot) = flags_again fields.flags short.flags ∙ ap (unless plain_flags) word in
    let index : fields.index ≡ unless next slot.place = index_again next fields.index short.index ∙ ap (unless next) say.place in
    λ i. record { flags = flags i; width = width.1 i; precision = precision.1 i; index = index i }

-- the place behind a slot is one more than its own
pub place_is : (next : ℕ) (fields : Fields) (slot : Slot) → slot_of next fields ≡ Some slot → place_behind next fields ≡ suc slot.place
place_is next fields slot there = let say = says next fields slot there in ap suc say.place

-- what is left out where it is the usual number is read back
unless_back : (usual n : ℕ) (same : Bool) → nat_eq n usual ≡ same → unwrap_or (cond same None (Some n)) usual ≡ n
unless_back usual n true is = sym (eqb-true n usual is)
unless_back usual n false is = refl

-- a number is read back from its field
number_back : (n : ℕ) (none : Bool) → nat_eq n 0 ≡ none
    → count_from true (number_in (direct_field (cond none None (Some n)))) (is_indirect (direct_field (cond none None (Some n)))) ≡ Some (Is n)
number_back n true is = ap (λ m. Some (Is m)) (sym (eqb-true n 0 is))
number_back n false is = refl

-- a count is read back from its field
count_back : (count : Count ℕ) → count_from (is_given count) (number_in (field_for count)) (is_indirect (field_for count)) ≡ Some count
count_back NoCount = refl
count_back (Is n) = number_back n (nat_eq n 0) refl
count_back (Of place) = refl

-- a slot is read back from its fields
pub slot_back : (next : ℕ) (slot : Slot) → IsSlot slot → slot_of next (fields_for next slot) ≡ Some slot
slot_back next slot is =
    let word : word_in (fields_for next slot) ≡ flags_of slot = unless_back plain_flags (flags_of slot) (nat_eq (flags_of slot) plain_flags) refl in
    let are : are_flags (word_in (fields_for next slot)) ≡ true = ap are_flags word ∙ flags_are slot.options (is_given slot.width) (is_given slot.precision) is.fill in
    let place : unwrap_or (unless next slot.place) next ≡ slot.place = unless_back next slot.place (nat_eq slot.place next) refl in
    let options : options_of (word_in (fields_for next slot)) ≡ slot.options = ap options_of word ∙ options_back slot.options (is_given slot.width) (is_given slot.precision) is.fill in
    let has_width : bit 27 (word_in (fields_for next slot)) ≡ is_given slot.width = ap (bit 27) word ∙ width_back slot.options (is_given slot.width) (is_given slot.precision) is.fill in
    let has_precision : bit 28 (word_in (fields_for next slot)) ≡ is_given slot.precision =
    ap (bit 28) word ∙ precision_back slot.options (is_given slot.width) (is_given slot.precision) is.fill in
    slot_told next (fields_for next slot)
    ∙ ((λ i. cond (are i) (slot_with (place i) (options i)
    (count_from (has_width i) (number_in (field_for slot.width)) (is_indirect (field_for slot.width)))
    (count_from (has_precision i) (number_in (field_for slot.precision)) (is_indirect (field_for slot.precision)))) None)
    ∙ (λ i. slot_with slot.place slot.options (count_back slot.width i) (count_back slot.precision i)))

-- flags fit in their bytes, left out or not
flags_sized : (n : ℕ) (same : Bool) → n < 4294967296 → FitsFlags (cond same None (Some n))
flags_sized n true fits = tt
flags_sized n false fits = fits

-- so does an index
index_fits : (n : ℕ) (same : Bool) → n < 4294967296 → FitsIndex (cond same None (Some n))
index_fits n true fits = tt
index_fits n false fits = fits

-- so does a number
number_fits : (n : ℕ) (none : Bool) → n ≤ 65535 → FitsField (direct_field (cond none None (Some n)))
number_fits n true fits = tt
number_fits n false fits = fits

-- so does the field of a count
field_fits : (count : Count ℕ) → FitsCount count → FitsField (field_for count)
field_fits NoCount fits = tt
field_fits (Is n) fits = number_fits n (nat_eq n 0) fits
field_fits (Of place) fits = fits

-- a slot's fields fit in their bytes
pub fields_sized : (next : ℕ) (slot : Slot) → IsSlot slot → AreSized (fields_for next slot)
fields_sized next slot is = record {
  flags = flags_sized (flags_of slot) (nat_eq (flags_of slot) plain_flags) (flags_fit slot.options (is_given slot.width) (is_given slot.precision) is.fill);
  width = field_fits slot.width is.width;
  precision = field_fits slot.precision is.precision;
  index = index_fits slot.place (nat_eq slot.place next) is.place;
}

-- flags that are left out where they are plain say something
flags_say : (n : ℕ) (same : Bool) → nat_eq n plain_flags ≡ same → SaysFlags (cond same None (Some n))
flags_say n true is = tt
flags_say n false is = λ e. eqb-false n plain_flags is e

-- so does an index that is left out where it is the next place
index_says : (next n : ℕ) (same : Bool) → nat_eq n next ≡ same → SaysIndex next (cond same None (Some n))
index_says next n true is = tt
index_says next n false is = λ e. eqb-false n next is e

-- so does a number that is left out where it is 0
number_says : (n : ℕ) (none : Bool) → nat_eq n 0 ≡ none → SaysField (direct_field (cond none None (Some n)))
number_says n true is = tt
number_says n false is = λ e. eqb-false n 0 is e

-- so does the field of a count
field_says : (count : Count ℕ) → SaysField (field_for count)
field_says NoCount = tt
field_says (Is n) = number_says n (nat_eq n 0) refl
field_says (Of place) = tt

-- a slot's fields say something
pub fields_short : (next : ℕ) (slot : Slot) → AreShort next (fields_for next slot)
fields_short next slot = record {
  flags = flags_say (flags_of slot) (nat_eq (flags_of slot) plain_flags) refl;
  width = field_says slot.width;
  precision = field_says slot.precision;
  index = index_says next slot.place (nat_eq slot.place next) refl;
}
