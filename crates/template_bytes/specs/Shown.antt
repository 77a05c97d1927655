-- Fields and slots of the code, as those of the definitions.
use Rattle.std.specs.Prelude.{◌≡◌, ℕ, List, ◌++◌}
use Rattle.code_meaning.specs.Write.{FormattingOptions, Count, NoCount, Is, Of}
use Rattle.code_meaning.specs.Template.{Slot}
use Rattle.hir_fmt.specs.declared.format_args.FormatPlaceholder.{FormatPlaceholder}
use Rattle.template_bytes.specs.Canonical.{reference_of, options_of, asked_of}
use Rattle.template_bytes.specs.Pairs.{Pair, uses_of, slot_among}
use Rattle.template_bytes.specs.Spelling.{IsWritable}
use Rattle.template_bytes.specs.Fields.{Field, Absent, Direct, Indirect, Fields, flags_of}
use Rattle.template_bytes.specs.declared.fields.Field as field
use Rattle.template_bytes.specs.declared.fields.Field.TheVariants as field_of
use Rattle.template_bytes.specs.declared.fields.Fields as fields
use Rattle.template_bytes.specs.declared.slot.Count as count
use Rattle.template_bytes.specs.declared.slot.Count.TheVariants as count_of
use Rattle.template_bytes.specs.declared.slot.Slot as slot

abbrev pub shown_field : field.Field → Field
shown_field field_of.Absent = Absent
shown_field (field_of.Direct n) = Direct n
shown_field (field_of.Indirect place) = Indirect place

abbrev pub shown_fields : fields.Fields → Fields
shown_fields fields = record {
  flags = fields.flags;
  width = shown_field fields.width;
  precision = shown_field fields.precision;
  index = fields.index;
}

abbrev pub shown_count : count.Count → Count ℕ
shown_count count_of.Absent = NoCount
shown_count (count_of.Number n) = Is n
shown_count (count_of.Place place) = Of place

-- a slot of the code is this slot
pub record IsShown (coded : slot.Slot) (slot : Slot) : Type 0 where
  pub place : coded.place ≡ slot.place
  pub flags : coded.flags ≡ flags_of slot
  pub width : shown_count coded.width ≡ slot.width
  pub precision : shown_count coded.precision ≡ slot.precision

-- a slot of the code under these options
abbrev pub shown_slot : FormattingOptions → slot.Slot → Slot
shown_slot options coded = record {
  place = coded.place;
  options = options;
  width = shown_count coded.width;
  precision = shown_count coded.precision;
}

-- the uses of a placeholder
abbrev pub placeholder_uses : FormatPlaceholder → List Pair
placeholder_uses placeholder = uses_of (reference_of placeholder.argument) (asked_of placeholder)

-- a placeholder as a slot
abbrev pub placeholder_slot : List Pair → FormatPlaceholder → Slot
placeholder_slot pairs placeholder = slot_among pairs (reference_of placeholder.argument) (asked_of placeholder)

-- a slot of the code is that of a placeholder, whatever pairs come behind these
pub record IsSlotOf (coded : slot.Slot) (pairs : List Pair) (placeholder : FormatPlaceholder) : Type 0 where
  pub among : (more : List Pair) → placeholder_slot (pairs ++ more) placeholder ≡ shown_slot (options_of placeholder.format_options) coded
  pub flags : coded.flags ≡ flags_of (shown_slot (options_of placeholder.format_options) coded)
  pub writable : IsWritable (asked_of placeholder)
