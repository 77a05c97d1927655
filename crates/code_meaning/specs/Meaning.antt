-- The list of writes that a value means.
use Rattle.std.specs.Prelude.{ℕ, List, [], ◌∷◌, Option, Some, None, map}
use Rattle.code_meaning.specs.Write.{FormattingOptions, Count, NoCount, Is, Of, Write, Byte, Put}
use Rattle.code_meaning.specs.Value.{By, AsCount, Value, Values, Made, Arguments, FromText, value_at}
use Rattle.code_meaning.specs.Template.{Slot, TemplateItem, ByteItem, SlotItem, decoded}

-- the writes of values
abbrev pub Writes : Type 0
Writes = List (Write Value)

-- what stands as a count, where it does
abbrev pub counted : Option Value → Option (Count Value)
counted (Some (Made AsCount v)) = Some (Of v)
counted _ = None

-- a count of a slot, with the value of the argument at its place
abbrev pub count_in : Values → Count ℕ → Option (Count Value)
count_in vs NoCount = Some NoCount
count_in vs (Is n) = Some (Is n)
count_in vs (Of place) = counted (value_at vs place)

-- an argument made for a trait, put with these options and counts
abbrev pub put_with : Option Value → FormattingOptions → Option (Count Value) → Option (Count Value) → Option (Write Value)
put_with (Some (Made (By by) v)) options (Some width) (Some precision) =
    Some (Put v (record { by = by; options = options; width = width; precision = precision }))
put_with _ options _ _ = None

-- the put of a slot: nothing where an argument that it names is missing or of the other kind
abbrev pub put_of : Values → Slot → Option (Write Value)
put_of vs slot = put_with (value_at vs slot.place) slot.options (count_in vs slot.width) (count_in vs slot.precision)

abbrev pub in_front : Option (Write Value) → Option Writes → Option Writes
in_front (Some write) (Some writes) = Some (write ∷ writes)
in_front _ _ = None

-- the writes of bytes and slots over a list of arguments
abbrev pub writes_in : Values → List TemplateItem → Option Writes
writes_in vs [] = Some []
writes_in vs (ByteItem b ∷ items) = in_front (Some (Byte b)) (writes_in vs items)
writes_in vs (SlotItem slot ∷ items) = in_front (put_of vs slot) (writes_in vs items)

abbrev pub writes_over : Values → Option (List TemplateItem) → Option Writes
writes_over vs None = None
writes_over vs (Some items) = writes_in vs items

-- a text means its bytes, and template bytes with arguments the writes of what they decode to
abbrev pub meaning : Value → Option Writes
meaning (FromText text) = Some (map Byte text)
meaning (Arguments bytes vs) = writes_over vs (decoded bytes)
meaning _ = None
