-- How the items of slots and characters come from fields and chunks, and back.
use Rattle.std.specs.Prelude.{ℕ, suc, List, [], ◌∷◌, ◌++◌, map, encode_utf8, Option, Some}
use Rattle.std.specs.Str.{encode_utf8_all}
use Rattle.code_meaning.specs.Template.{Slot, TemplateItem, ByteItem, SlotItem, with_item, with_slot}
use Rattle.template_bytes.specs.Pairs.{Pair, slot_among}
use Rattle.template_bytes.specs.Fields.{Fields, fields_for, slot_of, IsSlot}
use Rattle.template_bytes.specs.Chunks.{Part, Letter, Stop, Cut, Chunk, Mark}
use Rattle.template_bytes.specs.Cutting.{cuts_of}
use Rattle.template_bytes.specs.Spelling.{spelled, Placed}

-- each byte as an item, in front of the items behind them
abbrev pub with_all : List ℕ → Option (List TemplateItem) → Option (List TemplateItem)
with_all [] more = more
with_all (b ∷ bytes) more = with_item (ByteItem b) (with_all bytes more)

-- what chunks and fields say
abbrev pub said : ℕ → List (Cut Fields) → Option (List TemplateItem)
said next [] = Some []
said next (Chunk cs ∷ cuts) = with_all (encode_utf8_all cs) (said next cuts)
said next (Mark fields ∷ cuts) = with_slot (slot_of next fields) (λ place. said place cuts)

-- the items of characters and slots
abbrev pub items_in : List (Part Slot) → List TemplateItem
items_in [] = []
items_in (Letter c ∷ parts) = map ByteItem (encode_utf8 c) ++ items_in parts
items_in (Stop slot ∷ parts) = SlotItem slot ∷ items_in parts

-- slots as their fields
abbrev pub fields_cuts : ℕ → List (Cut Slot) → List (Cut Fields)
fields_cuts next [] = []
fields_cuts next (Chunk cs ∷ cuts) = Chunk cs ∷ fields_cuts next cuts
fields_cuts next (Mark slot ∷ cuts) = Mark (fields_for next slot) ∷ fields_cuts (suc slot.place) cuts

-- the place behind the last slot
abbrev pub place_behind_all : ℕ → List (Cut Slot) → ℕ
place_behind_all next [] = next
place_behind_all next (Chunk cs ∷ cuts) = place_behind_all next cuts
place_behind_all next (Mark slot ∷ cuts) = place_behind_all (suc slot.place) cuts

-- the canonical bytes of characters and slots
abbrev pub spelling_of : List (Part Slot) → List ℕ
spelling_of parts = spelled (fields_cuts 0 (cuts_of parts))

-- each slot has fields
abbrev pub AreSlots : List (Part Slot) → Type 0
AreSlots [] = Unit {0}
AreSlots (Letter c ∷ parts) = AreSlots parts
AreSlots (Stop slot ∷ parts) = IsSlot slot × AreSlots parts

-- placeholders as slots, with places of pairs in place of arguments
abbrev pub slots_among : List Pair → List (Part Placed) → List (Part Slot)
slots_among pairs [] = []
slots_among pairs (Letter c ∷ parts) = Letter c ∷ slots_among pairs parts
slots_among pairs (Stop placed ∷ parts) = Stop (slot_among pairs placed.argument placed.asked) ∷ slots_among pairs parts
