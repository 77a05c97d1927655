-- What chunks and fields say, and that short fields are those of slots.
use Rattle.std.specs.Prelude.{◌≡◌, ℕ, suc, ◌+◌, ◌<◌, List, [], ◌∷◌, ◌++◌, map, encode_utf8, Option, Some, None, refl}
use Rattle.std.specs.Str.{encode_utf8_all}
use Rattle.std.specs.Char.{len_utf8}
use Rattle.std.proofs.Common.{sym, ◌∙◌, ap, subst, append_assoc, arith}
use Rattle.std.proofs.lemmas.List.{map-append}
use Rattle.std.proofs.lemmas.Str.{len_utf8_bounds}
use Rattle.std.proofs.lemmas.Option.{same_Some}
use Rattle.code_meaning.specs.Template.{Slot, TemplateItem, ByteItem, SlotItem, with_item, with_slot, items_of}
use Rattle.template_bytes.specs.Fields.{Fields, slot_bytes, slot_of, fields_for}
use Rattle.template_bytes.specs.Chunks.{Part, Cut, Chunk, Mark, letters, parts_of, total, chunk_bytes, IsFull, AreLongest, bytes_by}
use Rattle.template_bytes.specs.Reading.{with_all, said, items_in, fields_cuts, AreSlots}
use Rattle.template_bytes.specs.Spelling.{HaveShortFields}
use Rattle.template_bytes.proofs.SlotLaws.{read_slot, fields_are, slot_back, fields_sized, fields_short, place_is}
use Rattle.template_bytes.proofs.ReadChunks.{read_chunk}

-- What chunks and fields say

-- where what is read behind a slot is the same, the whole is
slot_same : (slot : Option Slot) (go more : ℕ → Option (List TemplateItem)) → ((place : ℕ) → go place ≡ more place) → with_slot slot go ≡ with_slot slot more
slot_same None go more same = refl
slot_same (Some slot) go more same = ap (with_item (SlotItem slot)) (same (suc slot.place))

some_bytes : (c n : ℕ) → 0 < len_utf8 c + n
some_bytes c n = let size = len_utf8_bounds c in omega arith

-- chunks and slots are read as what they say
pub read_said : (next : ℕ) (cuts : List (Cut Fields)) → AreLongest cuts → items_of next 0 (bytes_by slot_bytes cuts ++ 0 ∷ []) ≡ said next cuts
read_said next [] longest = refl
read_said next (Chunk [] ∷ cuts) longest = absurd longest
read_said next (Chunk (c ∷ cs) ∷ cuts) longest =
    ap (items_of next 0) (append_assoc (chunk_bytes (encode_utf8_all (c ∷ cs))) (bytes_by slot_bytes cuts) (0 ∷ []))
    ∙ read_chunk next (c ∷ cs) (bytes_by slot_bytes cuts ++ 0 ∷ []) (some_bytes c (total cs))
    ∙ ap (with_all (encode_utf8_all (c ∷ cs))) (read_said next cuts longest.1.1)
read_said next (Mark fields ∷ cuts) longest =
    ap (items_of next 0) (append_assoc (slot_bytes fields) (bytes_by slot_bytes cuts) (0 ∷ []))
    ∙ read_slot next fields (bytes_by slot_bytes cuts ++ 0 ∷ [])
    ∙ slot_same (slot_of next fields) _ _ (λ place. read_said place cuts longest)

-- One list of parts

-- what was read behind bytes, and the whole
behind_all : (bytes : List ℕ) (more : Option (List TemplateItem)) (items : List TemplateItem) → with_all bytes more ≡ Some items
    → (rest : List TemplateItem) × (more ≡ Some rest) × (items ≡ map ByteItem bytes ++ rest)
behind_all [] more items is = (items, is, refl)
behind_all (b ∷ bytes) more items is = by_rest (with_all bytes more) refl is (behind_all bytes more)
  where
    by_rest : (o : Option (List TemplateItem)) → with_all bytes more ≡ o → with_item (ByteItem b) o ≡ Some items
        → ((xs : List TemplateItem) → with_all bytes more ≡ Some xs → (rest : List TemplateItem) × (more ≡ Some rest) × (xs ≡ map ByteItem bytes ++ rest))
        → (rest : List TemplateItem) × (more ≡ Some rest) × (items ≡ map ByteItem (b ∷ bytes) ++ rest)
    by_rest None e is known = absurd (cc)
    by_rest (Some xs) e is known = let h = known xs e in (h.0, h.1, sym (same_Some _ _ is) ∙ ap (λ ys. ByteItem b ∷ ys) h.2)

-- what was read behind a slot, and the whole
behind_slot : (slot : Option Slot) (go : ℕ → Option (List TemplateItem)) (items : List TemplateItem) → with_slot slot go ≡ Some items
    → (found : Slot) × (rest : List TemplateItem) × (slot ≡ Some found) × (go (suc found.place) ≡ Some rest) × (items ≡ SlotItem found ∷ rest)
behind_slot None go items is = absurd (cc)
behind_slot (Some slot) go items is = by_rest (go (suc slot.place)) refl is
  where
    by_rest : (o : Option (List TemplateItem)) → go (suc slot.place) ≡ o → with_item (SlotItem slot) o ≡ Some items
        → (found : Slot) × (rest : List TemplateItem) × (◌≡◌ {A = Option Slot} (Some slot) (Some found)) × (go (suc found.place) ≡ Some rest) × (items ≡ SlotItem found ∷ rest)
    by_rest None e is = absurd (cc)
    by_rest (Some rest) e is = (slot, rest, refl, e, sym (same_Some _ _ is))

pub items_in-letters : (cs : List ℕ) (parts : List (Part Slot)) → items_in (letters cs parts) ≡ map ByteItem (encode_utf8_all cs) ++ items_in parts
items_in-letters [] parts = refl
items_in-letters (c ∷ cs) parts =
    ap (λ items. map ByteItem (encode_utf8 c) ++ items) (items_in-letters cs parts)
    ∙ sym (append_assoc (map ByteItem (encode_utf8 c)) (map ByteItem (encode_utf8_all cs)) (items_in parts))
    ∙ ap (λ items. items ++ items_in parts) (sym (map-append ByteItem (encode_utf8 c) (encode_utf8_all cs)))

-- fields that are short are those of slots, and say the items of these
pub record AreOfSlots (next : ℕ) (cuts : List (Cut Fields)) (items : List TemplateItem) : Type 0 where
  pub slots : List (Cut Slot)
  pub are : cuts ≡ fields_cuts next slots
  pub say : items ≡ items_in (parts_of slots)

pub said_of_slots : (next : ℕ) (cuts : List (Cut Fields)) (items : List TemplateItem) → said next cuts ≡ Some items → HaveShortFields next cuts → AreOfSlots next cuts items
said_of_slots next [] items is short = record { slots = []; are = refl; say = sym (same_Some _ _ is) }
said_of_slots next (Chunk cs ∷ cuts) items is short =
    let h = behind_all (encode_utf8_all cs) (said next cuts) items is in
    let more = said_of_slots next cuts h.0 h.1 short in
    record {
      slots = Chunk cs ∷ more.slots;
      are = ap (λ xs. Chunk cs ∷ xs) more.are;
      say = h.2 ∙ ap (λ xs. map ByteItem (encode_utf8_all cs) ++ xs) more.say ∙ sym (items_in-letters cs (parts_of more.slots));
    }
said_of_slots next (Mark fields ∷ cuts) items is short =
    let h = behind_slot (slot_of next fields) (λ place. said place cuts) items is in
    let more = said_of_slots (suc h.0.place) cuts h.1 h.3 (subst (λ place. HaveShortFields place cuts) (place_is next fields h.0 h.2) short.1.1) in
    record {
      slots = Mark h.0 ∷ more.slots;
      are = ap (λ xs. Mark fields ∷ xs) more.are ∙ ap (λ (f : Fields). Mark f ∷ fields_cuts (suc h.0.place) more.slots) (fields_are next fields h.0 h.2 short.0 short.1.0);
      say = h.4 ∙ ap (λ xs. SlotItem h.0 ∷ xs) more.say;
    }

-- fields leave chunks as they are
full_same : (size next : ℕ) (slots : List (Cut Slot)) → IsFull size (fields_cuts next slots) → IsFull size slots
full_same size next [] is = is
full_same size next (Mark slot ∷ slots) is = is
full_same size next (Chunk [] ∷ slots) is = is
full_same size next (Chunk (c ∷ cs) ∷ slots) is = is

pub longest_same : (next : ℕ) (slots : List (Cut Slot)) → AreLongest (fields_cuts next slots) → AreLongest slots
longest_same next [] are = are
longest_same next (Mark slot ∷ slots) are = longest_same (suc slot.place) slots are
longest_same next (Chunk [] ∷ slots) are = are
longest_same next (Chunk (c ∷ cs) ∷ slots) are = (are.0, (full_same (total (c ∷ cs)) next slots are.1.0, longest_same next slots are.1.1))

-- Fields of slots

-- slots leave chunks as they are
full_fields : (size next : ℕ) (slots : List (Cut Slot)) → IsFull size slots → IsFull size (fields_cuts next slots)
full_fields size next [] is = is
full_fields size next (Mark slot ∷ slots) is = is
full_fields size next (Chunk [] ∷ slots) is = is
full_fields size next (Chunk (c ∷ cs) ∷ slots) is = is

pub longest_fields : (next : ℕ) (slots : List (Cut Slot)) → AreLongest slots → AreLongest (fields_cuts next slots)
longest_fields next [] are = are
longest_fields next (Mark slot ∷ slots) are = longest_fields (suc slot.place) slots are
longest_fields next (Chunk [] ∷ slots) are = are
longest_fields next (Chunk (c ∷ cs) ∷ slots) are = (are.0, (full_fields (total (c ∷ cs)) next slots are.1.0, longest_fields next slots are.1.1))

slots_behind : (cs : List ℕ) (parts : List (Part Slot)) → AreSlots (letters cs parts) → AreSlots parts
slots_behind [] parts are = are
slots_behind (c ∷ cs) parts are = slots_behind cs parts are

-- the fields of slots are short
pub short_fields : (next : ℕ) (slots : List (Cut Slot)) → AreSlots (parts_of slots) → HaveShortFields next (fields_cuts next slots)
short_fields next [] are = tt
short_fields next (Chunk cs ∷ slots) are = short_fields next slots (slots_behind cs (parts_of slots) are)
short_fields next (Mark slot ∷ slots) are =
    let behind = place_is next (fields_for next slot) slot (slot_back next slot are.0) in
    (fields_sized next slot are.0, (fields_short next slot, subst (λ place. HaveShortFields place (fields_cuts (suc slot.place) slots)) (sym behind) (short_fields (suc slot.place) slots are.1)))

with_all-some : (bytes : List ℕ) (items : List TemplateItem) → with_all bytes (Some items) ≡ Some (map ByteItem bytes ++ items)
with_all-some [] items = refl
with_all-some (b ∷ bytes) items = ap (with_item (ByteItem b)) (with_all-some bytes items)

-- the fields of slots say these slots
pub said_back : (next : ℕ) (slots : List (Cut Slot)) → AreSlots (parts_of slots) → said next (fields_cuts next slots) ≡ Some (items_in (parts_of slots))
said_back next [] are = refl
said_back next (Chunk cs ∷ slots) are =
    ap (with_all (encode_utf8_all cs)) (said_back next slots (slots_behind cs (parts_of slots) are))
    ∙ with_all-some (encode_utf8_all cs) (items_in (parts_of slots))
    ∙ ap Some (sym (items_in-letters cs (parts_of slots)))
said_back next (Mark slot ∷ slots) are =
    ap (λ found. with_slot found (λ place. said place (fields_cuts (suc slot.place) slots))) (slot_back next slot are.0)
    ∙ ap (with_item (SlotItem slot)) (said_back (suc slot.place) slots are.1)
