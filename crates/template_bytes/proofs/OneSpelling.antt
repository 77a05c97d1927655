-- Canonical pieces have at most one canonical spelling, and over the same arguments equal bytes and pairs are those of equal pieces.
use Rattle.std.specs.Prelude.{◌≡◌, ℕ, ◌≤◌, List, [], ◌∷◌, ◌++◌, length, map, encode_utf8, Some, refl}
use Rattle.std.specs.Char.{len_utf8}
use Rattle.std.proofs.Common.{sym, ◌∙◌, ap, subst, arith}
use Rattle.std.proofs.lemmas.List.{append_cancel_left}
use Rattle.std.proofs.lemmas.Str.{encode_same, len_utf8_bounds, length-encode}
use Rattle.std.proofs.lemmas.Option.{same_Some}
use Rattle.code_meaning.specs.Template.{Slot, TemplateItem, ByteItem, SlotItem, decoded}
use Rattle.template_bytes.specs.Pairs.{pairs_of}
use Rattle.template_bytes.specs.Chunks.{Part, Letter, Stop, parts_of, AreLongest}
use Rattle.template_bytes.specs.Cutting.{cuts_of}
use Rattle.template_bytes.specs.Reading.{items_in, fields_cuts}
use Rattle.template_bytes.specs.Spelling.{spelled, AreCanonical, IsCanonical, OneSpelling, SameForSame}
use Rattle.template_bytes.proofs.ChunkLaws.{one_cut}
use Rattle.template_bytes.proofs.PairLaws.{same_items}
use Rattle.template_bytes.proofs.Said.{read_said, AreOfSlots, said_of_slots, longest_same}

-- items are those of one list of parts: the bytes in front of the first slot are those of one list of characters

abbrev bytes_in_front : List TemplateItem → List ℕ
bytes_in_front [] = []
bytes_in_front (ByteItem b ∷ items) = b ∷ bytes_in_front items
bytes_in_front (SlotItem slot ∷ items) = []

in_front-append : (bytes : List ℕ) (items : List TemplateItem) → bytes_in_front (map ByteItem bytes ++ items) ≡ bytes ++ bytes_in_front items
in_front-append [] items = refl
in_front-append (b ∷ bytes) items = ap (λ xs. b ∷ xs) (in_front-append bytes items)

-- an encoded character has a first byte
first_of : (c : ℕ) → (b : ℕ) × (bytes : List ℕ) × (encode_utf8 c ≡ b ∷ bytes)
first_of c = by_cases (encode_utf8 c) refl (length-encode c) (len_utf8_bounds c).0
  where
    by_cases : (bs : List ℕ) → encode_utf8 c ≡ bs → length (encode_utf8 c) ≡ len_utf8 c → 1 ≤ len_utf8 c → (b : ℕ) × (bytes : List ℕ) × (encode_utf8 c ≡ b ∷ bytes)
    by_cases [] e size some = absurd (none (ap length e) size some)
      where
        none : length (encode_utf8 c) ≡ 0 → length (encode_utf8 c) ≡ len_utf8 c → 1 ≤ len_utf8 c → ⊥
        none e size some = omega arith
    by_cases (b ∷ bytes) e size some = (b, bytes, e)

no_character : (c : ℕ) (items : List TemplateItem) → [] ≡ map ByteItem (encode_utf8 c) ++ items → ⊥
no_character c items e = let h = first_of c in absurd (none (e ∙ ap (λ bytes. map ByteItem bytes ++ items) h.2))
  where
    none : {b : ℕ} {xs : List TemplateItem} → [] ≡ ByteItem b ∷ xs → ⊥
    none e = absurd (cc)

no_slot : (c : ℕ) (slot : Slot) (items more : List TemplateItem) → SlotItem slot ∷ more ≡ map ByteItem (encode_utf8 c) ++ items → ⊥
no_slot c slot items more e = let h = first_of c in absurd (none (e ∙ ap (λ bytes. map ByteItem bytes ++ items) h.2))
  where
    none : {b : ℕ} {xs : List TemplateItem} → SlotItem slot ∷ more ≡ ByteItem b ∷ xs → ⊥
    none e = absurd (cc)

same_slots : (s t : Slot) (xs ys : List TemplateItem) → SlotItem s ∷ xs ≡ SlotItem t ∷ ys → (s ≡ t) × (xs ≡ ys)
same_slots s t xs ys e = (cc, cc)

one_text : (ps qs : List (Part Slot)) → items_in ps ≡ items_in qs → ps ≡ qs
one_text [] [] e = refl
one_text [] (Letter d ∷ qs) e = absurd (no_character d (items_in qs) e)
one_text [] (Stop t ∷ qs) e = absurd (cc)
one_text (Letter c ∷ ps) [] e = absurd (no_character c (items_in ps) (sym e))
one_text (Letter c ∷ ps) (Letter d ∷ qs) e =
    let fronts : encode_utf8 c ++ bytes_in_front (items_in ps) ≡ encode_utf8 d ++ bytes_in_front (items_in qs) =
    sym (in_front-append (encode_utf8 c) (items_in ps)) ∙ ap bytes_in_front e ∙ in_front-append (encode_utf8 d) (items_in qs) in
    let same : c ≡ d = (encode_same c d _ _ fronts).0 in
    let rest : items_in ps ≡ items_in qs = append_cancel_left (map ByteItem (encode_utf8 d)) _ _ (ap (λ x. map ByteItem (encode_utf8 x) ++ items_in ps) (sym same) ∙ e) in
    ap (λ x. Letter x ∷ ps) same ∙ ap (λ xs. Letter d ∷ xs) (one_text ps qs rest)
one_text (Letter c ∷ ps) (Stop t ∷ qs) e = absurd (no_slot c t (items_in ps) (items_in qs) (sym e))
one_text (Stop s ∷ ps) [] e = absurd (cc)
one_text (Stop s ∷ ps) (Letter d ∷ qs) e = absurd (no_slot d s (items_in qs) (items_in ps) e)
one_text (Stop s ∷ ps) (Stop t ∷ qs) e =
    let same = same_slots s t (items_in ps) (items_in qs) e in
    ap (λ x. Stop x ∷ ps) same.0 ∙ ap (λ xs. Stop t ∷ xs) (one_text ps qs same.1)

-- At most one spelling

-- the slots of bytes in the canonical way that decode to these items
slots_in : (bytes : List ℕ) (items : List TemplateItem) (is : AreCanonical bytes) → decoded bytes ≡ Some items → AreOfSlots 0 is.cuts items
slots_in bytes items is decodes = said_of_slots 0 is.cuts items (sym (read_said 0 is.cuts is.longest) ∙ ap decoded (sym is.are) ∙ decodes) is.short

-- such bytes are those of the slots' fields, cut in the one way
bytes_are : (bytes : List ℕ) (items : List TemplateItem) (is : AreCanonical bytes) (decodes : decoded bytes ≡ Some items)
    → bytes ≡ spelled (fields_cuts 0 (cuts_of (parts_of (slots_in bytes items is decodes).slots)))
bytes_are bytes items is decodes =
    let h = slots_in bytes items is decodes in
    is.are ∙ ap spelled h.are ∙ ap (λ slots. spelled (fields_cuts 0 slots)) (sym (one_cut h.slots (longest_same 0 h.slots (subst AreLongest h.are is.longest))))

-- bytes in the canonical way that decode to the same items are the same
pub one_bytes : (bytes others : List ℕ) (items : List TemplateItem) → AreCanonical bytes → AreCanonical others → decoded bytes ≡ Some items → decoded others ≡ Some items → bytes ≡ others
one_bytes bytes others items is are decodes decode =
    let same = one_text _ _ (sym (slots_in bytes items is decodes).say ∙ (slots_in others items are decode).say) in
    bytes_are bytes items is decodes ∙ ap (λ parts. spelled (fields_cuts 0 (cuts_of parts))) same ∙ sym (bytes_are others items are decode)

pub one_spelling : OneSpelling
one_spelling pieces bytes others is are = one_bytes bytes others _ is.written are.written is.decodes are.decodes

pub same_for_same : SameForSame
same_for_same pieces others bytes more is are = (λ same. back same.0 same.1, there)
  where
    back : bytes ≡ more → pairs_of pieces ≡ pairs_of others → pieces ≡ others
    back same pairs = same_items pieces others pairs (same_Some _ _ (sym is.decodes ∙ ap decoded same ∙ are.decodes))

    there : pieces ≡ others → (bytes ≡ more) × (pairs_of pieces ≡ pairs_of others)
    there same = (one_spelling others bytes more (subst (IsCanonical bytes) same is) are, ap pairs_of same)
