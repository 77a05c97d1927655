-- Canonical pieces of a template with few enough pairs have a canonical spelling.
use Rattle.std.specs.Prelude.{◌≡◌, ℕ, ◌≤◌, List, [], ◌∷◌, ◌++◌, length, map, encode_utf8, Some, refl}
use Rattle.std.proofs.Common.{sym, ◌∙◌, ap, subst, arith}
use Rattle.code_meaning.specs.Write.{Write, Byte, Asked, Count, NoCount, Is, Of}
use Rattle.code_meaning.specs.Template.{Slot, ByteItem, SlotItem, decoded}
use Rattle.template_bytes.specs.Canonical.{Reference}
use Rattle.template_bytes.specs.Pairs.{Pair, put_pair, count_pair, uses_of, uses, count_uses, pairs_of, count_among, slot_among, items_among, AreAmong}
use Rattle.template_bytes.specs.Fields.{IsSlot, FitsCount}
use Rattle.template_bytes.specs.Chunks.{Part, Letter, Stop}
use Rattle.template_bytes.specs.Cutting.{cuts_of}
use Rattle.template_bytes.specs.Reading.{items_in, fields_cuts, spelling_of, AreSlots, slots_among}
use Rattle.template_bytes.specs.Spelling.{AreCanonical, IsCanonical, Placed, pieces_of, IsWritable, AreWritable, IsShortCount, SomeSpelling}
use Rattle.template_bytes.proofs.ChunkLaws.{cuts_say, cuts_longest}
use Rattle.template_bytes.proofs.PairLaws.{place_below, uses_among}
use Rattle.template_bytes.proofs.Said.{read_said, longest_fields, short_fields, said_back}

-- the canonical bytes of characters and slots are written in the canonical way, and decode to them
pub spelling_written : (parts : List (Part Slot)) → AreSlots parts → AreCanonical (spelling_of parts)
spelling_written parts are = record {
  cuts = fields_cuts 0 (cuts_of parts);
  are = refl;
  short = short_fields 0 (cuts_of parts) (subst AreSlots (sym (cuts_say parts)) are);
  longest = longest_fields 0 (cuts_of parts) (cuts_longest parts);
}

pub spelling_decodes : (parts : List (Part Slot)) → AreSlots parts → decoded (spelling_of parts) ≡ Some (items_in parts)
spelling_decodes parts are =
    read_said 0 (fields_cuts 0 (cuts_of parts)) (longest_fields 0 (cuts_of parts) (cuts_longest parts))
    ∙ said_back 0 (cuts_of parts) (subst AreSlots (sym (cuts_say parts)) are)
    ∙ ap (λ xs. Some (items_in xs)) (cuts_say parts)

items_among-bytes : (pairs : List Pair) (bytes : List ℕ) (pieces : List (Write Reference)) → items_among pairs (map Byte bytes ++ pieces) ≡ map ByteItem bytes ++ items_among pairs pieces
items_among-bytes pairs [] pieces = refl
items_among-bytes pairs (b ∷ bytes) pieces = ap (λ items. ByteItem b ∷ items) (items_among-bytes pairs bytes pieces)

-- the items of canonical pieces are those of their characters and slots
items_among-pieces : (pairs : List Pair) (parts : List (Part Placed)) → items_among pairs (pieces_of parts) ≡ items_in (slots_among pairs parts)
items_among-pieces pairs [] = refl
items_among-pieces pairs (Letter c ∷ parts) = items_among-bytes pairs (encode_utf8 c) (pieces_of parts) ∙ ap (λ items. map ByteItem (encode_utf8 c) ++ items) (items_among-pieces pairs parts)
items_among-pieces pairs (Stop placed ∷ parts) = ap (λ items. SlotItem (slot_among pairs placed.argument placed.asked) ∷ items) (items_among-pieces pairs parts)

-- the canonical bytes of the slots of pieces are their canonical spelling
pub is_canonical : (parts : List (Part Placed)) → AreSlots (slots_among (pairs_of (pieces_of parts)) parts) → IsCanonical (spelling_of (slots_among (pairs_of (pieces_of parts)) parts)) (pieces_of parts)
is_canonical parts are = record {
  written = spelling_written (slots_among (pairs_of (pieces_of parts)) parts) are;
  decodes = spelling_decodes (slots_among (pairs_of (pieces_of parts)) parts) are ∙ ap Some (sym (items_among-pieces (pairs_of (pieces_of parts)) parts));
}

among_both : (pairs xs ys : List Pair) → AreAmong pairs (xs ++ ys) → AreAmong pairs xs × AreAmong pairs ys
among_both pairs [] ys are = (tt, are)
among_both pairs (x ∷ xs) ys are = let rest = among_both pairs xs ys are.1 in ((are.0, rest.0), rest.1)

module _ (pairs : List Pair) (room : length pairs ≤ 4294967296) where
  fits_count : (count : Count Reference) → IsShortCount count → AreAmong pairs (count_uses count) → FitsCount (count_among pairs count)
  fits_count NoCount short are = tt
  fits_count (Is n) short are = short
  fits_count (Of r) short are = let below = place_below pairs (count_pair r) are.0 in omega (arith, room)

  is_slot : (r : Reference) (asked : Asked Reference) → IsWritable asked → AreAmong pairs (uses_of r asked) → IsSlot (slot_among pairs r asked)
  is_slot r asked is are =
      let counts = among_both pairs (count_uses asked.width) (count_uses asked.precision) are.1 in
      let below = place_below pairs (put_pair r asked.by) are.0 in
      record {
        place = omega (arith, room);
        fill = is.fill;
        width = fits_count asked.width is.width counts.0;
        precision = fits_count asked.precision is.precision counts.1;
      }

  uses-bytes : (bytes : List ℕ) (pieces : List (Write Reference)) → uses (map Byte bytes ++ pieces) ≡ uses pieces
  uses-bytes [] pieces = refl
  uses-bytes (b ∷ bytes) pieces = uses-bytes bytes pieces

  -- placeholders that can be written are slots, where all their uses are among so many pairs
  pub slots_are : (parts : List (Part Placed)) → AreWritable parts → AreAmong pairs (uses (pieces_of parts)) → AreSlots (slots_among pairs parts)
  slots_are [] writable are = tt
  slots_are (Letter c ∷ parts) writable are = slots_are parts writable.1 (subst (AreAmong pairs) (uses-bytes (encode_utf8 c) (pieces_of parts)) are)
  slots_are (Stop placed ∷ parts) writable are =
      let both = among_both pairs (uses_of placed.argument placed.asked) (uses (pieces_of parts)) are in
      (is_slot placed.argument placed.asked writable.0 both.0, slots_are parts writable.1 both.1)

-- pieces of a template with few enough pairs have these bytes as their canonical spelling
pub canonical_of : (parts : List (Part Placed)) → AreWritable parts → length (pairs_of (pieces_of parts)) ≤ 4294967296 → IsCanonical (spelling_of (slots_among (pairs_of (pieces_of parts)) parts)) (pieces_of parts)
canonical_of parts writable room = is_canonical parts (slots_are (pairs_of (pieces_of parts)) room parts writable (uses_among (pieces_of parts)))

pub some_spelling : SomeSpelling
some_spelling pieces of room = (
  spelling_of (slots_among (pairs_of (pieces_of of.parts)) of.parts),
  subst (IsCanonical (spelling_of (slots_among (pairs_of (pieces_of of.parts)) of.parts))) (sym of.are) (canonical_of of.parts of.writable (subst (λ xs. length (pairs_of xs) ≤ 4294967296) of.are room)),
)
