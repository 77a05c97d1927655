-- An encoder at its beginning, with one more piece, and at its end.
use Rattle.std.specs.Prelude.{◌≡◌, ℕ, suc, ◌+◌, ◌<◌, ◌≤◌, cond, Bool, true, false, ◌&&◌, ◌||◌, nat_lt, List, [], ◌∷◌, ◌++◌, length, take, drop, get_or, map, encode_utf8, refl}
use Rattle.std.specs.Str.{IsUtf8, chars, encode_utf8_all, all_scalars}
use Rattle.std.proofs.Common.{sym, ◌∙◌, ap, subst, add-one, append_assoc, append-nil, arith}
use Rattle.std.proofs.lemmas.List.{map-append, take_more, take-append-drop}
use Rattle.std.proofs.lemmas.Str.{encodes-chars, scalars-chars, IsUtf8-append}
use Rattle.code_meaning.specs.Write.{Write, Byte, Put}
use Rattle.code_meaning.specs.Template.{Slot}
use Rattle.hir_fmt.specs.declared.format_args.FormatPlaceholder.{FormatPlaceholder}
use Rattle.hir_fmt.specs.declared.format_args.FormatArgsPiece.{FormatArgsPiece}
use Rattle.hir_fmt.specs.declared.format_args.FormatArgsPiece.TheVariants.{Literal, Placeholder}
use Rattle.template_bytes.specs.Canonical.{Reference, reference_of, options_of, asked_of, canonical_pieces}
use Rattle.template_bytes.specs.Pairs.{Pair, uses_of, uses, distinct, pairs_of, slot_among, added, added_all, is_among}
use Rattle.template_bytes.specs.Fields.{fields_for, slot_bytes}
use Rattle.template_bytes.specs.declared.slot.Slot.{Slot as SlotCode}
use Rattle.template_bytes.specs.Shown.{shown_slot, placeholder_uses, IsShown, IsSlotOf}
use Rattle.template_bytes.specs.Chunks.{Part, Letter, Stop, letters}
use Rattle.template_bytes.specs.Spelling.{Placed, pieces_of, IsWritable, AreWritable, IsCanonical}
use Rattle.template_bytes.specs.Literals.{literal_bytes}
use Rattle.template_bytes.specs.Reading.{slots_among, spelling_of}
use Rattle.template_bytes.specs.Draft.{AreDraftOf}
use Rattle.template_bytes.specs.Encoder.{parts_of_piece, template_parts, HaveTaken}
use Rattle.template_bytes.proofs.PairLaws.{distinct_all, no_fewer}
use Rattle.template_bytes.proofs.SomeSpelling.{canonical_of}
use Rattle.template_bytes.proofs.DraftLaws.{draft_none, draft_text, draft_slot, draft_end}

-- Parts behind parts

template_parts-append : (xs ys : List FormatArgsPiece) → template_parts (xs ++ ys) ≡ template_parts xs ++ template_parts ys
template_parts-append [] ys = refl
template_parts-append (piece ∷ xs) ys = ap (λ parts. parts_of_piece piece ++ parts) (template_parts-append xs ys) ∙ sym (append_assoc (parts_of_piece piece) (template_parts xs) (template_parts ys))

canonical_pieces-append : (xs ys : List FormatArgsPiece) → canonical_pieces (xs ++ ys) ≡ canonical_pieces xs ++ canonical_pieces ys
canonical_pieces-append [] ys = refl
canonical_pieces-append (Literal text ∷ xs) ys = ap (λ pieces. map Byte text ++ pieces) (canonical_pieces-append xs ys) ∙ sym (append_assoc (map Byte text) (canonical_pieces xs) (canonical_pieces ys))
canonical_pieces-append (Placeholder p ∷ xs) ys = ap (λ pieces. Put (reference_of p.argument) (asked_of p) ∷ pieces) (canonical_pieces-append xs ys)

pieces_of-append : (xs ys : List (Part Placed)) → pieces_of (xs ++ ys) ≡ pieces_of xs ++ pieces_of ys
pieces_of-append [] ys = refl
pieces_of-append (Letter c ∷ xs) ys = ap (λ pieces. map Byte (encode_utf8 c) ++ pieces) (pieces_of-append xs ys) ∙ sym (append_assoc (map Byte (encode_utf8 c)) (pieces_of xs) (pieces_of ys))
pieces_of-append (Stop placed ∷ xs) ys = ap (λ pieces. Put placed.argument placed.asked ∷ pieces) (pieces_of-append xs ys)

pieces_of-letters : (cs : List ℕ) → pieces_of (letters cs []) ≡ map Byte (encode_utf8_all cs)
pieces_of-letters [] = refl
pieces_of-letters (c ∷ cs) = ap (λ pieces. map Byte (encode_utf8 c) ++ pieces) (pieces_of-letters cs) ∙ sym (map-append Byte (encode_utf8 c) (encode_utf8_all cs))

writable-append : (xs ys : List (Part Placed)) → AreWritable xs → AreWritable ys → AreWritable (xs ++ ys)
writable-append [] ys are more = more
writable-append (Letter c ∷ xs) ys are more = (are.0, writable-append xs ys are.1 more)
writable-append (Stop placed ∷ xs) ys are more = (are.0, writable-append xs ys are.1 more)

slots_among-append : (pairs : List Pair) (xs ys : List (Part Placed)) → slots_among pairs (xs ++ ys) ≡ slots_among pairs xs ++ slots_among pairs ys
slots_among-append pairs [] ys = refl
slots_among-append pairs (Letter c ∷ xs) ys = ap (λ parts. Letter c ∷ parts) (slots_among-append pairs xs ys)
slots_among-append pairs (Stop placed ∷ xs) ys = ap (λ parts. Stop (slot_among pairs placed.argument placed.asked) ∷ parts) (slots_among-append pairs xs ys)

slots_among-letters : (pairs : List Pair) (cs : List ℕ) → slots_among pairs (letters cs []) ≡ letters cs []
slots_among-letters pairs [] = refl
slots_among-letters pairs (c ∷ cs) = ap (λ parts. Letter c ∷ parts) (slots_among-letters pairs cs)

uses-append : (xs ys : List (Write Reference)) → uses (xs ++ ys) ≡ uses xs ++ uses ys
uses-append [] ys = refl
uses-append (Byte b ∷ xs) ys = uses-append xs ys
uses-append (Put r asked ∷ xs) ys = ap (λ us. uses_of r asked ++ us) (uses-append xs ys) ∙ sym (append_assoc (uses_of r asked) (uses xs) (uses ys))

uses-bytes : (bytes : List ℕ) → uses (map Byte bytes) ≡ []
uses-bytes [] = refl
uses-bytes (b ∷ bytes) = uses-bytes bytes

-- The characters of a text

-- the two words for Unicode scalar values are one
scalar_is : (b t : Bool) → cond b true t ≡ (b || t)
scalar_is true t = refl
scalar_is false t = refl

both_true : (a b : Bool) → (a && b) ≡ true → (a ≡ true) × (b ≡ true)
both_true true b is = (refl, is)
both_true false b is = absurd (cc)

letters_writable : (cs : List ℕ) → all_scalars cs ≡ true → AreWritable (letters cs [])
letters_writable [] are = tt
letters_writable (c ∷ cs) are =
    let both = both_true _ (all_scalars cs) are in
    (sym (scalar_is (nat_lt c 55296) (nat_lt 57343 c && nat_lt c 1114112)) ∙ both.0, letters_writable cs both.1)

-- a text as its characters
text_parts : (text : List ℕ) → IsUtf8 text → map Byte text ≡ pieces_of (letters (chars text) [])
text_parts text utf8 = sym (pieces_of-letters (chars text) ∙ ap (map Byte) (encodes-chars text utf8))

added_one : (pairs : List Pair) (p : Pair) → (rest : List Pair) × (added pairs p ≡ pairs ++ rest)
added_one pairs p = by_test (is_among pairs p)
  where
    by_test : (t : Bool) → (rest : List Pair) × (cond t pairs (pairs ++ p ∷ []) ≡ pairs ++ rest)
    by_test true = ([], sym (append-nil pairs))
    by_test false = (p ∷ [], refl)

-- pairs are the front of what they become
added_front : (pairs us : List Pair) → (rest : List Pair) × (added_all pairs us ≡ pairs ++ rest)
added_front pairs [] = ([], sym (append-nil pairs))
added_front pairs (p ∷ us) =
    let one = added_one pairs p in
    let more = added_front (added pairs p) us in
    (one.0 ++ more.0, more.1 ∙ ap (λ xs. xs ++ more.0) one.1 ∙ append_assoc pairs one.0 more.0)

-- The steps

-- an encoder that took nothing
pub taken_none : HaveTaken [] [] [] 0 []
taken_none = record { canonical = refl; writable = tt; pairs_are = refl; room = omega arith; text = ([], (refl, refl)); draft = λ more. draft_none }

module _ (pieces : List FormatArgsPiece) (pairs : List Pair) (bytes literal : List ℕ) (next : ℕ) (taken : HaveTaken pieces pairs bytes next literal) where
  parts_more : (piece : FormatArgsPiece) → template_parts pieces ++ parts_of_piece piece ≡ template_parts (pieces ++ piece ∷ [])
  parts_more piece = ap (λ xs. template_parts pieces ++ xs) (sym (append-nil (parts_of_piece piece))) ∙ sym (template_parts-append pieces (piece ∷ []))

  canonical_more : (piece : FormatArgsPiece) → canonical_pieces (piece ∷ []) ≡ pieces_of (parts_of_piece piece)
      → canonical_pieces (pieces ++ piece ∷ []) ≡ pieces_of (template_parts (pieces ++ piece ∷ []))
  canonical_more piece one =
      canonical_pieces-append pieces (piece ∷ [])
      ∙ ap (λ xs. xs ++ canonical_pieces (piece ∷ [])) taken.canonical
      ∙ ap (λ xs. pieces_of (template_parts pieces) ++ xs) one
      ∙ sym (pieces_of-append (template_parts pieces) (parts_of_piece piece))
      ∙ ap pieces_of (parts_more piece)

  writable_more : (piece : FormatArgsPiece) → AreWritable (parts_of_piece piece) → AreWritable (template_parts (pieces ++ piece ∷ []))
  writable_more piece are = subst AreWritable (parts_more piece) (writable-append (template_parts pieces) (parts_of_piece piece) taken.writable are)

  -- the slots of one more piece
  slots_more : (more : List Pair) (piece : FormatArgsPiece) → slots_among more (template_parts (pieces ++ piece ∷ [])) ≡ slots_among more (template_parts pieces) ++ slots_among more (parts_of_piece piece)
  slots_more more piece = ap (slots_among more) (sym (parts_more piece)) ∙ slots_among-append more (template_parts pieces) (parts_of_piece piece)

  -- a literal more: its text goes behind the literal
  pub taken_text : (text : List ℕ) → IsUtf8 text → HaveTaken (pieces ++ Literal text ∷ []) pairs bytes next (literal ++ text)
  taken_text text utf8 = record {
    canonical = canonical_more (Literal text) (append-nil (map Byte text) ∙ text_parts text utf8);
    writable = writable_more (Literal text) (letters_writable (chars text) (scalars-chars text utf8));
    pairs_are = taken.pairs_are ∙ ap distinct (sym (append-nil (uses (canonical_pieces pieces))) ∙ ap (λ us. uses (canonical_pieces pieces) ++ us) (sym (uses-bytes text)) ∙ sym (uses-append (canonical_pieces pieces) (map Byte text)))
        ∙ ap pairs_of (ap (λ xs. canonical_pieces pieces ++ xs) (sym (append-nil (map Byte text))) ∙ sym (canonical_pieces-append pieces (Literal text ∷ [])));
    room = taken.room;
    text = IsUtf8-append literal text taken.text utf8;
    draft = λ more. subst (λ parts. AreDraftOf parts bytes next (literal ++ text))
        (ap (λ xs. slots_among (pairs ++ more) (template_parts pieces) ++ xs) (sym (slots_among-letters (pairs ++ more) (chars text))) ∙ sym (slots_more (pairs ++ more) (Literal text)))
        (draft_text _ bytes literal next (taken.draft more) text taken.text);
  }

  -- the pairs of one more placeholder
  pairs_more : (p : FormatPlaceholder) → added_all pairs (uses_of (reference_of p.argument) (asked_of p)) ≡ pairs_of (canonical_pieces (pieces ++ Placeholder p ∷ []))
  pairs_more p =
      let us = uses_of (reference_of p.argument) (asked_of p) in
      ap (λ ps. added_all ps us) taken.pairs_are
      ∙ sym (distinct_all (uses (canonical_pieces pieces)) us)
      ∙ ap distinct (ap (λ xs. uses (canonical_pieces pieces) ++ xs) (sym (append-nil us)) ∙ sym (uses-append (canonical_pieces pieces) (canonical_pieces (Placeholder p ∷ []))))
      ∙ ap pairs_of (sym (canonical_pieces-append pieces (Placeholder p ∷ [])))

  -- a placeholder more: the literal is written, and its slot behind it
  pub taken_placeholder : (p : FormatPlaceholder) (all : List Pair) (slot : Slot) → IsWritable (asked_of p)
      → all ≡ added_all pairs (uses_of (reference_of p.argument) (asked_of p)) → length all ≤ 4294967296
      → ((more : List Pair) → slot_among (all ++ more) (reference_of p.argument) (asked_of p) ≡ slot)
      → HaveTaken (pieces ++ Placeholder p ∷ []) all ((bytes ++ literal_bytes literal) ++ slot_bytes (fields_for next slot)) (suc slot.place) []
  taken_placeholder p all slot writable are room same =
      let us = uses_of (reference_of p.argument) (asked_of p) in
      let front = added_front pairs us in
      record {
        canonical = canonical_more (Placeholder p) refl;
        writable = writable_more (Placeholder p) (writable, tt);
        pairs_are = are ∙ pairs_more p;
        room = room;
        text = ([], (refl, refl));
        draft = λ more. subst (λ parts. AreDraftOf parts ((bytes ++ literal_bytes literal) ++ slot_bytes (fields_for next slot)) (suc slot.place) [])
            (ap (λ s. slots_among (all ++ more) (template_parts pieces) ++ Stop s ∷ []) (sym (same more)) ∙ sym (slots_more (all ++ more) (Placeholder p)))
            (draft_slot _ bytes literal next (subst (λ xs. AreDraftOf (slots_among xs (template_parts pieces)) bytes next literal) (sym (append_assoc pairs front.0 more) ∙ ap (λ xs. xs ++ more) (sym front.1 ∙ sym are)) (taken.draft (front.0 ++ more))) slot);
      }

  -- the end: the literal is written, and 00 behind it
  pub taken_end : IsCanonical ((bytes ++ literal_bytes literal) ++ 0 ∷ []) (canonical_pieces pieces)
  taken_end =
      let all : pairs ≡ pairs_of (pieces_of (template_parts pieces)) = taken.pairs_are ∙ ap pairs_of taken.canonical in
      let draft = taken.draft [] in
      subst (λ xs. IsCanonical xs (canonical_pieces pieces)) (sym (draft_end _ bytes literal next draft))
      (subst (λ ps. IsCanonical (spelling_of (slots_among ps (template_parts pieces))) (canonical_pieces pieces)) (sym all ∙ sym (append-nil pairs))
      (subst (IsCanonical (spelling_of (slots_among (pairs_of (pieces_of (template_parts pieces))) (template_parts pieces)))) (sym taken.canonical)
      (canonical_of (template_parts pieces) taken.writable (subst (λ ps. length ps ≤ 4294967296) all taken.room))))

-- The steps, as the code makes them

-- an encoder that begins
pub taken_begun : {pairs : List Pair} {bytes literal : List ℕ} {next : ℕ} → pairs ≡ [] → bytes ≡ [] → next ≡ 0 → literal ≡ [] → HaveTaken [] pairs bytes next literal
taken_begun no_pairs no_bytes first no_text = rw (no_pairs, no_bytes, first, no_text) taken_none

-- a literal more
pub text_taken : (pieces : List FormatArgsPiece) (pairs : List Pair) {bytes literal new_bytes new_literal : List ℕ} {next new_next : ℕ} (text : List ℕ) → IsUtf8 text
    → new_literal ≡ literal ++ text → new_bytes ≡ bytes → new_next ≡ next
    → HaveTaken pieces pairs bytes next literal → HaveTaken (pieces ++ Literal text ∷ []) pairs new_bytes new_next new_literal
text_taken pieces pairs {bytes = bytes} {literal = literal} {next = next} text utf8 longer same_bytes same_next taken =
    rw (longer, same_bytes, same_next) (taken_text pieces pairs bytes literal next taken text utf8)

-- a placeholder more
pub placeholder_taken : (pieces : List FormatArgsPiece) (pairs all : List Pair) {bytes literal new_bytes new_literal : List ℕ} {next new_next : ℕ} (p : FormatPlaceholder) (coded : SlotCode)
    → all ≡ added_all pairs (placeholder_uses p) → length all ≤ 4294967296 → IsSlotOf coded all p
    → ((slot : Slot) → IsShown coded slot → new_bytes ≡ (bytes ++ literal_bytes literal) ++ slot_bytes (fields_for next slot)) → new_next ≡ coded.place + 1 → new_literal ≡ []
    → HaveTaken pieces pairs bytes next literal → HaveTaken (pieces ++ Placeholder p ∷ []) all new_bytes new_next new_literal
placeholder_taken pieces pairs all {bytes = bytes} {literal = literal} {next = next} p coded are room is written behind no_text taken =
    let slot : Slot = shown_slot (options_of p.format_options) coded in
    let shown : IsShown coded slot = record { place = refl; flags = is.flags; width = refl; precision = refl } in
    rw (written slot shown, behind ∙ add-one coded.place, no_text)
    (taken_placeholder pieces pairs bytes literal next taken p all slot is.writable are room is.among)

-- the end
pub end_taken : (pieces : List FormatArgsPiece) (pairs : List Pair) {bytes literal new_bytes : List ℕ} {next : ℕ} → new_bytes ≡ (bytes ++ literal_bytes literal) ++ 0 ∷ []
    → HaveTaken pieces pairs bytes next literal → IsCanonical new_bytes (canonical_pieces pieces)
end_taken pieces pairs {bytes = bytes} {literal = literal} {next = next} written taken = rw written (taken_end pieces pairs bytes literal next taken)

-- too many pairs with one more placeholder
pub too_many : (pieces : List FormatArgsPiece) (pairs : List Pair) {bytes literal : List ℕ} {next : ℕ} (p : FormatPlaceholder) → 4294967296 < length (added_all pairs (placeholder_uses p))
    → HaveTaken pieces pairs bytes next literal → 4294967296 < length (pairs_of (canonical_pieces (pieces ++ Placeholder p ∷ [])))
too_many pieces pairs {bytes = bytes} {literal = literal} {next = next} p full taken = subst (λ ps. 4294967296 < length ps) (pairs_more pieces pairs bytes literal next taken p) full

-- no fewer pairs with more pieces
pub no_fewer_pairs : (xs ys : List FormatArgsPiece) → length (pairs_of (canonical_pieces xs)) ≤ length (pairs_of (canonical_pieces (xs ++ ys)))
no_fewer_pairs xs ys =
    subst (λ us. length (pairs_of (canonical_pieces xs)) ≤ length (distinct us)) (sym (uses-append (canonical_pieces xs) (canonical_pieces ys)) ∙ ap uses (sym (canonical_pieces-append xs ys)))
    (no_fewer (uses (canonical_pieces xs)) (uses (canonical_pieces ys)))

-- Turns of the loop

pub next_piece : (pieces : List FormatArgsPiece) (i : ℕ) (piece : FormatArgsPiece) → i < length pieces → piece ≡ get_or pieces i piece → take (i + 1) pieces ≡ take i pieces ++ piece ∷ []
next_piece pieces i piece within is = take_more pieces i piece within ∙ ap (λ (x : FormatArgsPiece). take i pieces ++ x ∷ []) (sym is)

-- too many pairs of a front are too many of the whole
pub too_many_of_all : (pieces : List FormatArgsPiece) (i : ℕ) (piece : FormatArgsPiece) → take (i + 1) pieces ≡ take i pieces ++ piece ∷ []
    → 4294967296 < length (pairs_of (canonical_pieces (take i pieces ++ piece ∷ []))) → 4294967296 < length (pairs_of (canonical_pieces pieces))
too_many_of_all pieces i piece front many =
    let whole : (take i pieces ++ piece ∷ []) ++ drop (i + 1) pieces ≡ pieces = ap (λ xs. xs ++ drop (i + 1) pieces) (sym front) ∙ take-append-drop (i + 1) pieces in
    let more = subst (λ xs. length (pairs_of (canonical_pieces (take i pieces ++ piece ∷ []))) ≤ length (pairs_of (canonical_pieces xs))) whole (no_fewer_pairs (take i pieces ++ piece ∷ []) (drop (i + 1) pieces)) in
    omega (arith, many)
