-- A draft at its beginning, with more text, with one more slot, and at its end.
use Rattle.std.specs.Prelude.{◌≡◌, ℕ, suc, ◌-◌, Bool, true, false, cond, nat_lt, List, [], ◌∷◌, ◌++◌, refl}
use Rattle.std.specs.Char.{len_utf8}
use Rattle.std.specs.Str.{IsUtf8, chars, encode_utf8_all}
use Rattle.std.proofs.Common.{sym, ◌∙◌, ap, append_assoc, append-nil}
use Rattle.std.proofs.lemmas.Str.{chars-append, chars-nil}
use Rattle.code_meaning.specs.Template.{Slot}
use Rattle.template_bytes.specs.Fields.{slot_bytes, fields_for}
use Rattle.template_bytes.specs.Chunks.{Part, Stop, Cut, Chunk, Mark, letters, chunk_bytes, bytes_by}
use Rattle.template_bytes.specs.Cutting.{Opened, closed_with, longer, next_chunk, cut, cuts_of}
use Rattle.template_bytes.specs.Literals.{no_bytes, literal_bytes}
use Rattle.template_bytes.specs.Reading.{fields_cuts, place_behind_all, spelling_of}
use Rattle.template_bytes.specs.Draft.{bytes_of, AreDraftOf}
use Rattle.template_bytes.proofs.ChunkLaws.{letters_append, letters_both, cuts_stop}

-- Characters alone are chunks alone

abbrev HasNoMark : List (Cut Slot) → Type 0
HasNoMark [] = Unit {0}
HasNoMark (Chunk cs ∷ cuts) = HasNoMark cuts
HasNoMark (Mark slot ∷ cuts) = ⊥

no_mark-closed : (chunk : List ℕ) (cuts : List (Cut Slot)) → HasNoMark cuts → HasNoMark (closed_with chunk cuts)
no_mark-closed [] cuts none = none
no_mark-closed (c ∷ cs) cuts none = none

no_mark-cut : (room : ℕ) (cs : List ℕ) → HasNoMark (cut {S = Slot} room (letters cs [])).behind
no_mark-cut room [] = tt
no_mark-cut room (c ∷ cs) = by_test (nat_lt room (len_utf8 c)) _ _ (no_mark-cut (65535 - len_utf8 c) cs) (no_mark-cut (room - len_utf8 c) cs)
  where
    by_test : (t : Bool) (next same : Opened Slot) → HasNoMark next.behind → HasNoMark same.behind → HasNoMark (cond t (next_chunk c next) (longer c same)).behind
    by_test true next same none also = none
    by_test false next same none also = also

no_mark : (cs : List ℕ) → HasNoMark (cuts_of (letters cs []))
no_mark cs = no_mark-closed (cut {S = Slot} 65535 (letters cs [])).chunk (cut 65535 (letters cs [])).behind (no_mark-cut 65535 cs)

-- chunks alone have no fields, and leave the next place
chunks_alone : (next : ℕ) (cuts : List (Cut Slot)) (mark : Slot → List ℕ) → HasNoMark cuts → bytes_by slot_bytes (fields_cuts next cuts) ≡ bytes_by mark cuts
chunks_alone next [] mark none = refl
chunks_alone next (Chunk cs ∷ cuts) mark none = ap (λ bytes. chunk_bytes (encode_utf8_all cs) ++ bytes) (chunks_alone next cuts mark none)
chunks_alone next (Mark slot ∷ cuts) mark none = absurd none

place_alone : (next : ℕ) (cuts : List (Cut Slot)) → HasNoMark cuts → place_behind_all next cuts ≡ next
place_alone next [] none = refl
place_alone next (Chunk cs ∷ cuts) none = place_alone next cuts none
place_alone next (Mark slot ∷ cuts) none = absurd none

-- Cuts behind cuts

fields_cuts-append : (next : ℕ) (xs ys : List (Cut Slot)) → fields_cuts next (xs ++ ys) ≡ fields_cuts next xs ++ fields_cuts (place_behind_all next xs) ys
fields_cuts-append next [] ys = refl
fields_cuts-append next (Chunk cs ∷ xs) ys = ap (λ cuts. Chunk cs ∷ cuts) (fields_cuts-append next xs ys)
fields_cuts-append next (Mark slot ∷ xs) ys = ap (λ cuts. Mark (fields_for next slot) ∷ cuts) (fields_cuts-append (suc slot.place) xs ys)

place_behind_all-append : (next : ℕ) (xs ys : List (Cut Slot)) → place_behind_all next (xs ++ ys) ≡ place_behind_all (place_behind_all next xs) ys
place_behind_all-append next [] ys = refl
place_behind_all-append next (Chunk cs ∷ xs) ys = place_behind_all-append next xs ys
place_behind_all-append next (Mark slot ∷ xs) ys = place_behind_all-append (suc slot.place) xs ys

module _ {S : Type 0} where
  bytes_by-append : (mark : S → List ℕ) (xs ys : List (Cut S)) → bytes_by mark (xs ++ ys) ≡ bytes_by mark xs ++ bytes_by mark ys
  bytes_by-append mark [] ys = refl
  bytes_by-append mark (Chunk cs ∷ xs) ys = ap (λ bytes. chunk_bytes (encode_utf8_all cs) ++ bytes) (bytes_by-append mark xs ys) ∙ sym (append_assoc (chunk_bytes (encode_utf8_all cs)) (bytes_by mark xs) (bytes_by mark ys))
  bytes_by-append mark (Mark s ∷ xs) ys = ap (λ bytes. mark s ++ bytes) (bytes_by-append mark xs ys) ∙ sym (append_assoc (mark s) (bytes_by mark xs) (bytes_by mark ys))

-- The steps

-- a draft of nothing
pub draft_none : AreDraftOf [] [] 0 []
draft_none = record { front = []; are = ap (λ cs. letters cs []) (sym chars-nil); bytes_are = refl; next_is = refl; apart = λ more. refl }

-- the chunks of a literal
abbrev literal_cuts : List ℕ → List (Cut Slot)
literal_cuts text = cuts_of (letters (chars text) [])

module _ (parts : List (Part Slot)) (bytes literal : List ℕ) (next : ℕ) (is : AreDraftOf parts bytes next literal) where
  -- more text behind the literal
  pub draft_text : (text : List ℕ) → IsUtf8 literal → AreDraftOf (parts ++ letters (chars text) []) bytes next (literal ++ text)
  draft_text text utf8 = record {
    front = is.front;
    are = ap (λ xs. xs ++ letters (chars text) []) is.are
        ∙ append_assoc is.front (letters (chars literal) []) (letters (chars text) [])
        ∙ ap (λ xs. is.front ++ xs) (sym (letters_append (chars literal) (letters (chars text) [])) ∙ sym (letters_both (chars literal) (chars text) []) ∙ ap (λ cs. letters cs []) (sym (chars-append literal text utf8)));
    bytes_are = is.bytes_are;
    next_is = is.next_is;
    apart = is.apart;
  }

  -- what is cut so far, the literal among it
  cuts_are : cuts_of parts ≡ cuts_of is.front ++ literal_cuts literal
  cuts_are = ap cuts_of is.are ∙ is.apart (letters (chars literal) [])

  place_is : place_behind_all 0 (cuts_of parts) ≡ next
  place_is = ap (place_behind_all 0) cuts_are ∙ place_behind_all-append 0 (cuts_of is.front) (literal_cuts literal) ∙ place_alone _ (literal_cuts literal) (no_mark (chars literal)) ∙ sym is.next_is

  bytes_are : bytes_of parts ≡ bytes ++ literal_bytes literal
  bytes_are =
      ap (λ cuts. bytes_by slot_bytes (fields_cuts 0 cuts)) cuts_are
      ∙ ap (bytes_by slot_bytes) (fields_cuts-append 0 (cuts_of is.front) (literal_cuts literal))
      ∙ bytes_by-append slot_bytes (fields_cuts 0 (cuts_of is.front)) _
      ∙ ap (λ xs. xs ++ bytes_by slot_bytes (fields_cuts (place_behind_all 0 (cuts_of is.front)) (literal_cuts literal))) (sym is.bytes_are)
      ∙ ap (λ xs. bytes ++ xs) (chunks_alone _ (literal_cuts literal) no_bytes (no_mark (chars literal)))

  -- the literal is written, and a slot behind it
  pub draft_slot : (slot : Slot) → AreDraftOf (parts ++ Stop slot ∷ []) ((bytes ++ literal_bytes literal) ++ slot_bytes (fields_for next slot)) (suc slot.place) []
  draft_slot slot = record {
    front = parts ++ Stop slot ∷ [];
    are = sym (append-nil (parts ++ Stop slot ∷ [])) ∙ ap (λ cs. (parts ++ Stop slot ∷ []) ++ letters cs []) (sym chars-nil);
    bytes_are = sym (
        ap (λ cuts. bytes_by slot_bytes (fields_cuts 0 cuts)) (cuts_stop parts [] slot)
        ∙ ap (bytes_by slot_bytes) (fields_cuts-append 0 (cuts_of parts) (Mark slot ∷ []))
        ∙ bytes_by-append slot_bytes (fields_cuts 0 (cuts_of parts)) _
        ∙ ap (λ xs. xs ++ (slot_bytes (fields_for (place_behind_all 0 (cuts_of parts)) slot) ++ [])) bytes_are
        ∙ ap (λ xs. (bytes ++ literal_bytes literal) ++ xs) (append-nil _ ∙ ap (λ n. slot_bytes (fields_for n slot)) place_is));
    next_is = sym (ap (place_behind_all 0) (cuts_stop parts [] slot) ∙ place_behind_all-append 0 (cuts_of parts) (Mark slot ∷ []));
    apart = λ more.
        ap cuts_of (append_assoc parts (Stop slot ∷ []) more)
        ∙ cuts_stop parts more slot
        ∙ sym (append_assoc (cuts_of parts) (Mark slot ∷ []) (cuts_of more))
        ∙ ap (λ cuts. cuts ++ cuts_of more) (sym (cuts_stop parts [] slot));
  }

  -- the literal is written, and the end behind it
  pub draft_end : (bytes ++ literal_bytes literal) ++ 0 ∷ [] ≡ spelling_of parts
  draft_end = ap (λ xs. xs ++ 0 ∷ []) (sym bytes_are)
