-- The first chunk of a text ends at the last boundary within the limit, and the chunks of a text are how its characters are cut.
use Rattle.std.specs.Prelude.{◌≡◌, ℕ, zero, suc, ◌+◌, ◌-◌, ◌<◌, ◌≤◌, List, [], ◌∷◌, ◌++◌, length, take, drop, refl}
use Rattle.std.specs.Char.{len_utf8, encode_utf8, IsScalar}
use Rattle.std.specs.Str.{IsUtf8, IsCharBoundary, chars, encode_utf8_all}
use Rattle.std.proofs.Common.{sym, ◌∙◌, ap, subst, append_assoc, append-nil, arith, length-append, lt_of_not-le, drop_at}
use Rattle.std.proofs.lemmas.List.{take-append-drop, length-take-le}
use Rattle.std.proofs.lemmas.Str.{chars-nil, chars-append, encodes-chars, scalars-chars, len_utf8_bounds, length-encode}
use Rattle.std.proofs.lemmas.Str.{IsCharBoundary-past_char, IsCharBoundary-from_take, IsUtf8-take, IsUtf8-drop, IsUtf8-append, IsUtf8-encode}
use Rattle.std.proofs.lemmas.Bool.{cases_order, and_parts}
use Rattle.std.proofs.Math.Seq.{take-append_seam}
use Rattle.std.proofs.Math.Logic.{⊎_elim}
use Rattle.std.proofs.Math.Utf8.{scalars}
use Rattle.code_meaning.specs.Template.{Slot}
use Rattle.template_bytes.specs.Chunks.{Cut, Chunk, total, chunk_bytes, letters, bytes_by}
use Rattle.template_bytes.specs.Cutting.{closed_with, closed, cut, cuts_of}
use Rattle.template_bytes.specs.Literals.{IsChunk, no_bytes, literal_bytes}
use Rattle.template_bytes.proofs.ChunkLaws.{letters_both, no_more, cut_full, cut_letters}
use Rattle.template_bytes.proofs.ReadChunks.{length_total}

-- no character ends behind the place `at` and within the limit
abbrev NoneBehind : List ℕ → ℕ → Type 0
NoneBehind text at = (i : ℕ) → at < i → i ≤ 65535 → ¬ (IsCharBoundary text i)

-- the first character of a text ends within the limit
some_boundary : (text cs : List ℕ) (at : ℕ) → IsUtf8 text → 0 < length text → encode_utf8_all cs ≡ text → NoneBehind text at → 0 < at
some_boundary text [] at utf8 some e none = absurd (omega (arith, some, ap length e))
some_boundary text (c ∷ cs) zero utf8 some e none =
    let size = len_utf8_bounds c in
    absurd (none (0 + len_utf8 c) (omega arith) (omega arith) (IsCharBoundary-past_char text (encode_utf8_all cs) 0 c (omega arith) utf8 (sym e)))
some_boundary text (c ∷ cs) (suc at) utf8 some e none = omega arith

-- a front of a text that is text ends at a boundary
front_ends : (text other rest : List ℕ) → IsUtf8 text → text ≡ other ++ rest → IsUtf8 other → IsCharBoundary text (length other)
front_ends text other rest utf8 there is =
    let front : take (length other) text ≡ other = ap (take (length other)) there ∙ take-append_seam other rest in
    let size : length text ≡ length other + length rest = ap length there ∙ length-append other rest in
    IsCharBoundary-from_take text (length other) utf8 (omega arith) (subst IsUtf8 (sym front) is)

-- no boundary within the limit stands behind the last one
within_last : (text : List ℕ) (at i : ℕ) → NoneBehind text at → IsCharBoundary text i → i ≤ 65535 → i ≤ at
within_last text at i none is fits = ⊎_elim (λ same. omega arith) (⊎_elim (λ below. omega arith) (λ behind. absurd (none i behind fits is))) (cases_order i at)

-- at the last boundary within the limit the first chunk ends
pub IsChunk-at : (text : List ℕ) (at : ℕ) → IsUtf8 text → 0 < length text → at ≤ 65535 → IsCharBoundary text at → NoneBehind text at → IsChunk text (take at text) (drop at text)
IsChunk-at text at utf8 some within is none =
    let size : length (take at text) ≡ at = length-take-le at text is.0 in
    record {
      there = sym (take-append-drop at text);
      some = rw size (some_boundary text (chars text) at utf8 some (encodes-chars text utf8) none);
      whole = IsUtf8-take text at utf8 is;
      fits = rw size within;
      longest = λ other rest there whole fits. rw size (within_last text at (length other) none (front_ends text other rest utf8 there whole) fits);
    }

-- what is behind the first chunk is text
behind_whole : (text chunk behind : List ℕ) → IsUtf8 text → IsChunk text chunk behind → IsUtf8 behind
behind_whole text chunk behind utf8 h =
    subst IsUtf8 (ap (drop (length chunk)) h.there ∙ drop_at chunk behind (length chunk) refl) (IsUtf8-drop text (length chunk) utf8 (front_ends text chunk behind utf8 h.there h.whole))

-- the character behind the first chunk has no room in it
no_room : (text chunk behind : List ℕ) (d : ℕ) (ds : List ℕ) → IsChunk text chunk behind → IsUtf8 behind → chars behind ≡ d ∷ ds → 65535 < length chunk + len_utf8 d
no_room text chunk behind d ds h utf8 e =
    let scalar : IsScalar d = (and_parts _ _ (ap scalars (sym e) ∙ scalars-chars behind utf8)).0 in
    let split : encode_utf8 d ++ encode_utf8_all ds ≡ behind = ap encode_utf8_all (sym e) ∙ encodes-chars behind utf8 in
    let there : text ≡ (chunk ++ encode_utf8 d) ++ encode_utf8_all ds = h.there ∙ ap (λ l. chunk ++ l) (sym split) ∙ sym (append_assoc chunk (encode_utf8 d) _) in
    let size : length (chunk ++ encode_utf8 d) ≡ length chunk + len_utf8 d = length-append chunk (encode_utf8 d) ∙ ap (λ n. length chunk + n) (length-encode d) in
    let bounds = len_utf8_bounds d in
    lt_of_not-le (λ le.
    let longer : length (chunk ++ encode_utf8 d) ≤ length chunk = h.longest _ _ there (IsUtf8-append chunk (encode_utf8 d) h.whole (IsUtf8-encode d scalar)) (omega arith) in
    omega arith)

-- characters, of which the first has no room, are cut as if the text began there
cut_rest : (room : ℕ) (cs : List ℕ) → ((d : ℕ) (ds : List ℕ) → cs ≡ d ∷ ds → room < len_utf8 d) → cut {S = Slot} room (letters cs []) ≡ no_more (cuts_of (letters cs []))
cut_rest room [] full = refl
cut_rest room (d ∷ ds) full = cut_full room d (letters ds []) (full d ds refl)

-- an open chunk of some characters is closed as a chunk
closed_some : (cs : List ℕ) (cuts : List (Cut Slot)) → 0 < total cs → closed_with cs cuts ≡ Chunk cs ∷ cuts
closed_some [] cuts some = absurd (omega arith)
closed_some (c ∷ cs) cuts some = refl

-- the first chunk of a text is the first that its characters are cut into
pub first_cut : (text chunk behind : List ℕ) → IsUtf8 text → IsChunk text chunk behind
    → cuts_of {S = Slot} (letters (chars text) []) ≡ Chunk (chars chunk) ∷ cuts_of (letters (chars behind) [])
first_cut text chunk behind utf8 h =
    let size : length chunk ≡ total (chars chunk) = ap length (sym (encodes-chars chunk h.whole)) ∙ length_total (chars chunk) in
    let full : (d : ℕ) (ds : List ℕ) → chars behind ≡ d ∷ ds → 65535 - length chunk < len_utf8 d
    = λ d ds e. omega (arith, h.fits, no_room text chunk behind d ds h (behind_whole text chunk behind utf8 h) e) in
    let cuts : List (Cut Slot) = cuts_of (letters (chars behind) []) in
    ap (λ cs. cuts_of (letters cs [])) (ap chars h.there ∙ chars-append chunk behind h.whole)
    ∙ ap cuts_of (letters_both (chars chunk) (chars behind) [])
    ∙ ap closed (cut_letters (chars chunk) 65535 (65535 - length chunk) (letters (chars behind) []) cuts (omega (arith, h.fits)) (cut_rest _ (chars behind) full))
    ∙ closed_some (chars chunk) cuts (omega (arith, h.some))

-- a literal is its first chunk, and what is behind that as a literal
literal_first : (text chunk behind : List ℕ) → IsUtf8 text → IsChunk text chunk behind
    → literal_bytes text ≡ chunk_bytes chunk ++ literal_bytes behind
literal_first text chunk behind utf8 h =
    ap (bytes_by no_bytes) (first_cut text chunk behind utf8 h) ∙ ap (λ bytes. chunk_bytes bytes ++ literal_bytes behind) (encodes-chars chunk h.whole)

-- with one more chunk written, the rest as a literal still completes the text
pub chunk_written : (old new text chunk behind : List ℕ) → IsUtf8 text → IsChunk text chunk behind → new ≡ old ++ chunk_bytes chunk
    → new ++ literal_bytes behind ≡ old ++ literal_bytes text
chunk_written old new text chunk behind utf8 h e =
    ap (λ l. l ++ literal_bytes behind) e ∙ append_assoc old (chunk_bytes chunk) _ ∙ ap (λ l. old ++ l) (sym (literal_first text chunk behind utf8 h))

-- an empty text is no literal
pub nothing_left : (bytes text : List ℕ) → length text ≡ 0 → bytes ++ literal_bytes text ≡ bytes
nothing_left bytes [] e = ap (λ cs. bytes ++ bytes_by no_bytes (cuts_of (letters cs []))) chars-nil ∙ append-nil bytes
nothing_left bytes (b ∷ text) e = absurd (omega arith)
