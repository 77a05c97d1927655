-- From one number of the counter on, a template is read in exactly one way.
use Rattle.std.proofs.Common.{◌≡◌, ◌+◌, ◌≤◌, ◌<◌, ℕ, zero, suc, Bool, true, false, MatchBool, List, [], ◌∷◌, ◌++◌, length, Option, Some, None, refl, ap, ◌∙◌, sym, subst, append_assoc, length-append, arith}
use Rattle.std.proofs.lemmas.List.{append_cancel_right}
use Rattle.std.proofs.lemmas.Option.{same_Some}
use Rattle.text_cut.specs.Runs.{size}
use Rattle.text_cut.specs.Place.{Place, place}
use Rattle.text_cut.specs.Rules.{Spells}
use Rattle.text_cut.specs.Reading.{Spelled, texts, items, AreSpelled, Reach}
use Rattle.text_cut.proofs.Pieces.{reach_begins, next_piece}
use Rattle.text_cut.proofs.Sizes.{size_append, size_some}
use Rattle.fmt_parse.specs.declared.piece.Piece.{Piece}
use Rattle.fmt_parse.specs.declared.asm.AsmRead.{AsmRead}
use Rattle.fmt_parse.specs.Asm.{counter, IsAsmPiece, IsAsmRead}
use Rattle.fmt_parse.specs.ReadAsm.{asm_piece_at}
use Rattle.fmt_parse.specs.Laws.{SameAsmRead, HasFurthest, HasOneAsmReading}
use Rattle.fmt_parse.proofs.AsmSoFar.{counter_by, asm_pieces_read, are_furthest}

module _ (from : ℕ) where
  abbrev PieceAt : List (Spelled Piece) → List ℕ → Piece → List ℕ → Type 0
  PieceAt = IsAsmPiece from

  -- two pieces at one place are one, and what follows them is the same
  record SamePiece (s t : Spelled Piece) (more other : List ℕ) : Type 0 where
    text : s.text ≡ t.text
    item : s.item ≡ t.item
    behind : more ≡ other

  same_piece : (front : List (Spelled Piece)) (s t : Spelled Piece) (more other : List ℕ) → PieceAt front s.text s.item more → PieceAt front t.text t.item other → s.text ++ more ≡ t.text ++ other → SamePiece s t more other
  same_piece front s t more other a b e =
      let reads = asm_pieces_read from in
      let same : Some (s.item, place (size (texts front) + size s.text) more) ≡ Some (t.item, place (size (texts front) + size t.text) other) =
      sym (reads.found front s.text s.item more a) ∙ (ap (λ l. asm_piece_at (counter_by from front) (place (size (texts front)) l)) e ∙ reads.found front t.text t.item other b) in
      let behind : more ≡ other = ap (λ (r : Piece × Place). r.1.left) (same_Some _ _ same) in
      record {
        text = append_cancel_right s.text t.text other (ap (λ l. s.text ++ l) (sym behind) ∙ e);
        item = ap (λ (r : Piece × Place). r.0) (same_Some _ _ same);
        behind = behind;
      }

  same_spelled : (s t : Spelled Piece) → s.text ≡ t.text → s.item ≡ t.item → s ≡ t
  same_spelled s t text item = λ i. record { text = text i; item = item i }

  -- a piece takes bytes
  some_bytes : (front : List (Spelled Piece)) (s : Spelled Piece) (ss : List (Spelled Piece)) (rest : List ℕ) → PieceAt front s.text s.item rest → 0 < size (texts (s ∷ ss))
  some_bytes front s ss rest is = omega (arith, size_append s.text (texts ss), size_some s.text ((asm_pieces_read from).some front s.text s.item rest is))

  -- pieces from one place that reach equally far are the same, and so is what follows them
  same_front : (front ss others : List (Spelled Piece)) (rest left : List ℕ) → AreSpelled PieceAt front ss rest → AreSpelled PieceAt front others left → texts ss ++ rest ≡ texts others ++ left → size (texts ss) ≡ size (texts others) → (ss ≡ others) × (rest ≡ left)
  same_front front [] [] rest left a b e far = (refl, e)
  same_front front [] (t ∷ ts) rest left a b e far = absurd (omega (arith, far, some_bytes front t ts (texts ts ++ left) b.0))
  same_front front (s ∷ ss) [] rest left a b e far = absurd (omega (arith, far, some_bytes front s ss (texts ss ++ rest) a.0))
  same_front front (s ∷ ss) (t ∷ ts) rest left a b e far =
      let one = same_piece front s t (texts ss ++ rest) (texts ts ++ left) a.0 b.0 (sym (append_assoc s.text (texts ss) rest) ∙ (e ∙ append_assoc t.text (texts ts) left)) in
      let same : s ≡ t = same_spelled s t one.text one.item in
      let more = same_front (front ++ s ∷ []) ss ts rest left a.1 (subst (λ x. AreSpelled PieceAt (front ++ x ∷ []) ts left) (sym same) b.1) one.behind
      (omega (arith, far, ap size one.text, size_append s.text (texts ss), size_append t.text (texts ts))) in
      (λ i. same i ∷ more.0 i, more.1)

  -- behind pieces from the front no piece is found, or one more stands there and less is left
  one_further : (cs : List ℕ) (front : List (Spelled Piece)) (rest : List ℕ) → Reach PieceAt cs front rest → ((s : Spelled Piece) (left : List ℕ) → length left < length rest → Reach PieceAt cs (front ++ s ∷ []) left → HasFurthest from cs)
      → (o : Option (Piece × Place)) → asm_piece_at (counter_by from front) (place (size (texts front)) rest) ≡ o → HasFurthest from cs
  one_further cs front rest reach go None stuck = record { front = front; rest = rest; are = are_furthest from cs front rest reach stuck }
  one_further cs front rest reach go (Some r) found =
      let is : Spells (λ at. PieceAt front) (place (size (texts front)) rest) r = (asm_pieces_read from).is front rest r found in
      let s : Spelled Piece = record { text = is.text; item = r.0 } in
      go s r.1.left
      (omega (arith, ap length is.took.there, length-append is.text r.1.left, (asm_pieces_read from).some front is.text r.0 r.1.left is.rule))
      (next_piece PieceAt cs front rest s r.1.left reach is.took.there is.rule)

  -- pieces from the front go on as far as they can: there are no more than characters
  goes_on : (most : ℕ) (cs : List ℕ) (front : List (Spelled Piece)) (rest : List ℕ) → length rest ≤ most → Reach PieceAt cs front rest → HasFurthest from cs
  goes_on zero cs front rest enough reach = one_further cs front rest reach (λ s left less more. absurd (omega (arith, less, enough))) (asm_piece_at (counter_by from front) (place (size (texts front)) rest)) refl
  goes_on (suc most) cs front rest enough reach = one_further cs front rest reach (λ s left less more. goes_on most cs (front ++ s ∷ []) left (omega (arith, less, enough)) more) (asm_piece_at (counter_by from front) (place (size (texts front)) rest)) refl

  some_furthest : (cs : List ℕ) → HasFurthest from cs
  some_furthest cs = goes_on (length cs) cs [] cs (omega arith) (reach_begins PieceAt cs)

-- both tests say whether nothing is left
same_end : (b c : Bool) (rest : List ℕ) → MatchBool b (rest ≡ []) (0 < length rest) → MatchBool c (rest ≡ []) (0 < length rest) → b ≡ c
same_end true true rest x y = refl
same_end false false rest x y = refl
same_end true false rest x y = absurd (omega (arith, ap length x, y))
same_end false true rest x y = absurd (omega (arith, ap length y, x))

one_read : (from : ℕ) (text : List ℕ) (read other : AsmRead) → IsAsmRead from text read → IsAsmRead from text other → SameAsmRead read other
one_read from text read other a b =
    let far : size (texts a.front) ≡ size (texts b.front) = omega (arith, a.are.furthest b.front b.rest b.are.reach, b.are.furthest a.front a.rest a.are.reach) in
    let same = same_front from [] a.front b.front a.rest b.rest a.are.reach.are b.are.reach.are (sym a.are.reach.there ∙ b.are.reach.there) far in
    let pieces : items a.front ≡ items b.front = ap (λ ss. items ss) same.0 in
    record {
      same_pieces = a.pieces ∙ (pieces ∙ sym b.pieces);
      same_curarg = a.counted ∙ (ap (counter from) pieces ∙ sym b.counted);
      same_complete = same_end read.complete other.complete a.rest a.whole (subst (λ l. MatchBool other.complete (l ≡ []) (0 < length l)) (sym same.1) b.whole);
    }

pub has_one_asm_reading : HasOneAsmReading
has_one_asm_reading = record { some = some_furthest; one = one_read }
