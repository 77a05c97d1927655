-- What a loop keeps that reads a template of inline assembly piece by piece.
use Rattle.std.proofs.Common.{◌≡◌, ◌+◌, ◌-◌, ◌^◌, ◌<◌, min, ℕ, MatchBool, List, [], ◌∷◌, ◌++◌, length, Some, None, ap, ◌∙◌, sym, subst, arith}
use Rattle.std.specs.Str.{chars}
use Rattle.text_cut.specs.Runs.{size}
use Rattle.text_cut.specs.Place.{Place, place}
use Rattle.text_cut.specs.Reading.{Spelled, texts, items, Reach, ReadsPieces, StepsBy, SoFar}
use Rattle.text_cut.proofs.Lists.{items_more}
use Rattle.text_cut.proofs.Pieces.{furthest}
use Rattle.text_cut.proofs.SoFar.{so_far_more, so_far_smaller}
use Rattle.fmt_parse.specs.declared.piece.Piece.{Piece}
use Rattle.fmt_parse.specs.declared.asm.AsmRead.{AsmRead}
use Rattle.fmt_parse.specs.Pieces.{takes, taken}
use Rattle.fmt_parse.specs.Asm.{IsModified, counter, IsAsmPiece, AreFurthest, IsAsmRead}
use Rattle.fmt_parse.specs.ReadAsm.{modified_at, asm_piece_at}
use Rattle.fmt_parse.proofs.Pieces.{read_by, taken_more}
use Rattle.fmt_parse.proofs.Modifiers.{modified_reads}

module _ (from : ℕ) where
  -- the counter behind these spellings
  abbrev pub counter_by : List (Spelled Piece) → ℕ
  counter_by spelled = counter from (items spelled)

  -- pieces are read as the grammar says
  pub asm_pieces_read : ReadsPieces (IsAsmPiece from) counter_by asm_piece_at
  asm_pieces_read = read_by counter_by (λ number. IsModified) (λ number. modified_at) (λ number. modified_reads)

  abbrev raised : ℕ → Piece → ℕ
  raised n piece = min (n + takes piece) (2 ^ 64 - 1)

  -- each piece raises the counter by what it takes
  asm_steps : StepsBy counter_by raised
  asm_steps = record { more = λ front s. ap (counter from) (items_more front s) ∙ capped from (taken (items front)) (takes s.item) (taken (items front ++ s.item ∷ [])) (taken_more (items front) s.item) }
    where
      capped : (a b c d : ℕ) → d ≡ b + c → min (a + d) (2 ^ 64 - 1) ≡ min (min (a + b) (2 ^ 64 - 1) + c) (2 ^ 64 - 1)
      capped a b c d same = omega (arith, same)

  -- these pieces were read up to this place, and this is the counter behind them
  abbrev pub AsmSoFar : List ℕ → List Piece → ℕ → Place → Type 0
  AsmSoFar text pieces number here = SoFar (IsAsmPiece from) counter_by text pieces number here

  -- one more piece is read
  pub asm_more : (text : List ℕ) (pieces more : List Piece) (number next taken : ℕ) (here : Place) (piece : Piece) (e : Place) → AsmSoFar text pieces number here → Some (piece, e) ≡ asm_piece_at number here → more ≡ pieces ++ piece ∷ [] → taken ≡ takes piece → next ≡ min (number + taken) (2 ^ 64 - 1) → AsmSoFar text more next e
  asm_more text pieces more number next taken here piece e is found added took raises =
      subst (λ l. AsmSoFar text l next e) (sym added)
      (subst (λ n. AsmSoFar text (pieces ++ piece ∷ []) n e) (sym (raises ∙ ap (λ t. min (number + t) (2 ^ 64 - 1)) took))
      (so_far_more (IsAsmPiece from) counter_by asm_piece_at raised asm_pieces_read asm_steps text pieces number here piece e is (sym found)))

  -- less is left behind a piece
  pub asm_smaller : (text : List ℕ) (pieces : List Piece) (number : ℕ) (here : Place) (piece : Piece) (e : Place) → AsmSoFar text pieces number here → Some (piece, e) ≡ asm_piece_at number here → size e.left < size here.left
  asm_smaller text pieces number here piece e is found = so_far_smaller (IsAsmPiece from) counter_by asm_piece_at asm_pieces_read text pieces number here piece e is (sym found)

  -- where no piece is found behind pieces, they reach furthest
  pub are_furthest : (cs : List ℕ) (front : List (Spelled Piece)) (rest : List ℕ) → Reach (IsAsmPiece from) cs front rest → asm_piece_at (counter_by front) (place (size (texts front)) rest) ≡ None → AreFurthest from cs front rest
  are_furthest cs front rest reach stuck = record { reach = reach; furthest = furthest (IsAsmPiece from) counter_by asm_piece_at asm_pieces_read cs front rest reach stuck }

  -- no piece stands here: what was read is all that is
  pub asm_ends : (text : List ℕ) (read : AsmRead) (here : Place) → AsmSoFar (chars text) read.pieces.items read.curarg here → asm_piece_at read.curarg here ≡ None → MatchBool read.complete (here.left ≡ []) (0 < length here.left) → IsAsmRead from text read
  asm_ends text read here is none whole =
      let stuck : asm_piece_at (counter_by is.front) (place (size (texts is.front)) here.left) ≡ None = sym (ap (λ n. asm_piece_at n here) is.left_by ∙ ap (λ at. asm_piece_at (counter_by is.front) (place at here.left)) is.at) ∙ none in
      record {
        front = is.front;
        rest = here.left;
        are = are_furthest (chars text) is.front here.left is.reach stuck;
        pieces = is.are;
        counted = is.left_by;
        whole = whole;
      }
