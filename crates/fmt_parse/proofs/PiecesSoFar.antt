-- What a loop keeps that reads a format text piece by piece.
use Rattle.std.proofs.Common.{◌≡◌, ◌≤◌, ◌<◌, ◌+◌, inl, inr, ℕ, List, [], ◌∷◌, ◌++◌, Some, ap, ◌∙◌, sym, subst, arith}
use Rattle.std.specs.List.{All}
use Rattle.std.proofs.lemmas.List.Elements.{All-push}
use Rattle.text_cut.specs.Runs.{size}
use Rattle.text_cut.specs.Place.{Place, place}
use Rattle.text_cut.specs.Rules.{Spells}
use Rattle.text_cut.specs.Reading.{items, texts, IsRead, SoFar, IsStuck, FaultAt}
use Rattle.text_cut.proofs.Sizes.{size_append}
use Rattle.text_cut.proofs.SoFar.{so_far_more, so_far_ends, so_far_stops, so_far_smaller}
use Rattle.fmt_parse.specs.declared.piece.Count.{Count}
use Rattle.fmt_parse.specs.declared.piece.Count.TheVariants as count
use Rattle.fmt_parse.specs.declared.piece.Position.{Position}
use Rattle.fmt_parse.specs.declared.piece.Position.TheVariants as position
use Rattle.fmt_parse.specs.declared.piece.Piece.{Piece}
use Rattle.fmt_parse.specs.declared.piece.Piece.TheVariants.{Lit, NextArgument}
use Rattle.fmt_parse.specs.Spec.{IsFormat}
use Rattle.fmt_parse.specs.Pieces.{stars, implicit, takes, taken, IsAnyPiece, IsPiece, IsInner}
use Rattle.fmt_parse.specs.ReadPieces.{format_piece_at}
use Rattle.fmt_parse.specs.Format.{HasPlainWidth}
use Rattle.fmt_parse.proofs.Pieces.{pieces_read, steps}

-- these pieces were read up to this place, and this is the number of the next argument; no more were taken than bytes were passed
pub record PiecesSoFar (text : List ℕ) (pieces : List Piece) (number : ℕ) (here : Place) : Type 0 where
  pub so_far : SoFar IsPiece (λ front. taken (items front)) text pieces number here
  pub few : number ≤ here.at
  pub widths : All HasPlainWidth pieces

-- nothing is left
pub pieces_end : (text : List ℕ) (pieces : List Piece) (number : ℕ) (here : Place) → PiecesSoFar text pieces number here → here.left ≡ [] → IsRead IsPiece text pieces
pieces_end text pieces number here is none = so_far_ends IsPiece (λ front. taken (items front)) text pieces number here is.so_far none

-- a count takes at most one argument, and so does a position
one_star : (c : Count) → stars c ≤ 1
one_star (count.IsStar n) = omega arith
one_star (count.Is n) = omega arith
one_star (count.IsName r) = omega arith
one_star (count.IsParam n) = omega arith
one_star count.Implied = omega arith

one_implicit : (p : Position) → implicit p ≤ 1
one_implicit (position.ImplicitlyIs n) = omega arith
one_implicit (position.Is n) = omega arith
one_implicit (position.Named r) = omega arith

-- a piece takes at most two
two_at_most : (piece : Piece) → takes piece ≤ 2
two_at_most (Lit r) = omega arith
two_at_most (NextArgument a) = omega (arith, one_star a.format.precision, one_implicit a.position)

-- what stands behind an opening brace has a byte at least
some_byte : (number at : ℕ) (text : List ℕ) (v : _) (rest : List ℕ) → IsInner (IsFormat number) at text v rest → 1 ≤ size text
some_byte number at text v rest inner =
    let behind = inner.latter in
    let end = behind.latter in
    omega (
      arith,
      ap size inner.whole,
      size_append inner.former_text inner.latter_text,
      ap size behind.whole,
      size_append behind.former_text behind.latter_text,
      ap size end.whole,
      size_append end.blanks (125 ∷ []),
    )

-- a piece takes no more arguments than it has bytes
few_taken : (number at : ℕ) (text : List ℕ) (piece : Piece) (rest : List ℕ) → IsAnyPiece (IsFormat number) number at text piece rest → takes piece ≤ size text
few_taken number at text piece rest (inl run) = omega (arith, ap takes run.value)
few_taken number at text piece rest (inr (inl doubled)) = omega (arith, ap takes doubled.value)
few_taken number at text piece rest (inr (inr (inl doubled))) = omega (arith, ap takes doubled.value)
few_taken number at text piece rest (inr (inr (inr placed))) =
    omega (arith, two_at_most piece, ap size placed.whole, some_byte number (at + 1) placed.inner placed.parts rest placed.is)

-- the piece found behind pieces, by the rule
found_piece : (text : List ℕ) (pieces : List Piece) (number : ℕ) (here : Place) (piece : Piece) (e : Place) → (sofar : SoFar IsPiece (λ front. taken (items front)) text pieces number here) → format_piece_at number here ≡ Some (piece, e) → Spells (λ at. IsPiece sofar.front) (place (size (texts sofar.front)) here.left) (piece, e)
found_piece text pieces number here piece e sofar found =
    let there : format_piece_at (taken (items sofar.front)) (place (size (texts sofar.front)) here.left) ≡ Some (piece, e) = sym (ap (λ n. format_piece_at n here) sofar.left_by ∙ ap (λ at. format_piece_at (taken (items sofar.front)) (place at here.left)) sofar.at) ∙ found in
    pieces_read.is sofar.front here.left (piece, e) there

-- one more piece is read
one_further : (text : List ℕ) (pieces : List Piece) (number : ℕ) (here : Place) (piece : Piece) (e : Place) → PiecesSoFar text pieces number here → format_piece_at number here ≡ Some (piece, e) → HasPlainWidth piece → PiecesSoFar text (pieces ++ piece ∷ []) (number + takes piece) e
one_further text pieces number here piece e is found width =
    let spelled = found_piece text pieces number here piece e is.so_far found in
    let few : takes piece ≤ size spelled.text = few_taken (taken (items is.so_far.front)) (size (texts is.so_far.front)) spelled.text piece e.left spelled.rule in
    record {
      so_far = so_far_more IsPiece (λ front. taken (items front)) format_piece_at (λ n p. n + takes p) pieces_read steps text pieces number here piece e is.so_far found;
      few = omega (arith, few, is.few, is.so_far.at, spelled.took.ends);
      widths = All-push HasPlainWidth pieces piece is.widths width;
    }

pub pieces_more : (text : List ℕ) (pieces more : List Piece) (number next : ℕ) (here : Place) (piece : Piece) (e : Place) → PiecesSoFar text pieces number here → Some (piece, e) ≡ format_piece_at number here → HasPlainWidth piece → more ≡ pieces ++ piece ∷ [] → next ≡ takes piece → PiecesSoFar text more (number + next) e
pieces_more text pieces more number next here piece e is found width added taken =
    subst (λ l. PiecesSoFar text l (number + next) e) (sym added)
    (subst (λ n. PiecesSoFar text (pieces ++ piece ∷ []) (number + n) e) (sym taken) (one_further text pieces number here piece e is (sym found) width))

-- no piece stands here, and something does
pub pieces_stop : (text : List ℕ) (pieces : List Piece) (number : ℕ) (here : Place) → PiecesSoFar text pieces number here → IsStuck format_piece_at number here → FaultAt IsPiece text here.at
pieces_stop text pieces number here is stuck = so_far_stops IsPiece (λ front. taken (items front)) format_piece_at pieces_read text pieces number here is.so_far stuck

-- less is left behind a piece
pub piece_smaller : (text : List ℕ) (pieces : List Piece) (number : ℕ) (here : Place) (piece : Piece) (e : Place) → PiecesSoFar text pieces number here → Some (piece, e) ≡ format_piece_at number here → size e.left < size here.left
piece_smaller text pieces number here piece e is found = so_far_smaller IsPiece (λ front. taken (items front)) format_piece_at pieces_read text pieces number here piece e is.so_far (sym found)
