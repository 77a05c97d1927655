-- For calls there is exactly one number that is the most that they place: it is found whether a text has pieces, and which.
use Rattle.std.specs.Prelude.{◌≡◌, ◌⊎◌, ℕ, ◌+◌, ◌<◌, ◌≤◌, Bool, true, false, zero, suc, List, [], ◌∷◌, ◌++◌, length, Option, Some, None}
use Rattle.std.specs.Str.{chars}
use Rattle.std.proofs.Common.{refl, sym, ap, subst, ◌∙◌, inl, inr, arith, length-append}
use Rattle.std.proofs.lemmas.Bool.{true≢false}
use Rattle.std.proofs.lemmas.Option.{same_Some, none-some}
use Rattle.text_cut.specs.Runs.{size}
use Rattle.text_cut.specs.Place.{Place, place}
use Rattle.text_cut.specs.Reading.{Spelled, texts, items, Reach, IsReading, ReadsPieces}
use Rattle.text_cut.proofs.Pieces.{reach_begins, next_piece, no_reading, one_read}
use Rattle.fmt_parse.specs.declared.piece.Piece.{Piece}
use Rattle.fmt_parse.specs.Pieces.{IsPiece, ArePieces}
use Rattle.fmt_parse.specs.ReadPieces.{format_piece_at}
use Rattle.fmt_parse.proofs.Pieces.{taken_by, pieces_read}
use Rattle.syn_trees.specs.declared.format_call.FormatCall.{FormatCall}
use Rattle.syn_trees.specs.Literal.{HasValue}
use Rattle.syn_trees.specs.ReadString.{value_of}
use Rattle.syn_trees.proofs.Values.{one_value, value_found, value_is}
use Rattle.hir_asm.specs.Lowered as asm
use Rattle.ra_cfg.specs.Options.{OptionSet}
use Rattle.ra_cfg.specs.Reading.{is_off}
use Rattle.gated_calls.specs.declared.call.GatedCall.{GatedCall}
use Rattle.gated_calls.specs.declared.call.Call.{Call}
use Rattle.gated_calls.specs.declared.call.Call.TheVariants.{Format, Asm}
use Rattle.template_bytes.specs.Pairs.{pairs_of}
use Rattle.format_code.specs.FormatCall.{Surroundings, HasPieces, token_in, captured_in, pieces_in}
use Rattle.hir_lower.specs.Lowered.{most_of, IsMost, IsMostOf, IsMostGated, AreMost}

-- something is so, or never
abbrev IsDecided : {A : Type 0} → (A → Type 0) → Type 0
IsDecided {A} Holds = ((a : A) × Holds a) ⊎ ((a : A) → Holds a → ⊥)

module _ {X S : Type 0} (rule : List (Spelled X) → List ℕ → X → List ℕ → Type 0) (state_of : List (Spelled X) → S) (read : S → Place → Option (X × Place)) (reads : ReadsPieces rule state_of read) (text : List ℕ) where
  -- what the reader finds behind pieces decides, where it is decided behind one piece more
  by_next : (front : List (Spelled X)) (rest : List ℕ) (most : ℕ) → Reach rule text front rest → 0 < length rest → length rest ≤ suc most
      → ((next : List (Spelled X)) (left : List ℕ) → Reach rule text next left → length left ≤ most → IsDecided (IsReading rule text))
      → (found : Option (X × Place)) → read (state_of front) (place (size (texts front)) rest) ≡ found → IsDecided (IsReading rule text)
  by_next front rest most reach more fits further None none = inr (no_reading rule state_of read reads text front rest reach more none)
  by_next front rest most reach more fits further (Some r) is =
      let one = reads.is front rest r is in
      let spelled : Spelled X = record { text = one.text; item = r.0 } in
      further (front ++ spelled ∷ []) r.1.left (next_piece rule text front rest spelled r.1.left reach one.took.there one.rule)
      (omega (arith, fits, ap length one.took.there, length-append one.text r.1.left, reads.some front one.text r.0 r.1.left one.rule))

  -- whether a text is pieces is decided piece by piece
  by_pieces : (most : ℕ) (front : List (Spelled X)) (rest : List ℕ) → Reach rule text front rest → length rest ≤ most → IsDecided (IsReading rule text)
  by_pieces most front [] reach fits = inl (front, reach)
  by_pieces zero front (c ∷ rest) reach fits = absurd (omega (arith, fits))
  by_pieces (suc most) front (c ∷ rest) reach fits =
      by_next front (c ∷ rest) most reach (omega arith) fits (by_pieces most) (read (state_of front) (place (size (texts front)) (c ∷ rest))) refl

  pub reading_or_none : IsDecided (IsReading rule text)
  reading_or_none = by_pieces (length text) [] text (reach_begins rule text) (omega arith)

-- a text has pieces, or none
pieces_by : (text : List ℕ) → IsDecided (IsReading IsPiece (chars text)) → IsDecided (ArePieces text)
pieces_by text (inl found) = inl (items found.0, record { pieces = found.0; reading = found.1; are = refl })
pieces_by text (inr never) = inr (λ pieces are. never are.pieces are.reading)

pieces_or_none : (text : List ℕ) → IsDecided (ArePieces text)
pieces_or_none text = pieces_by text (reading_or_none IsPiece taken_by format_piece_at pieces_read (chars text))

module _ (around : Surroundings) (call : FormatCall) where
  -- a text of the call with its pieces
  abbrev HasText : List ℕ × List Piece → Type 0
  HasText found = HasPieces around call found.0 found.1

  -- the texts of a call are one
  module _ (token text : List ℕ) (reached : token_in around call ≡ Some token) (value : HasValue token text) where
    same_text : (found : List ℕ × List Piece) → HasText found → found.0 ≡ text
    same_text found is = one_value token found.0 text (subst (λ t. HasValue t found.0) (same_Some is.token token (sym is.reached ∙ reached)) is.format.value) value

    by_text : IsDecided (ArePieces text) → IsDecided HasText
    by_text (inl found) = inl ((text, found.0), record { token = token; reached = reached; format = record { value = value; are = found.1 } })
    by_text (inr never) = inr (λ found is. never found.1 (subst (λ t. ArePieces t found.1) (same_text found is) is.format.are))

  by_value : (token : List ℕ) → token_in around call ≡ Some token → (value : Option (List ℕ)) → value_of token ≡ value → IsDecided HasText
  by_value token reached None none = inr (λ found is. none-some found.0
      (sym none ∙ value_found token found.0 (subst (λ t. HasValue t found.0) (same_Some is.token token (sym is.reached ∙ reached)) is.format.value)))
  by_value token reached (Some text) is = by_text token text reached (value_is token text is) (pieces_or_none text)

  by_token : (token : Option (List ℕ)) → token_in around call ≡ token → IsDecided HasText
  by_token None none = inr (λ found is. none-some is.token (sym none ∙ is.reached))
  by_token (Some token) reached = by_value token reached (value_of token) refl

  -- a call has a text with pieces, or none
  text_or_none : IsDecided HasText
  text_or_none = by_token (token_in around call) refl

  -- so there is a most
  most_by : IsDecided HasText → (most : ℕ) × IsMost around call most
  most_by (inl found) = (
    most_of (length call.args + length (captured_in call found.0.0 found.0.1)) (length (pairs_of (pieces_in call found.0.0 found.0.1))),
    inl (found.0.0, found.0.1, found.1, refl),
  )
  most_by (inr never) = (most_of (length call.args) 0, inr (λ text pieces is. never (text, pieces) is, refl))

  some_of_format : (most : ℕ) × IsMost around call most
  some_of_format = most_by text_or_none

some_of_call : (around : Surroundings) (call : Call) → (most : ℕ) × IsMostOf around call most
some_of_call around (Format call) = some_of_format around call
some_of_call around (Asm call) = (asm.most_of call, refl)

some_gated : (options : OptionSet) (around : Surroundings) (call : GatedCall) (off : Bool) → is_off options call.cfgs ≡ off → (most : ℕ) × IsMostGated options around call most
some_gated options around call true is = (0, inl (is, refl))
some_gated options around call false is = let of_call = some_of_call around call.call in (of_call.0, inr (is, of_call.1))

pub some_most : (options : OptionSet) (around : Surroundings) (calls : List GatedCall) → (most : ℕ) × AreMost options around calls most
some_most options around [] = (0, refl)
some_most options around (call ∷ calls) =
    let first = some_gated options around call (is_off options call.cfgs) refl in
    let rest = some_most options around calls in
    (first.0 + rest.0, (first.0, rest.0, first.1, rest.1, refl))

module _ (around : Surroundings) (call : FormatCall) where
  -- two texts of a call with pieces are the same
  module _ (text other : List ℕ) (pieces others : List Piece) (is : HasPieces around call text pieces) (also : HasPieces around call other others) where
    same_token : is.token ≡ also.token
    same_token = same_Some is.token also.token (sym is.reached ∙ also.reached)

    one_text : text ≡ other
    one_text = one_value also.token text other (subst (λ t. HasValue t text) same_token is.format.value) also.format.value

    one_pieces : pieces ≡ others
    one_pieces = one_read IsPiece taken_by format_piece_at pieces_read (chars other) pieces others (subst (λ t. ArePieces t pieces) one_text is.format.are) also.format.are

    one_size : most_of (length call.args + length (captured_in call text pieces)) (length (pairs_of (pieces_in call text pieces))) ≡ most_of (length call.args + length (captured_in call other others)) (length (pairs_of (pieces_in call other others)))
    one_size = rw (one_text, one_pieces) refl

  one_of_format : (most other : ℕ) → IsMost around call most → IsMost around call other → most ≡ other
  one_of_format most other (inl is) (inl also) = is.3 ∙ one_size is.0 also.0 is.1 also.1 is.2 also.2 ∙ sym also.3
  one_of_format most other (inl is) (inr also) = absurd (also.0 is.0 is.1 is.2)
  one_of_format most other (inr is) (inl also) = absurd (is.0 also.0 also.1 also.2)
  one_of_format most other (inr is) (inr also) = is.1 ∙ sym also.1

one_of_call : (around : Surroundings) (call : Call) (most other : ℕ) → IsMostOf around call most → IsMostOf around call other → most ≡ other
one_of_call around (Format call) most other is also = one_of_format around call most other is also
one_of_call around (Asm call) most other is also = is ∙ sym also

one_gated : (options : OptionSet) (around : Surroundings) (call : GatedCall) (most other : ℕ) → IsMostGated options around call most → IsMostGated options around call other → most ≡ other
one_gated options around call most other (inl is) (inl also) = is.1 ∙ sym also.1
one_gated options around call most other (inl is) (inr also) = absurd (true≢false (sym is.0 ∙ also.0))
one_gated options around call most other (inr is) (inl also) = absurd (true≢false (sym also.0 ∙ is.0))
one_gated options around call most other (inr is) (inr also) = one_of_call around call.call most other is.1 also.1

pub one_most : (options : OptionSet) (around : Surroundings) (calls : List GatedCall) (most other : ℕ) → AreMost options around calls most → AreMost options around calls other → most ≡ other
one_most options around [] most other is also = is ∙ sym also
one_most options around (call ∷ calls) most other is also =
    let first = one_gated options around call is.0 also.0 is.2 also.2 in
    let rest = one_most options around calls is.1 also.1 is.3 also.3 in
    omega (arith, is.4, also.4, first, rest)
