-- Every range of a piece is a part of the text: from where a spelling begins to where it ends.
use Rattle.std.proofs.Common.{◌≡◌, ℕ, ◌+◌, inl, inr, List, [], ◌∷◌, ◌++◌, Option, Some, None, IfSome, refl, ap, ◌∙◌, sym, subst, append_assoc, arith}
use Rattle.std.specs.Char.{len_utf8}
use Rattle.std.specs.List.{All}
use Rattle.std.specs.Str.{IsUtf8, chars}
use Rattle.std.proofs.lemmas.List.Elements.{All-nil, All-cons}
use Rattle.sym_core.specs.declared.text_range.TextRange.{TextRange}
use Rattle.text_cut.specs.Runs.{size}
use Rattle.text_cut.specs.Part.{IsPart}
use Rattle.text_cut.specs.Reading.{Spelled, texts, items, AreSpelled}
use Rattle.text_cut.proofs.Lists.{texts_more}
use Rattle.text_cut.proofs.Sizes.{size_append}
use Rattle.text_cut.proofs.Parts.{part_behind}
use Rattle.fmt_parse.specs.declared.piece.Position.{Position}
use Rattle.fmt_parse.specs.declared.piece.Piece.{Piece}
use Rattle.fmt_parse.specs.Tokens.{range}
use Rattle.fmt_parse.specs.Spec.{Counted, IsCount, IsPrecision, Typed, IsType, SpecParts, AreParts, typed_parts, IsFormat}
use Rattle.fmt_parse.specs.Pieces.{taken, Written, IsArg, filled, IsPlaceholder, IsAnyPiece, IsPiece, ArePieces}
use Rattle.fmt_parse.specs.declared.asm.AsmRead.{AsmRead}
use Rattle.fmt_parse.specs.Asm.{IsModifier, IsModified, counter, IsAsmPiece, IsAsmRead}
use Rattle.fmt_parse.specs.Ranges.{OfCount, OfPosition, RangesWithin}

module _ (text : List ℕ) (utf8 : IsUtf8 text) where
  abbrev IsRange : TextRange → Type 0
  IsRange r = IsPart text r.start r.end

  -- in the text, these characters stand at this offset, in front of the rest
  record Stands (at : ℕ) (part rest : List ℕ) : Type 0 where
    front : List ℕ
    whole : chars text ≡ front ++ (part ++ rest)
    begins : at ≡ size front

  -- the range of what stands in the text
  its_range : (at : ℕ) (part rest : List ℕ) → Stands at part rest → IsRange (range at part)
  its_range at part rest is = subst (λ n. IsPart text n (n + size part)) (sym is.begins) (part_behind text is.front part rest utf8 is.whole)

  -- the former of two parts stands in the text
  former : (at : ℕ) (part a b rest : List ℕ) → part ≡ a ++ b → Stands at part rest → Stands at a (b ++ rest)
  former at part a b rest cut is = record {
    front = is.front;
    whole = is.whole ∙ ap (λ l. is.front ++ l) (ap (λ l. l ++ rest) cut ∙ append_assoc a b rest);
    begins = is.begins;
  }

  -- and so does the latter
  latter : (at : ℕ) (part a b rest : List ℕ) → part ≡ a ++ b → Stands at part rest → Stands (at + size a) b rest
  latter at part a b rest cut is = record {
    front = is.front ++ a;
    whole = is.whole ∙ (ap (λ l. is.front ++ l) (ap (λ l. l ++ rest) cut ∙ append_assoc a b rest) ∙ sym (append_assoc is.front a (b ++ rest)));
    begins = omega (arith, is.begins, size_append is.front a);
  }

  -- what stands behind a character
  tail_stands : (at c : ℕ) (part rest : List ℕ) → Stands at (c ∷ part) rest → Stands (at + len_utf8 c) part rest
  tail_stands at c part rest is = subst (λ n. Stands (at + n) part rest) (omega arith) (latter at (c ∷ part) (c ∷ []) part rest refl is)

  -- the empty range in front of what stands in the text
  empty_range : (at : ℕ) (part rest : List ℕ) → Stands at part rest → IsRange (range at [])
  empty_range at part rest is = its_range at [] (part ++ rest) (former at part [] part rest refl is)

  -- the ranges of a count
  record CountedWithin (v : Counted) : Type 0 where
    count : OfCount IsRange v.0
    span : IfSome v.1 IsRange

  counted : (v w : Counted) → v ≡ w → OfCount IsRange w.0 → IfSome w.1 IsRange → CountedWithin v
  counted v w same count span = subst (λ x. CountedWithin x) (sym same) (record { count = count; span = span })

  count_within : (at : ℕ) (part : List ℕ) (v : Counted) (rest : List ℕ) → IsCount at part v rest → Stands at part rest → CountedWithin v
  count_within at part v rest (inl h) is = counted v _ h.value tt tt
  count_within at part v rest (inr (inl h)) is = counted v _ h.value tt (its_range at part rest is)
  count_within at part v rest (inr (inr (inl h))) is = counted v _ h.value tt (its_range at h.digits (36 ∷ [] ++ rest) (former at part h.digits (36 ∷ []) rest h.whole is))
  count_within at part v rest (inr (inr (inr h))) is =
      let name : IsRange (range at h.name) = its_range at h.name (36 ∷ [] ++ rest) (former at part h.name (36 ∷ []) rest h.whole is) in
      counted v _ h.value name name

  precision_within : (number at : ℕ) (part : List ℕ) (v : Counted) (rest : List ℕ) → IsPrecision number at part v rest → Stands at part rest → CountedWithin v
  precision_within number at [] v rest h is = counted v _ h.1 tt tt
  precision_within number at (c ∷ part) v rest (dot, inl h) is = counted v _ h.value tt (its_range (at + len_utf8 c) part rest (tail_stands at c part rest is))
  precision_within number at (c ∷ part) v rest (dot, inr h) is = count_within (at + len_utf8 c) part v rest h.is (tail_stands at c part rest is)

  type_within : (at : ℕ) (part : List ℕ) (v : Typed) (rest : List ℕ) → IsType at part v rest → Stands at part rest → IsRange v.1
  type_within at [] v rest h is = subst (λ (w : Typed). IsRange w.1) (sym h.value) (its_range at [] rest is)
  type_within at (c ∷ part) v rest (inl h) is = subst (λ (w : Typed). IsRange w.1) (sym h.value) (its_range at (c ∷ []) (part ++ rest) (former at (c ∷ part) (c ∷ []) part rest refl is))
  type_within at (c ∷ part) v rest (inr (inl h)) is = subst (λ (w : Typed). IsRange w.1) (sym h.value)
      (its_range (at + len_utf8 c) (63 ∷ []) rest (subst (λ l. Stands (at + len_utf8 c) l rest) h.question (tail_stands at c part rest is)))
  type_within at (c ∷ part) v rest (inr (inr (inl h))) is = subst (λ (w : Typed). IsRange w.1) (sym h.value) (its_range at (c ∷ []) (part ++ rest) (former at (c ∷ part) (c ∷ []) part rest refl is))
  type_within at (c ∷ part) v rest (inr (inr (inr h))) is = subst (λ (w : Typed). IsRange w.1) (sym h.value) (its_range at (c ∷ part) rest is)

  -- the ranges of what stands behind a colon
  record SpecWithin (v : SpecParts) : Type 0 where
    width : CountedWithin v.1.1.1.1.0
    precision : CountedWithin v.1.1.1.1.1.0
    ty : IsRange v.1.1.1.1.1.1.1

  parts_within : (number at : ℕ) (part : List ℕ) (v : SpecParts) (rest : List ℕ) → AreParts number at part v rest → Stands at part rest → SpecWithin v
  parts_within number at part v rest h is =
      let sign = h.latter in
      let hash = sign.latter in
      let zero = hash.latter in
      let width = zero.latter in
      let precision = width.latter in
      let behind_align = latter _ _ _ _ _ h.whole is in
      let behind_sign = latter _ _ _ _ _ sign.whole behind_align in
      let behind_hash = latter _ _ _ _ _ hash.whole behind_sign in
      let behind_zero = latter _ _ _ _ _ zero.whole behind_hash in
      let behind_width = latter _ _ _ _ _ width.whole behind_zero in
      record {
        width = count_within _ _ _ _ width.former (former _ _ _ _ _ width.whole behind_zero);
        precision = precision_within _ _ _ _ _ precision.former (former _ _ _ _ _ precision.whole behind_width);
        ty = type_within _ _ _ _ precision.latter (latter _ _ _ _ _ precision.whole behind_width);
      }

  -- the ranges of a type alone
  typed_within : (v : SpecParts) (ty : TextRange) → v ≡ typed_parts ty → IsRange ty → SpecWithin v
  typed_within v ty same is = subst (λ (w : SpecParts). SpecWithin w) (sym same) (record {
    width = record { count = tt; span = tt };
    precision = record { count = tt; span = tt };
    ty = is;
  })

  format_within : (number at : ℕ) (part : List ℕ) (v : SpecParts) (rest : List ℕ) → IsFormat number at part v rest → Stands at part rest → SpecWithin v
  format_within number at [] v rest h is = typed_within v _ h.1 (its_range at [] rest is)
  format_within number at (c ∷ part) v rest h is = parts_within number (at + len_utf8 c) part v rest h.1 (tail_stands at c part rest is)

  -- the ranges of the argument that a placeholder names
  record WrittenWithin (v : Written) : Type 0 where
    position : IfSome v.0 (OfPosition IsRange)
    span : IsRange v.1

  written : (v w : Written) → v ≡ w → IfSome w.0 (OfPosition IsRange) → IsRange w.1 → WrittenWithin v
  written v w same position span = subst (λ x. WrittenWithin x) (sym same) (record { position = position; span = span })

  arg_within : (at : ℕ) (part : List ℕ) (v : Written) (rest : List ℕ) → IsArg at part v rest → Stands at part rest → WrittenWithin v
  arg_within at part v rest (inl h) is = written v _ h.value tt (empty_range at part rest is)
  arg_within at part v rest (inr (inl h)) is = written v _ h.value tt (its_range at part rest is)
  arg_within at part v rest (inr (inr h)) is = written v _ h.value (its_range at part rest is) (its_range at part rest is)

  filled_within : (o : Option Position) (n : ℕ) → IfSome o (OfPosition IsRange) → OfPosition IsRange (filled o n)
  filled_within None n is = tt
  filled_within (Some p) n is = is

  -- the ranges of placeholders, where those of their options are parts of the text
  module _ (Options : ℕ → List ℕ → SpecParts → List ℕ → Type 0) (options_within : (at : ℕ) (part : List ℕ) (v : SpecParts) (rest : List ℕ) → Options at part v rest → Stands at part rest → SpecWithin v) (number : ℕ) where
    placeholder_within : (at : ℕ) (part : List ℕ) (piece : Piece) (rest : List ℕ) → IsPlaceholder Options number at part piece rest → Stands at part rest → RangesWithin text piece
    placeholder_within at part piece rest h is =
        let inner = h.is in
        let format = inner.latter in
        let behind_brace : Stands (at + 1) h.inner rest = latter at part (123 ∷ []) h.inner rest h.whole is in
        let arg : WrittenWithin h.parts.0 = arg_within _ _ _ _ inner.former (former _ _ _ _ _ inner.whole behind_brace) in
        let behind_arg = latter _ _ _ _ _ inner.whole behind_brace in
        let spec : SpecWithin h.parts.1.0 = options_within _ _ _ _ format.former (former _ _ _ _ _ format.whole behind_arg) in
        subst (λ p. RangesWithin text p) (sym h.value) (record {
          whole = its_range at part rest is;
          position = filled_within h.parts.0.0 _ arg.position;
          position_span = arg.span;
          width = spec.width.count;
          width_span = spec.width.span;
          precision = spec.precision.count;
          precision_span = spec.precision.span;
          ty = spec.ty;
        })

    piece_within : (at : ℕ) (part : List ℕ) (piece : Piece) (rest : List ℕ) → IsAnyPiece Options number at part piece rest → Stands at part rest → RangesWithin text piece
    piece_within at part piece rest (inl h) is = subst (λ p. RangesWithin text p) (sym h.value) (its_range at part rest is)
    piece_within at part piece rest (inr (inl h)) is = subst (λ p. RangesWithin text p) (sym h.value) (its_range at (123 ∷ []) (123 ∷ [] ++ rest) (former at part (123 ∷ []) (123 ∷ []) rest h.is is))
    piece_within at part piece rest (inr (inr (inl h))) is = subst (λ p. RangesWithin text p) (sym h.value) (its_range at (125 ∷ []) (125 ∷ [] ++ rest) (former at part (125 ∷ []) (125 ∷ []) rest h.is is))
    piece_within at part piece rest (inr (inr (inr h))) is = placeholder_within at part piece rest h is

  -- the pieces behind others, where the ranges of each are parts of the text
  module _ (rule : List (Spelled Piece) → List ℕ → Piece → List ℕ → Type 0) (within : (front : List (Spelled Piece)) (part : List ℕ) (piece : Piece) (rest : List ℕ) → rule front part piece rest → Stands (size (texts front)) part rest → RangesWithin text piece) where
    spelled_within : (front ss : List (Spelled Piece)) (rest : List ℕ) → chars text ≡ texts front ++ (texts ss ++ rest) → AreSpelled rule front ss rest → All (RangesWithin text) (items ss)
    spelled_within front [] rest whole are = All-nil (RangesWithin text)
    spelled_within front (s ∷ ss) rest whole are =
        let there : chars text ≡ texts front ++ (s.text ++ (texts ss ++ rest)) = whole ∙ ap (λ l. texts front ++ l) (append_assoc s.text (texts ss) rest) in
        All-cons (RangesWithin text) s.item (items ss)
        (within front s.text s.item (texts ss ++ rest) are.0 (record { front = texts front; whole = there; begins = refl }))
        (spelled_within (front ++ s ∷ []) ss rest (there ∙ (sym (append_assoc (texts front) s.text (texts ss ++ rest)) ∙ ap (λ l. l ++ (texts ss ++ rest)) (sym (texts_more front s)))) are.1)

  modifier_within : (at : ℕ) (part : List ℕ) (v : SpecParts) (rest : List ℕ) → IsModifier at part v rest → Stands at part rest → SpecWithin v
  modifier_within at [] v rest h is = typed_within v _ h.1 (its_range at [] rest is)
  modifier_within at (c ∷ part) v rest h is = typed_within v _ h.1 (its_range at (c ∷ part) rest is)

  modified_within : (at : ℕ) (part : List ℕ) (v : SpecParts) (rest : List ℕ) → IsModified at part v rest → Stands at part rest → SpecWithin v
  modified_within at [] v rest h is = typed_within v _ h.1 (its_range at [] rest is)
  modified_within at (c ∷ part) v rest h is = modifier_within (at + len_utf8 c) part v rest h.1 (tail_stands at c part rest is)

-- every range of the pieces of a text is a part of it
pub pieces_within : (text : List ℕ) (pieces : List Piece) → IsUtf8 text → ArePieces text pieces → All (RangesWithin text) pieces
pieces_within text pieces utf8 is = subst (λ l. All (RangesWithin text) l) (sym is.are)
    (spelled_within text utf8 IsPiece
    (λ front. piece_within text utf8 (IsFormat (taken (items front))) (format_within text utf8 (taken (items front))) (taken (items front)) (size (texts front)))
    [] is.pieces [] is.reading.there is.reading.are)

-- and so of the pieces that are read of a template
pub asm_pieces_within : (from : ℕ) (text : List ℕ) (read : AsmRead) → IsUtf8 text → IsAsmRead from text read → All (RangesWithin text) read.pieces.items
asm_pieces_within from text read utf8 is = subst (λ l. All (RangesWithin text) l) (sym is.pieces)
    (spelled_within text utf8 (IsAsmPiece from)
    (λ front. piece_within text utf8 IsModified (modified_within text utf8) (counter from (items front)) (size (texts front)))
    [] is.front is.rest is.are.reach.there is.are.reach.are)
