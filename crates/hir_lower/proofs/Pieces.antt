-- Templates piece by piece: whether there is a placeholder, and the text.
use Rattle.std.proofs.Common.{◌≡◌, ℕ, suc, ◌+◌, ◌<◌, ◌++◌, append_assoc, List, [], ◌∷◌, map, length, drop, get_or, refl, sym, ap, ap₂, ◌∙◌, arith, drop-cons}
use Rattle.hir_fmt.specs.declared.format_args.FormatArgsPiece.{FormatArgsPiece}
use Rattle.hir_fmt.specs.declared.format_args.FormatArgsPiece.TheVariants.{Literal, Placeholder}
use Rattle.hir_fmt.specs.declared.format_args.FormatPlaceholder.{FormatPlaceholder}
use Rattle.code_meaning.specs.Write.{Write, Byte}
use Rattle.template_bytes.specs.Canonical.{Reference, canonical_pieces}
use Rattle.format_code.specs.Code.{has_placeholder, text_of}

-- bytes in front of pieces are no placeholder
bytes_in_front : (bytes : List ℕ) (pieces : List (Write Reference)) → has_placeholder (map Byte bytes ++ pieces) ≡ has_placeholder pieces
bytes_in_front [] pieces = refl
bytes_in_front (b ∷ bytes) pieces = bytes_in_front bytes pieces

-- they are the first of the text
text_in_front : (bytes : List ℕ) (pieces : List (Write Reference)) → text_of (map Byte bytes ++ pieces) ≡ bytes ++ text_of pieces
text_in_front [] pieces = refl
text_in_front (b ∷ bytes) pieces = ap (λ l. b ∷ l) (text_in_front bytes pieces)

module _ (template : List FormatArgsPiece) (i : ℕ) (piece : FormatArgsPiece) (lt : i < length template) (here : piece ≡ get_or template i piece) where
  -- the pieces from a place on are the one there and those behind it
  from_here : drop i template ≡ piece ∷ drop (i + 1) template
  from_here = let next : suc i ≡ i + 1 = omega arith in drop-cons template i piece lt ∙ ap₂ (λ p ps. p ∷ ps) (sym here) (ap (λ n. drop n template) next)

  -- a literal is no placeholder
  pub literal_is_none : (text : List ℕ) → piece ≡ Literal text → has_placeholder (canonical_pieces (drop i template)) ≡ has_placeholder (canonical_pieces (drop (i + 1) template))
  literal_is_none text is = ap (λ ps. has_placeholder (canonical_pieces ps)) (from_here ∙ ap (λ p. p ∷ drop (i + 1) template) is) ∙ bytes_in_front text (canonical_pieces (drop (i + 1) template))

  -- and the first of the text
  literal_is_text : (text : List ℕ) → piece ≡ Literal text → text_of (canonical_pieces (drop i template)) ≡ text ++ text_of (canonical_pieces (drop (i + 1) template))
  literal_is_text text is = ap (λ ps. text_of (canonical_pieces ps)) (from_here ∙ ap (λ p. p ∷ drop (i + 1) template) is) ∙ text_in_front text (canonical_pieces (drop (i + 1) template))

  -- the text so far goes on by a literal
  pub text_by_literal : (before after text all : List ℕ) → after ≡ before ++ text → piece ≡ Literal text → before ++ text_of (canonical_pieces (drop i template)) ≡ all →
      after ++ text_of (canonical_pieces (drop (i + 1) template)) ≡ all
  text_by_literal before after text all on is so_far =
      ap (λ l. l ++ text_of (canonical_pieces (drop (i + 1) template))) on ∙ append_assoc before text (text_of (canonical_pieces (drop (i + 1) template)))
      ∙ ap (λ l. before ++ l) (sym (literal_is_text text is)) ∙ so_far

  -- and not by a placeholder
  pub text_by_placeholder : (before all : List ℕ) (placeholder : FormatPlaceholder) → piece ≡ Placeholder placeholder → before ++ text_of (canonical_pieces (drop i template)) ≡ all →
      before ++ text_of (canonical_pieces (drop (i + 1) template)) ≡ all
  text_by_placeholder before all placeholder is so_far =
      let behind : text_of (canonical_pieces (drop i template)) ≡ text_of (canonical_pieces (drop (i + 1) template)) =
      ap (λ ps. text_of (canonical_pieces ps)) (from_here ∙ ap (λ p. p ∷ drop (i + 1) template) is) in
      ap (λ l. before ++ l) (sym behind) ∙ so_far
