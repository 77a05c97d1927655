-- The places of operands by their names.
use Rattle.std.proofs.Common.{◌≡◌, ℕ, ◌+◌, suc, List, [], ◌∷◌, ◌++◌, length, Option, Some, None, refl, sym, ap, ◌∙◌, arith, append_assoc, ◌<◌, take, get_or}
use Rattle.std.proofs.lemmas.List.{take_more, map-append, length-take}
use Rattle.hir_store.specs.declared.asm.AsmOperand.{AsmOperand}
use Rattle.hir_asm.specs.Heads.{head_of, heads_of}
use Rattle.std.specs.Option.{option_or}
use Rattle.sym_core.specs.declared.name.Name.{Name}
use Rattle.fmt_parse.specs.declared.piece.Piece.{Piece}
use Rattle.fmt_parse.specs.declared.piece.Piece.TheVariants.{Lit, NextArgument}
use Rattle.hir_fmt.specs.References.{Source}
use Rattle.hir_asm.specs.Mapping.{Head, Places, place_if, last_from, puts, places_in}

or_assoc : {A : Type 0} (a b c : Option A) → option_or (option_or a b) c ≡ option_or a (option_or b c)
or_assoc None b c = refl
or_assoc (Some a) b c = refl

or_none : {A : Type 0} (a : Option A) → option_or a None ≡ a
or_none None = refl
or_none (Some a) = refl

-- one operand more, behind the others
pub last_on : (from : ℕ) (heads : List Head) (head : Head) (name : Name) → last_from from (heads ++ head ∷ []) name ≡ option_or (place_if (from + length heads) name head.0) (last_from from heads name)
last_on from [] head name = ap (λ n. place_if n name head.0) (plus_none from) ∙ sym (or_none (place_if (from + 0) name head.0)) where
  plus_none : (n : ℕ) → n ≡ n + 0
  plus_none n = omega arith
last_on from (first ∷ heads) head name =
    ap (λ found. option_or found (place_if from name first.0)) (last_on (from + 1) heads head name)
    ∙ or_assoc (place_if (from + 1 + length heads) name head.0) (last_from (from + 1) heads name) (place_if from name first.0)
    ∙ ap (λ n. option_or (place_if n name head.0) (option_or (last_from (from + 1) heads name) (place_if from name first.0))) (plus_one from (length heads))
  where
    plus_one : (n m : ℕ) → n + 1 + m ≡ n + suc m
    plus_one n m = omega arith

-- what pieces put, with one more behind them
pub places_on : (heads : List Head) (source : Source) (pieces : List Piece) (piece : Piece) → places_in heads source (pieces ++ piece ∷ []) ≡ places_in heads source pieces ++ places_in heads source (piece ∷ [])
places_on heads source [] piece = refl
places_on heads source (Lit range ∷ pieces) piece = places_on heads source pieces piece
places_on heads source (NextArgument argument ∷ pieces) piece = ap (λ l. puts heads source argument ++ l) (places_on heads source pieces piece) ∙ sym (append_assoc (puts heads source argument) (places_in heads source pieces) (places_in heads source (piece ∷ [])))

heads_count : (operands : List (Option Name × AsmOperand)) → length (heads_of operands) ≡ length operands
heads_count [] = refl
heads_count (operand ∷ operands) = ap suc (heads_count operands)

-- one operand more of a list
pub last_next : (operands : List (Option Name × AsmOperand)) (i : ℕ) (operand : Option Name × AsmOperand) (lt : i < length operands) (is : operand ≡ get_or operands i operand) (name : Name) →
    last_from 0 (heads_of (take (i + 1) operands)) name ≡ option_or (place_if i name operand.0) (last_from 0 (heads_of (take i operands)) name)
last_next operands i operand lt is name =
    let next : take (i + 1) operands ≡ take i operands ++ operand ∷ [] = take_more operands i operand lt ∙ ap (λ (x : Option Name × AsmOperand). take i operands ++ x ∷ []) (sym is) in
    let count : 0 + length (heads_of (take i operands)) ≡ i = omega (arith, heads_count (take i operands), length-take i operands, lt) in
    ap (λ l. last_from 0 (heads_of l) name) next ∙ ap (λ l. last_from 0 l name) (map-append head_of (take i operands) (operand ∷ []))
    ∙ last_on 0 (heads_of (take i operands)) (head_of operand) name ∙ ap (λ n. option_or (place_if n name operand.0) (last_from 0 (heads_of (take i operands)) name)) count

-- one piece more of a list
pub places_next : (heads : List Head) (source : Source) (pieces : List Piece) (i : ℕ) (other : Piece) (places : Places) → i < length pieces → places ≡ places_in heads source (take i pieces) →
    places ++ places_in heads source (get_or pieces i other ∷ []) ≡ places_in heads source (take (i + 1) pieces)
places_next heads source pieces i other places lt so_far =
    ap (λ l. l ++ places_in heads source (get_or pieces i other ∷ [])) so_far ∙ sym (places_on heads source (take i pieces) (get_or pieces i other)) ∙ ap (places_in heads source) (sym (take_more pieces i other lt))
