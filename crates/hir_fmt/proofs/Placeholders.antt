-- Looking up what a placeholder refers to.
use Rattle.std.proofs.Common.{◌≡◌, ℕ, ◌+◌, Bool, List, [], ◌∷◌, ◌++◌, Option, Some, None, ap, ◌∙◌, sym, subst, append_assoc}
use Rattle.std.specs.Prelude.{option_map, take, drop}
use Rattle.std.specs.declared.result.Result.{Result}
use Rattle.std.proofs.lemmas.List.{append-nil, take-append-drop}
use Rattle.sym_core.specs.declared.text_range.TextRange.{TextRange}
use Rattle.hir_fmt.specs.declared.format_args.FormatTrait.{FormatTrait}
use Rattle.hir_fmt.specs.declared.format_args.FormatOptions.{FormatOptions}
use Rattle.either.specs.declared.Either.{Either}
use Rattle.either.specs.declared.Either.TheVariants.{Left, Right}
use Rattle.sym_core.specs.declared.name.Name.{Name}
use Rattle.sym_core.specs.declared.files.AstPtr.{AstPtr}
use Rattle.fmt_parse.specs.declared.piece.Argument.{Argument}
use Rattle.fmt_parse.specs.declared.piece.Piece.{Piece}
use Rattle.fmt_parse.specs.declared.piece.Piece.TheVariants.{NextArgument}
use Rattle.hir_fmt.specs.declared.format_args.FormatArguments.{FormatArguments}
use Rattle.hir_fmt.specs.declared.format_args.FormatArgPosition.{FormatArgPosition}
use Rattle.hir_fmt.specs.declared.format_args.FormatCount.{FormatCount}
use Rattle.hir_fmt.specs.declared.format_args.FormatCount.TheVariants as format_count
use Rattle.hir_fmt.specs.declared.format_args.FormatPlaceholder.{FormatPlaceholder}
use Rattle.hir_fmt.specs.declared.format_args.FormatArgsPiece.{FormatArgsPiece}
use Rattle.hir_fmt.specs.declared.format_args.FormatArgsPiece.TheVariants.{Literal, Placeholder}
use Rattle.hir_fmt.specs.declared.reference.Reference.{Reference}
use Rattle.hir_fmt.specs.References.{Source, Counted, span_in, text_in, value_of, precision_of, width_of, asked, references_in, references_of}
use Rattle.hir_fmt.specs.Template.{trait_of, alignment_of, sign_of, debug_hex_of, found_or, literal_of, position_of, count_of, placeholder_of, template_of, piece_added, pieces_added}
use Rattle.hir_fmt.specs.Log.{Entry}
use Rattle.hir_fmt.specs.Walk.{Finds, Halts, place_for}
use Rattle.hir_fmt.proofs.Walks.{finds_then, finds_is, finds_made, finds_nothing, finds_refs, halts_refs, halts_first, halts_then}
use Rattle.hir_fmt.proofs.Templates.{references_append, added_append, added_all}

-- the placeholder with what was found for its references
abbrev pub filled : Source → Argument → FormatArgPosition → Option FormatCount → Option FormatCount → FormatPlaceholder
filled source a position precision width = record {
  argument = position;
  span = span_in source a.span;
  format_trait = trait_of (text_in source a.format.ty);
  format_options = record {
    width = width;
    precision = precision;
    alignment = alignment_of a.format.align;
    fill = a.format.fill;
    sign = option_map sign_of a.format.sign;
    alternate = a.format.alternate;
    zero_pad = a.format.zero_pad;
    debug_hex = option_map debug_hex_of a.format.debug_hex;
  };
}

pub finds_placeholder : {direct : Bool} {ptr : AstPtr} {old one two new : FormatArguments} {log log_one log_two new_log : Option (List Entry)} (source : Source) (a : Argument) {position : FormatArgPosition} {precision width : Option FormatCount} → Finds direct ptr (value_of source a ∷ []) (position_of (value_of source a)) old log one log_one position → Finds direct ptr (asked (precision_of source a)) (count_of (precision_of source a)) one log_one two log_two precision → Finds direct ptr (asked (width_of source a)) (count_of (width_of source a)) two log_two new new_log width → Finds direct ptr (references_in source a) (placeholder_of source a) old log new new_log (filled source a position precision width)
finds_placeholder source a {position = position} {precision = precision} p q r =
    let counts = finds_then (λ (b : Option FormatCount) find. (b, count_of (width_of source a) find)) q (finds_made (λ (c : Option FormatCount). (precision, c)) r) in
    let all = finds_then (λ (b : FormatArgPosition) find. (b, (count_of (precision_of source a) find, count_of (width_of source a) find))) p (finds_made (λ (c : Option FormatCount × Option FormatCount). (position, c)) counts) in
    finds_made (λ (t : FormatArgPosition × (Option FormatCount × Option FormatCount)). filled source a t.0 t.1.0 t.1.1) all

-- the same of references and a placeholder that are told to be these
pub finds_filled : {direct : Bool} {ptr : AstPtr} {old one two new : FormatArguments} {log log_one log_two new_log : Option (List Entry)} (source : Source) (a : Argument) {v : Reference} {q w : Counted} {position : FormatArgPosition} {precision width : Option FormatCount} {made : FormatPlaceholder} → v ≡ value_of source a → q ≡ precision_of source a → w ≡ width_of source a → Finds direct ptr (v ∷ []) (position_of v) old log one log_one position → Finds direct ptr (asked q) (count_of q) one log_one two log_two precision → Finds direct ptr (asked w) (count_of w) two log_two new new_log width → made ≡ filled source a position precision width → Finds direct ptr (references_in source a) (placeholder_of source a) old log new new_log made
finds_filled {direct = direct} {ptr = ptr} {old = old} {one = one} {two = two} {new = new} {log = log} {log_one = log_one} {log_two = log_two} {new_log = new_log} source a {position = position} {precision = precision} {width = width} is_v is_q is_w f g h is =
    subst (λ m. Finds direct ptr (references_in source a) (placeholder_of source a) old log new new_log m) (sym is) (finds_placeholder source a
    (subst (λ v. Finds direct ptr (v ∷ []) (position_of v) old log one log_one position) is_v f)
    (subst (λ q. Finds direct ptr (asked q) (count_of q) one log_one two log_two precision) is_q g)
    (subst (λ w. Finds direct ptr (asked w) (count_of w) two log_two new new_log width) is_w h))

-- refused at the value, at the precision, at the width
pub halts_value : {direct : Bool} {old : FormatArguments} {log new_log : Option (List Entry)} (source : Source) (a : Argument) {v : Reference} → v ≡ value_of source a → Halts direct (v ∷ []) old log new_log → Halts direct (references_in source a) old log new_log
halts_value {direct = direct} {old = old} {log = log} {new_log = new_log} source a is_v h = halts_first (asked (precision_of source a) ++ asked (width_of source a)) (subst (λ v. Halts direct (v ∷ []) old log new_log) is_v h)

pub halts_precision : {direct : Bool} {ptr : AstPtr} {old one : FormatArguments} {log log_one new_log : Option (List Entry)} (source : Source) (a : Argument) {v : Reference} {q : Counted} {position : FormatArgPosition} → v ≡ value_of source a → q ≡ precision_of source a → Finds direct ptr (v ∷ []) (position_of v) old log one log_one position → Halts direct (asked q) one log_one new_log → Halts direct (references_in source a) old log new_log
halts_precision {direct = direct} {ptr = ptr} {old = old} {one = one} {log = log} {log_one = log_one} {new_log = new_log} source a {position = position} is_v is_q f h =
    halts_then (subst (λ v. Finds direct ptr (v ∷ []) (position_of v) old log one log_one position) is_v f)
    (halts_first (asked (width_of source a)) (subst (λ q. Halts direct (asked q) one log_one new_log) is_q h))

pub halts_width : {direct : Bool} {ptr : AstPtr} {old one two : FormatArguments} {log log_one log_two new_log : Option (List Entry)} (source : Source) (a : Argument) {v : Reference} {q w : Counted} {position : FormatArgPosition} {precision : Option FormatCount} → v ≡ value_of source a → q ≡ precision_of source a → w ≡ width_of source a → Finds direct ptr (v ∷ []) (position_of v) old log one log_one position → Finds direct ptr (asked q) (count_of q) one log_one two log_two precision → Halts direct (asked w) two log_two new_log → Halts direct (references_in source a) old log new_log
halts_width {direct = direct} {ptr = ptr} {old = old} {one = one} {two = two} {log = log} {log_one = log_one} {log_two = log_two} {new_log = new_log} source a {position = position} {precision = precision} is_v is_q is_w f g h =
    halts_then (subst (λ v. Finds direct ptr (v ∷ []) (position_of v) old log one log_one position) is_v f)
    (halts_then (subst (λ q. Finds direct ptr (asked q) (count_of q) one log_one two log_two precision) is_q g)
    (subst (λ w. Halts direct (asked w) two log_two new_log) is_w h))

-- a reference with the place that was found
pub finds_position : {direct : Bool} {ptr : AstPtr} {old new : FormatArguments} {log new_log : Option (List Entry)} (r : Reference) {place : Option ℕ} (index : Result ℕ (Either ℕ Name)) → index ≡ found_or r.wanted place → Finds direct ptr (r ∷ []) (place_for r) old log new new_log place → Finds direct ptr (r ∷ []) (position_of r) old log new new_log (record { index = index; kind = r.kind; span = r.span })
finds_position {direct = direct} {ptr = ptr} {old = old} {new = new} {log = log} {new_log = new_log} r index is p =
    subst (λ (i : Result ℕ (Either ℕ Name)). Finds direct ptr (r ∷ []) (position_of r) old log new new_log (record { index = i; kind = r.kind; span = r.span })) (sym is)
    (finds_made (λ (at : Option ℕ). record { index = found_or r.wanted at; kind = r.kind; span = r.span }) p)

-- a width or a precision that is none, a number, a reference
pub finds_no_count : (direct : Bool) (ptr : AstPtr) (old : FormatArguments) (log : Option (List Entry)) (c : Counted) → c ≡ None → Finds direct ptr (asked c) (count_of c) old log old log None
finds_no_count direct ptr old log c is = subst (λ c. Finds direct ptr (asked c) (count_of c) old log old log None) (sym is) (finds_nothing direct ptr old log None)

pub finds_number : (direct : Bool) (ptr : AstPtr) (old : FormatArguments) (log : Option (List Entry)) (c : Counted) (n : ℕ) → c ≡ Some (Left n) → Finds direct ptr (asked c) (count_of c) old log old log (Some (format_count.Literal n))
finds_number direct ptr old log c n is = subst (λ c. Finds direct ptr (asked c) (count_of c) old log old log (Some (format_count.Literal n))) (sym is) (finds_nothing direct ptr old log (Some (format_count.Literal n)))

pub finds_count : {direct : Bool} {ptr : AstPtr} {old new : FormatArguments} {log new_log : Option (List Entry)} {r : Reference} {position : FormatArgPosition} (c : Counted) → c ≡ Some (Right r) → Finds direct ptr (r ∷ []) (position_of r) old log new new_log position → Finds direct ptr (asked c) (count_of c) old log new new_log (Some (format_count.Argument position))
finds_count {direct = direct} {ptr = ptr} {old = old} {new = new} {log = log} {new_log = new_log} {position = position} c is p = subst (λ c. Finds direct ptr (asked c) (count_of c) old log new new_log (Some (format_count.Argument position))) (sym is) (finds_made (λ (x : FormatArgPosition). Some (format_count.Argument x)) p)

pub halts_count : {direct : Bool} {old : FormatArguments} {log new_log : Option (List Entry)} {r : Reference} (c : Counted) → c ≡ Some (Right r) → Halts direct (r ∷ []) old log new_log → Halts direct (asked c) old log new_log
halts_count {direct = direct} {old = old} {log = log} {new_log = new_log} c is h = subst (λ c. Halts direct (asked c) old log new_log) (sym is) h

-- a placeholder behind what was made
pub finds_added : {direct : Bool} {ptr : AstPtr} {old new : FormatArguments} {log new_log : Option (List Entry)} (source : Source) (a : Argument) (made : List FormatArgsPiece × List ℕ) {placeholder : FormatPlaceholder} (now : List FormatArgsPiece × List ℕ) → now ≡ ((made.0 ++ literal_of made.1) ++ Placeholder placeholder ∷ [], []) → Finds direct ptr (references_in source a) (placeholder_of source a) old log new new_log placeholder → Finds direct ptr (references_of source (NextArgument a ∷ [])) (piece_added source (NextArgument a) made) old log new new_log now
finds_added {direct = direct} {ptr = ptr} {old = old} {new = new} {log = log} {new_log = new_log} source a made now is p =
    subst (λ m. Finds direct ptr (references_of source (NextArgument a ∷ [])) (piece_added source (NextArgument a) made) old log new new_log m) (sym is) (finds_refs (sym (append-nil (references_in source a))) (finds_made (λ (x : FormatPlaceholder). ((made.0 ++ literal_of made.1) ++ Placeholder x ∷ [], [])) p))

-- the same of a piece that is a placeholder
pub finds_piece : {direct : Bool} {ptr : AstPtr} {old new : FormatArguments} {log new_log : Option (List Entry)} (source : Source) (made : List FormatArgsPiece × List ℕ) {now : List FormatArgsPiece × List ℕ} (piece : Piece) (a : Argument) → piece ≡ NextArgument a → Finds direct ptr (references_of source (NextArgument a ∷ [])) (piece_added source (NextArgument a) made) old log new new_log now → Finds direct ptr (references_of source (piece ∷ [])) (piece_added source piece made) old log new new_log now
finds_piece {direct = direct} {ptr = ptr} {old = old} {new = new} {log = log} {new_log = new_log} source made {now = now} piece a is p =
    subst (λ x. Finds direct ptr (references_of source (x ∷ [])) (piece_added source x made) old log new new_log now) (sym is) p

-- one piece behind those that were added
pub finds_more : {direct : Bool} {ptr : AstPtr} {old mid new : FormatArguments} {log mid_log new_log : Option (List Entry)} (source : Source) (front : List Piece) (piece : Piece) (made : List FormatArgsPiece × List ℕ) {now then_made : List FormatArgsPiece × List ℕ} → Finds direct ptr (references_of source front) (pieces_added source front made) old log mid mid_log now → Finds direct ptr (references_of source (piece ∷ [])) (piece_added source piece now) mid mid_log new new_log then_made → Finds direct ptr (references_of source (front ++ piece ∷ [])) (pieces_added source (front ++ piece ∷ []) made) old log new new_log then_made
finds_more source front piece made p q =
    finds_is (finds_refs (sym (references_append source front (piece ∷ []))) (finds_then (piece_added source piece) p q))
    (λ find. sym (added_append source front (piece ∷ []) made find))

-- the template of all pieces
pub finds_template : {direct : Bool} {ptr : AstPtr} {old new : FormatArguments} {log new_log : Option (List Entry)} (source : Source) (pieces : List Piece) {made : List FormatArgsPiece × List ℕ} → Finds direct ptr (references_of source pieces) (pieces_added source pieces ([], [])) old log new new_log made → Finds direct ptr (references_of source pieces) (template_of source pieces) old log new new_log (made.0 ++ literal_of made.1)
finds_template source pieces p =
    finds_is (finds_made (λ (m : List FormatArgsPiece × List ℕ). m.0 ++ literal_of m.1) p) (λ find. added_all source pieces ([], []) find)

-- one turn of a loop over pieces
pub finds_turn : {direct : Bool} {ptr : AstPtr} {old mid new : FormatArguments} {log mid_log new_log : Option (List Entry)} (source : Source) (pieces : List Piece) (i : ℕ) (piece : Piece) {now then_made : List FormatArgsPiece × List ℕ} → take (i + 1) pieces ≡ take i pieces ++ piece ∷ [] → Finds direct ptr (references_of source (take i pieces)) (pieces_added source (take i pieces) ([], [])) old log mid mid_log now → Finds direct ptr (references_of source (piece ∷ [])) (piece_added source piece now) mid mid_log new new_log then_made → Finds direct ptr (references_of source (take (i + 1) pieces)) (pieces_added source (take (i + 1) pieces) ([], [])) old log new new_log then_made
finds_turn {direct = direct} {ptr = ptr} {old = old} {new = new} {log = log} {new_log = new_log} source pieces i piece {then_made = then_made} more p q =
    subst (λ l. Finds direct ptr (references_of source l) (pieces_added source l ([], [])) old log new new_log then_made) (sym more) (finds_more source (take i pieces) piece ([], []) p q)

-- the loop is over
pub finds_end : {direct : Bool} {ptr : AstPtr} {old new : FormatArguments} {log new_log : Option (List Entry)} (source : Source) (pieces : List Piece) (i : ℕ) {made : List FormatArgsPiece × List ℕ} (template : List FormatArgsPiece) → take i pieces ≡ pieces → template ≡ made.0 ++ literal_of made.1 → Finds direct ptr (references_of source (take i pieces)) (pieces_added source (take i pieces) ([], [])) old log new new_log made → Finds direct ptr (references_of source pieces) (template_of source pieces) old log new new_log template
finds_end {direct = direct} {ptr = ptr} {old = old} {new = new} {log = log} {new_log = new_log} source pieces i {made = made} template all is p =
    subst (λ t. Finds direct ptr (references_of source pieces) (template_of source pieces) old log new new_log t) (sym is)
    (finds_template source pieces (subst (λ l. Finds direct ptr (references_of source l) (pieces_added source l ([], [])) old log new new_log made) all p))

-- a refusal at a piece, behind those that were added
pub halts_piece : {direct : Bool} {ptr : AstPtr} {old mid : FormatArguments} {log mid_log new_log : Option (List Entry)} (source : Source) (front : List Piece) (piece : Piece) (rest : List Piece) (made : List FormatArgsPiece × List ℕ) {now : List FormatArgsPiece × List ℕ} → Finds direct ptr (references_of source front) (pieces_added source front made) old log mid mid_log now → Halts direct (references_of source (piece ∷ [])) mid mid_log new_log → Halts direct (references_of source (front ++ piece ∷ rest)) old log new_log
halts_piece source front piece rest made p q =
    halts_refs (sym (references_append source front (piece ∷ rest) ∙ ap (λ l. references_of source front ++ l) (references_append source (piece ∷ []) rest)))
    (halts_then p (halts_first (references_of source rest) q))

-- nothing was added yet
pub finds_begun : (direct : Bool) (ptr : AstPtr) (source : Source) (old : FormatArguments) (log : Option (List Entry)) (made : List FormatArgsPiece × List ℕ) → made ≡ ([], []) → Finds direct ptr (references_of source []) (pieces_added source [] ([], [])) old log old log made
finds_begun direct ptr source old log made is = subst (λ m. Finds direct ptr (references_of source []) (pieces_added source [] ([], [])) old log old log m) (sym is) (finds_nothing direct ptr old log ([], []))

-- a refusal at a piece of a loop over pieces
pub halts_turn : {direct : Bool} {ptr : AstPtr} {old mid : FormatArguments} {log mid_log new_log : Option (List Entry)} (source : Source) (pieces : List Piece) (i : ℕ) (piece : Piece) {now : List FormatArgsPiece × List ℕ} → take (i + 1) pieces ≡ take i pieces ++ piece ∷ [] → Finds direct ptr (references_of source (take i pieces)) (pieces_added source (take i pieces) ([], [])) old log mid mid_log now → Halts direct (references_of source (piece ∷ [])) mid mid_log new_log → Halts direct (references_of source pieces) old log new_log
halts_turn {direct = direct} {old = old} {log = log} {new_log = new_log} source pieces i piece more p q =
    let whole : take i pieces ++ piece ∷ drop (i + 1) pieces ≡ pieces =
    sym (append_assoc (take i pieces) (piece ∷ []) (drop (i + 1) pieces)) ∙ ap (λ l. l ++ drop (i + 1) pieces) (sym more) ∙ take-append-drop (i + 1) pieces in
    subst (λ l. Halts direct (references_of source l) old log new_log) whole (halts_piece source (take i pieces) piece (drop (i + 1) pieces) ([], []) p q)

-- the parts of a placeholder as they were made
pub filled_is : (source : Source) (a : Argument) (position : FormatArgPosition) (precision width : Option FormatCount) (span : Option TextRange) → span ≡ span_in source a.span → (t : FormatTrait) → t ≡ trait_of (text_in source a.format.ty) → (o : FormatOptions) → o ≡ (filled source a position precision width).format_options → record { argument = position; span = span; format_trait = t; format_options = o } ≡ filled source a position precision width
filled_is source a position precision width span is_span t is_t o is_o =
    ap (λ (x : Option TextRange). record { argument = position; span = x; format_trait = t; format_options = o }) is_span
    ∙ ap (λ (x : FormatTrait). record { argument = position; span = span_in source a.span; format_trait = x; format_options = o }) is_t
    ∙ ap (λ (x : FormatOptions). record { argument = position; span = span_in source a.span; format_trait = trait_of (text_in source a.format.ty); format_options = x }) is_o
