-- The marks of a finished template are those of the places that its references refer to.
use Rattle.std.proofs.Common.{◌≡◌, ℕ, ◌+◌, ◌<◌, zero, suc, Bool, true, false, cond, ◌||◌, List, [], ◌∷◌, ◌++◌, length, Option, Some, None, refl, ap, ◌∙◌, sym, append_assoc, arith}
use Rattle.std.specs.Prelude.{nat_eq, slice_set, replicate, take}
use Rattle.std.proofs.lemmas.List.{append-nil}
use Rattle.std.proofs.lemmas.Bool.Decides.{nat_tests}
use Rattle.either.specs.declared.Either.{Either}
use Rattle.either.specs.declared.Either.TheVariants.{Left, Right}
use Rattle.sym_core.specs.declared.name.Name.{Name}
use Rattle.fmt_parse.specs.declared.piece.Argument.{Argument}
use Rattle.fmt_parse.specs.declared.piece.Piece.{Piece}
use Rattle.fmt_parse.specs.declared.piece.Piece.TheVariants.{Lit, NextArgument}
use Rattle.hir_store.specs.declared.ids.ExprId.{ExprId}
use Rattle.hir_fmt.specs.declared.format_args.FormatArgument.{FormatArgument}
use Rattle.hir_fmt.specs.declared.format_args.FormatArgsPiece.{FormatArgsPiece}
use Rattle.hir_fmt.specs.declared.format_args.FormatArgsPiece.TheVariants.{Placeholder}
use Rattle.hir_fmt.specs.declared.reference.Reference.{Reference}
use Rattle.hir_fmt.specs.References.{Source, text_in, Counted, value_of, precision_of, width_of, asked, references_in, references_of}
use Rattle.hir_fmt.specs.Template.{found_or, count_of, literal_of, placeholder_of, template_from, template_of}
use Rattle.hir_fmt.specs.Referred.{place_list, places_found, is_one_of, unreferred}
use Rattle.hir_fmt.specs.Orphans.{resolved, resolved_count, resolved_in, resolved_all, marked, unmarked}

found_append : (find : Either ℕ Name → Option ℕ) (xs ys : List Reference) → places_found find (xs ++ ys) ≡ places_found find xs ++ places_found find ys
found_append find [] ys = refl
found_append find (r ∷ xs) ys = ap (λ l. place_list (find r.wanted) ++ l) (found_append find xs ys) ∙ sym (append_assoc (place_list (find r.wanted)) (places_found find xs) (places_found find ys))

resolved_append : (xs ys : List FormatArgsPiece) → resolved_all (xs ++ ys) ≡ resolved_all xs ++ resolved_all ys
resolved_append [] ys = refl
resolved_append (x ∷ xs) ys = ap (λ l. resolved_in x ++ l) (resolved_append xs ys) ∙ sym (append_assoc (resolved_in x) (resolved_all xs) (resolved_all ys))

resolved_found : (wanted : Either ℕ Name) (place : Option ℕ) → resolved (found_or wanted place) ≡ place_list place
resolved_found wanted None = refl
resolved_found wanted (Some place) = refl

resolved_asked : (find : Either ℕ Name → Option ℕ) (c : Counted) → resolved_count (count_of c find) ≡ places_found find (asked c)
resolved_asked find None = refl
resolved_asked find (Some (Left n)) = refl
resolved_asked find (Some (Right r)) = resolved_found r.wanted (find r.wanted) ∙ sym (append-nil (place_list (find r.wanted)))

resolved_placeholder : (source : Source) (a : Argument) (find : Either ℕ Name → Option ℕ) → resolved_in (Placeholder (placeholder_of source a find)) ≡ places_found find (references_in source a)
resolved_placeholder source a find =
    let v = value_of source a in
    let p = precision_of source a in
    let w = width_of source a in
    ap (λ l. l ++ (resolved_count (count_of p find) ++ resolved_count (count_of w find))) (resolved_found v.wanted (find v.wanted))
    ∙ ap (λ l. place_list (find v.wanted) ++ (l ++ resolved_count (count_of w find))) (resolved_asked find p)
    ∙ ap (λ l. place_list (find v.wanted) ++ (places_found find (asked p) ++ l)) (resolved_asked find w)
    ∙ ap (λ l. place_list (find v.wanted) ++ l) (sym (found_append find (asked p) (asked w)))

resolved_literal : (begun : List ℕ) (more : List FormatArgsPiece) → resolved_all (literal_of begun ++ more) ≡ resolved_all more
resolved_literal [] more = refl
resolved_literal (c ∷ cs) more = refl

resolved_from : (source : Source) (begun : List ℕ) (pieces : List Piece) (find : Either ℕ Name → Option ℕ) → resolved_all (template_from source begun pieces find) ≡ places_found find (references_of source pieces)
resolved_from source begun [] find = ap resolved_all (sym (append-nil (literal_of begun))) ∙ resolved_literal begun []
resolved_from source begun (Lit r ∷ pieces) find = resolved_from source (begun ++ text_in source r) pieces find
resolved_from source begun (NextArgument a ∷ pieces) find =
    let rest = template_from source [] pieces find in
    resolved_literal begun (Placeholder (placeholder_of source a find) ∷ rest)
    ∙ ap (λ l. l ++ resolved_all rest) (resolved_placeholder source a find)
    ∙ ap (λ l. places_found find (references_in source a) ++ l) (resolved_from source [] pieces find)
    ∙ sym (found_append find (references_in source a) (references_of source pieces))

-- a mark for each of so many places from one on
abbrev flags : (ℕ → Bool) → ℕ → ℕ → List Bool
flags f at zero = []
flags f at (suc n) = f at ∷ flags f (at + 1) n

flags_same : (f g : ℕ → Bool) (at n : ℕ) → ((i : ℕ) → f i ≡ g i) → flags f at n ≡ flags g at n
flags_same f g at zero same = refl
flags_same f g at (suc n) same = ap (λ b. b ∷ flags f (at + 1) n) (same at) ∙ ap (λ l. g at ∷ l) (flags_same f g (at + 1) n same)

no_flags : (at n : ℕ) → replicate n false ≡ flags (λ i. false) at n
no_flags at zero = refl
no_flags at (suc n) = ap (λ l. false ∷ l) (no_flags (at + 1) n)

differs : (at k : ℕ) → k < at → nat_eq at k ≡ false
differs at k small = grind (arith, nat_tests)

differs_before : (at k : ℕ) → nat_eq at (at + suc k) ≡ false
differs_before at k = grind (arith, nat_tests)

-- a place in front of the marks sets none of them
set_none : (f : ℕ → Bool) (k at n : ℕ) → k < at → flags (λ i. nat_eq i k || f i) at n ≡ flags f at n
set_none f k at zero small = refl
set_none f k at (suc n) small =
    ap (λ b. (b || f at) ∷ flags (λ i. nat_eq i k || f i) (at + 1) n) (differs at k small)
    ∙ ap (λ l. f at ∷ l) (set_none f k (at + 1) n (omega arith))

same_place : (at k : ℕ) → k ≡ at → nat_eq at k ≡ true
same_place at k e = grind (arith, nat_tests)

set_flag : (f : ℕ → Bool) (k at n : ℕ) → slice_set (flags f at n) k true ≡ flags (λ i. nat_eq i (at + k) || f i) at n
set_flag f k at zero = refl
set_flag f zero at (suc n) =
    ap (λ l. true ∷ l) (sym (set_none f (at + 0) (at + 1) n (omega arith)))
    ∙ ap (λ b. (b || f at) ∷ flags (λ i. nat_eq i (at + 0) || f i) (at + 1) n) (sym (same_place at (at + 0) (omega arith)))
set_flag f (suc k) at (suc n) =
    let behind : (at + 1) + k ≡ at + suc k = omega arith in
    ap (λ l. f at ∷ l) (set_flag f k (at + 1) n ∙ ap (λ m. flags (λ i. nat_eq i m || f i) (at + 1) n) behind)
    ∙ ap (λ b. (b || f at) ∷ flags (λ i. nat_eq i (at + suc k) || f i) (at + 1) n) (sym (differs_before at k))

or_turned : (a b c : Bool) → (a || (b || c)) ≡ ((b || a) || c)
or_turned true true c = refl
or_turned true false c = refl
or_turned false true c = refl
or_turned false false c = refl

marked_flags : (places : List ℕ) (f : ℕ → Bool) (n : ℕ) → marked places (flags f 0 n) ≡ flags (λ i. is_one_of places i || f i) 0 n
marked_flags [] f n = refl
marked_flags (p ∷ places) f n =
    let front : 0 + p ≡ p = omega arith in
    ap (marked places) (set_flag f p 0 n ∙ ap (λ m. flags (λ i. nat_eq i m || f i) 0 n) front)
    ∙ marked_flags places (λ i. nat_eq i p || f i) n
    ∙ flags_same (λ i. is_one_of places i || (nat_eq i p || f i)) (λ i. is_one_of (p ∷ places) i || f i) 0 n (λ i. or_turned (is_one_of places i) (nat_eq i p) (f i))

or_none : (b : Bool) → (b || false) ≡ b
or_none true = refl
or_none false = refl

unmarked_step : (b : Bool) (marks : List Bool) (arg : FormatArgument) (args : List FormatArgument) → unmarked (b ∷ marks) (arg ∷ args) ≡ cond b (unmarked marks args) (arg.expr ∷ unmarked marks args)
unmarked_step true marks arg args = refl
unmarked_step false marks arg args = refl

unmarked_flags : (places : List ℕ) (at : ℕ) (args : List FormatArgument) → unmarked (flags (is_one_of places) at (length args)) args ≡ unreferred places at args
unmarked_flags places at [] = refl
unmarked_flags places at (arg ∷ args) =
    unmarked_step (is_one_of places at) (flags (is_one_of places) (at + 1) (length args)) arg args
    ∙ ap (λ l. cond (is_one_of places at) l (arg.expr ∷ l)) (unmarked_flags places (at + 1) args)

-- the arguments that are not marked are those whose places are not among those that were marked
pub unmarked_all : (places : List ℕ) (args : List FormatArgument) → unmarked (marked places (replicate (length args) false)) args ≡ unreferred places 0 args
unmarked_all places args =
    ap (λ l. unmarked (marked places l) args) (no_flags 0 (length args))
    ∙ ap (λ l. unmarked l args) (marked_flags places (λ i. false) (length args) ∙ flags_same (λ i. is_one_of places i || false) (is_one_of places) 0 (length args) (λ i. or_none (is_one_of places i)))
    ∙ unmarked_flags places 0 args

-- the places that a template refers to are those that its references refer to
pub resolved_template : (source : Source) (pieces : List Piece) (find : Either ℕ Name → Option ℕ) → resolved_all (template_of source pieces find) ≡ places_found find (references_of source pieces)
resolved_template source pieces find = resolved_from source [] pieces find

marked_append : (xs ys : List ℕ) (marks : List Bool) → marked (xs ++ ys) marks ≡ marked ys (marked xs marks)
marked_append [] ys marks = refl
marked_append (x ∷ xs) ys marks = marked_append xs ys (slice_set marks x true)

-- one turn of a loop that marks
pub marked_turn : (pieces : List FormatArgsPiece) (i : ℕ) (piece : FormatArgsPiece) (marks now then_now : List Bool) → take (i + 1) pieces ≡ take i pieces ++ piece ∷ [] → now ≡ marked (resolved_all (take i pieces)) marks → then_now ≡ marked (resolved_in piece) now → then_now ≡ marked (resolved_all (take (i + 1) pieces)) marks
marked_turn pieces i piece marks now then_now more is next =
    next ∙ ap (marked (resolved_in piece)) is
    ∙ ap (λ l. marked l (marked (resolved_all (take i pieces)) marks)) (sym (append-nil (resolved_in piece)))
    ∙ sym (marked_append (resolved_all (take i pieces)) (resolved_in piece ++ []) marks)
    ∙ ap (λ l. marked l marks) (sym (resolved_append (take i pieces) (piece ∷ [])))
    ∙ ap (λ l. marked (resolved_all l) marks) (sym more)

unmarked_append : (marks others : List Bool) (args rest : List FormatArgument) → length marks ≡ length args → unmarked (marks ++ others) (args ++ rest) ≡ unmarked marks args ++ unmarked others rest
unmarked_append [] others [] rest same = refl
unmarked_append [] others (a ∷ args) rest same = absurd (omega arith)
unmarked_append (m ∷ marks) others [] rest same = absurd (omega arith)
unmarked_append (true ∷ marks) others (a ∷ args) rest same = unmarked_append marks others args rest (omega arith)
unmarked_append (false ∷ marks) others (a ∷ args) rest same = ap (λ l. a.expr ∷ l) (unmarked_append marks others args rest (omega arith))

-- one turn of a loop over marks and arguments
pub unmarked_turn : (marks : List Bool) (args : List FormatArgument) (i : ℕ) (mark : Bool) (arg : FormatArgument) (now then_now : List ExprId) → length (take i marks) ≡ length (take i args) → take (i + 1) marks ≡ take i marks ++ mark ∷ [] → take (i + 1) args ≡ take i args ++ arg ∷ [] → now ≡ unmarked (take i marks) (take i args) → then_now ≡ now ++ unmarked (mark ∷ []) (arg ∷ []) → then_now ≡ unmarked (take (i + 1) marks) (take (i + 1) args)
unmarked_turn marks args i mark arg now then_now same more_marks more_args is next =
    next ∙ ap (λ l. l ++ unmarked (mark ∷ []) (arg ∷ [])) is
    ∙ sym (unmarked_append (take i marks) (mark ∷ []) (take i args) (arg ∷ []) same)
    ∙ ap (λ l. unmarked l (take i args ++ arg ∷ [])) (sym more_marks)
    ∙ ap (λ l. unmarked (take (i + 1) marks) l) (sym more_args)
