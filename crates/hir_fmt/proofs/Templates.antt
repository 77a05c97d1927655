-- Adding one piece after the other makes the template of all of them.
use Rattle.std.proofs.Common.{◌≡◌, ℕ, ◌+◌, List, [], ◌∷◌, ◌++◌, Option, refl, ap, ◌∙◌, sym, append_assoc}
use Rattle.either.specs.declared.Either.{Either}
use Rattle.sym_core.specs.declared.name.Name.{Name}
use Rattle.fmt_parse.specs.declared.piece.Piece.{Piece}
use Rattle.fmt_parse.specs.declared.piece.Piece.TheVariants.{Lit, NextArgument}
use Rattle.hir_fmt.specs.declared.format_args.FormatArgsPiece.{FormatArgsPiece}
use Rattle.hir_fmt.specs.declared.format_args.FormatArgsPiece.TheVariants.{Placeholder}
use Rattle.hir_fmt.specs.References.{Source, text_in, references_in, references_of}
use Rattle.hir_fmt.specs.Template.{literal_of, placeholder_of, template_from, piece_added, pieces_added}

pub references_append : (source : Source) (xs ys : List Piece) → references_of source (xs ++ ys) ≡ references_of source xs ++ references_of source ys
references_append source [] ys = refl
references_append source (Lit r ∷ xs) ys = references_append source xs ys
references_append source (NextArgument a ∷ xs) ys = ap (λ l. references_in source a ++ l) (references_append source xs ys) ∙ sym (append_assoc (references_in source a) (references_of source xs) (references_of source ys))

pub added_append : (source : Source) (xs ys : List Piece) (made : List FormatArgsPiece × List ℕ) (find : Either ℕ Name → Option ℕ) → pieces_added source (xs ++ ys) made find ≡ pieces_added source ys (pieces_added source xs made find) find
added_append source [] ys made find = refl
added_append source (x ∷ xs) ys made find = added_append source xs ys (piece_added source x made find) find

pub added_all : (source : Source) (pieces : List Piece) (made : List FormatArgsPiece × List ℕ) (find : Either ℕ Name → Option ℕ) → (pieces_added source pieces made find).0 ++ literal_of (pieces_added source pieces made find).1 ≡ made.0 ++ template_from source made.1 pieces find
added_all source [] made find = refl
added_all source (Lit r ∷ pieces) made find = added_all source pieces (made.0, made.1 ++ text_in source r) find
added_all source (NextArgument a ∷ pieces) made find =
    let placeholder = Placeholder (placeholder_of source a find) in
    let behind = template_from source [] pieces find in
    added_all source pieces ((made.0 ++ literal_of made.1) ++ placeholder ∷ [], []) find
    ∙ append_assoc (made.0 ++ literal_of made.1) (placeholder ∷ []) behind
    ∙ append_assoc made.0 (literal_of made.1) (placeholder ∷ behind)
