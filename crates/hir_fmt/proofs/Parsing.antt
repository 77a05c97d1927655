-- What is made of the text of a literal.
use Rattle.std.proofs.Common.{◌≡◌, ℕ, ◌≤◌, Bool, List, [], length, Option, ap, ◌∙◌, sym, subst}
use Rattle.std.specs.List.{All}
use Rattle.std.proofs.lemmas.List.{append-nil, take-append-le}
use Rattle.sym_core.specs.declared.files.AstPtr.{AstPtr}
use Rattle.hir_store.specs.declared.ids.ExprId.{ExprId}
use Rattle.fmt_parse.specs.declared.piece.Piece.{Piece}
use Rattle.syn_trees.specs.Literal.{HasNoValue}
use Rattle.syn_trees.specs.Laws.{HasOneValue}
use Rattle.fmt_parse.specs.Pieces.{ArePieces}
use Rattle.hir_fmt.specs.Reading.{IsValue}
use Rattle.fmt_parse.specs.Ranges.{OfEachRange, RangesWithin}
use Rattle.hir_fmt.specs.declared.format_args.FormatArgs.{FormatArgs}
use Rattle.hir_fmt.specs.declared.format_args.FormatArgsPiece.{FormatArgsPiece}
use Rattle.hir_fmt.specs.declared.format_args.FormatArguments.{FormatArguments}
use Rattle.hir_fmt.specs.declared.literal.Literal.{Literal}
use Rattle.hir_fmt.specs.Arguments.{explicit_of, AreWithin}
use Rattle.hir_fmt.specs.Literal.{source_of, IsRangeOf}
use Rattle.hir_fmt.specs.References.{Source, references_of}
use Rattle.hir_fmt.specs.Referred.{finder, places_found, unreferred}
use Rattle.hir_fmt.specs.Template.{template_of}
use Rattle.hir_fmt.specs.Orphans.{resolved_all}
use Rattle.hir_fmt.specs.Log.{Entry}
use Rattle.hir_fmt.specs.Walk.{with_made, arguments_made, Finds, Halts}
use Rattle.hir_fmt.specs.Parsed.{IsFormat, IsNoFormat, HasShift, IsTextOf, IsMade, MakesTemplate, TellsFront}
use Rattle.hir_fmt.proofs.Marks.{resolved_template}

-- the written arguments stay in front
explicit_after : (ptr : AstPtr) (args : FormatArguments) (entries : List Entry) → AreWithin args → explicit_of (with_made ptr args entries) ≡ explicit_of args
explicit_after ptr args entries within =
    let most : args.num_explicit_args ≤ length args.arguments = within.explicit in
    take-append-le args.num_explicit_args args.arguments (arguments_made ptr entries) most

-- what was found is the template, the arguments and the orphans
pub is_made : {direct : Bool} {ptr : AstPtr} {source : Source} {pieces : List Piece} {args new : FormatArguments} {log new_log : Option (List Entry)} {template : List FormatArgsPiece} → AreWithin args → Finds direct ptr (references_of source pieces) (template_of source pieces) args log new new_log template → (arguments : FormatArguments) → arguments ≡ new → (orphans : List ExprId) → orphans ≡ unreferred (resolved_all template) 0 (explicit_of new) → IsMade direct ptr source pieces args log new_log (record { template = template; arguments = arguments; orphans = orphans })
is_made {direct = direct} {ptr = ptr} {source = source} {pieces = pieces} {args = args} {new = new} {template = template} within p arguments finished orphans are =
    let refs = references_of source pieces in
    let find = finder direct args refs in
    let is : template ≡ template_of source pieces find = p.finds [] ∙ ap (λ l. template_of source pieces (finder direct args l)) (append-nil refs) in
    record {
      entries = p.entries;
      told = p.told;
      logged = p.logged;
      template = is;
      arguments = finished ∙ p.arguments;
      orphans = are
          ∙ ap (λ (l : List ℕ). unreferred l 0 (explicit_of new)) (ap resolved_all is ∙ resolved_template source pieces find)
          ∙ ap (λ (a : FormatArguments). unreferred (places_found find refs) 0 (explicit_of a)) p.arguments
          ∙ ap (λ l. unreferred (places_found find refs) 0 l) (explicit_after ptr args p.entries within);
    }

text_of : {token text : List ℕ} {direct : Bool} {pieces : List Piece} (literal : Literal) → literal.text.now ≡ text → HasShift token direct literal.shift → IsFormat token text pieces → IsTextOf token direct (source_of literal) pieces
text_of {token = token} {pieces = pieces} literal text shift is = record { format = subst (λ t. IsFormat token t pieces) (sym text) is; shift = shift }

-- what was made of the value of a literal
pub makes_template : {token text : List ℕ} {direct : Bool} {ptr : AstPtr} {pieces : List Piece} {args : FormatArguments} {log new_log : Option (List Entry)} {made : FormatArgs} (literal : Literal) → literal.text.now ≡ text → literal.is_direct ≡ direct → literal.ptr ≡ ptr → HasShift token direct literal.shift → IsFormat token text pieces → IsMade literal.is_direct literal.ptr (source_of literal) pieces args log new_log made → MakesTemplate token direct ptr args log new_log made
makes_template {direct = direct} {pieces = pieces} {args = args} {log = log} {new_log = new_log} {made = made} literal text is_direct is_ptr shift is p = record {
  source = source_of literal;
  pieces = pieces;
  is = text_of literal text shift is;
  made_is = subst (λ x. IsMade direct x (source_of literal) pieces args log new_log made) is_ptr (subst (λ x. IsMade x literal.ptr (source_of literal) pieces args log new_log made) is_direct p);
}

-- what was told of it
pub tells_front : {token text : List ℕ} {direct : Bool} {pieces : List Piece} {args : FormatArguments} {log new_log : Option (List Entry)} (literal : Literal) → literal.text.now ≡ text → literal.is_direct ≡ direct → HasShift token direct literal.shift → IsFormat token text pieces → Halts literal.is_direct (references_of (source_of literal) pieces) args log new_log → TellsFront token direct args log new_log
tells_front {pieces = pieces} {args = args} {log = log} {new_log = new_log} literal text is_direct shift is p = record {
  source = source_of literal;
  pieces = pieces;
  is = text_of literal text shift is;
  front = subst (λ x. Halts x (references_of (source_of literal) pieces) args log new_log) is_direct p;
}

-- the ranges of the pieces are ranges of the literal's text
pub ranges_of : {text : List ℕ} (pieces : List Piece) (literal : Literal) → literal.text.now ≡ text → All (RangesWithin text) pieces → All (OfEachRange (IsRangeOf literal)) pieces
ranges_of pieces literal text are = subst (λ t. All (RangesWithin t) pieces) (sym text) are

-- a literal without a value, or whose value has no pieces
pub no_value : (token : List ℕ) → HasNoValue token → IsNoFormat token
no_value token none = λ text pieces is. none text is.value

pub no_pieces : (token text found : List ℕ) → HasOneValue → IsValue token text → found ≡ text → ((pieces : List Piece) → ArePieces found pieces → ⊥) → IsNoFormat token
no_pieces token text found law value same none = λ other pieces is.
    none pieces (subst (λ t. ArePieces t pieces) (law.one token other text is.value value.value ∙ sym same) is.are)
