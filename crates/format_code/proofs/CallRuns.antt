-- The code of a complete call runs, and so that of a well formed one and that of a call without pieces.
use Rattle.std.specs.Prelude.{◌≡◌, ℕ, ◌+◌, Bool, true, false, cond, if◌then◌else◌, IsTrue, List, [], ◌∷◌, ◌++◌, length, map, Option, Some, None, IsSome, refl}
use Rattle.std.proofs.Common.{sym, ◌∙◌, ap, ap₂, subst, arith, append-nil, length-append, inl, inr}
use Rattle.std.proofs.lemmas.List.{map-append, length-map}
use Rattle.std.proofs.lemmas.Option.{same_Some}
use Rattle.sym_core.specs.declared.name.Name.{Name}
use Rattle.sym_core.specs.declared.name.Name.TheVariants.{Text, TupleField, Fresh}
use Rattle.syn_trees.specs.declared.format_call.FormatCall.{FormatCall}
use Rattle.syn_trees.specs.declared.format_call.FormatArgSyntax.{FormatArgSyntax}
use Rattle.syn_trees.specs.declared.format_call.LeafSyntax.{LeafSyntax}
use Rattle.syn_trees.specs.Literal.{HasValue}
use Rattle.syn_trees.proofs.Values.{one_value}
use Rattle.fmt_parse.specs.declared.piece.Piece.{Piece}
use Rattle.fmt_parse.specs.Pieces.{ArePieces}
use Rattle.fmt_parse.proofs.Readings.{has_one_reading}
use Rattle.hir_store.specs.Tree.{Tree, Path}
use Rattle.hir_fmt.specs.Referred.{is_one_of}
use Rattle.code_meaning.specs.Value.{At, FromText}
use Rattle.code_meaning.specs.Evaluation.{evaluation_of}
use Rattle.template_bytes.specs.Spelling.{IsCanonical}
use Rattle.format_code.specs.Code.{Argument, LeafArgument, argument_tree, event_of, has_placeholder, text_code, format_code, events_of, ReferWithin, AreBelow, write_with}
use Rattle.format_code.specs.Laws.{Evaluates}
use Rattle.format_code.specs.FormatCall.{Surroundings, plain, HasPieces, captured_in, pieces_in, AllThere, with_leaf, leaves_of, name_argument, arguments_in, not_at, unused_in}
use Rattle.format_code.specs.CallCode.{leaf_tree, written_tree, argument_trees, unused_trees, IsTreeOf, IsCallTree, CompleteRuns, WellFormedRuns, EmptyRuns}
use Rattle.format_code.proofs.Places.{AreTexts, captured_texts, place_in_under, pieces_within, below_of}
use Rattle.format_code.proofs.Runs.{text_runs}
use Rattle.format_code.proofs.Together.{format_runs}

-- One text and one list of pieces

pub same_text : (around : Surroundings) (call : FormatCall) (text other : List ℕ) (pieces more : List Piece) → HasPieces around call text pieces → HasPieces around call other more → text ≡ other
same_text around call text other pieces more has have =
    let token = same_Some _ _ (sym has.reached ∙ have.reached) in
    one_value have.token text other (subst (λ (t : List ℕ). HasValue t text) token has.format.value) have.format.value

pub same_pieces : (around : Surroundings) (call : FormatCall) (text other : List ℕ) (pieces more : List Piece) → HasPieces around call text pieces → HasPieces around call other more → pieces ≡ more
same_pieces around call text other pieces more has have =
    has_one_reading.one other pieces more (subst (λ (t : List ℕ). ArePieces t pieces) (same_text around call text other pieces more has have) has.format.are) have.format.are

-- the tree of a call whose text has these pieces is that of these
pub tree_for : (around : Surroundings) (call : FormatCall) (n : ℕ) (tree : Tree) (text : List ℕ) (pieces : List Piece) → HasPieces around call text pieces → IsCallTree around call n tree → IsTreeOf around call n text pieces tree
tree_for around call n tree text pieces has (inl is) =
    subst (λ (t : List ℕ). IsTreeOf around call n t pieces tree) (same_text around call is.0 text is.1 pieces is.2.has has)
    (subst (λ (ps : List Piece). IsTreeOf around call n is.0 ps tree) (same_pieces around call is.0 text is.1 pieces is.2.has has) is.2)
tree_for around call n tree text pieces has (inr is) = absurd (is.none text pieces has)

-- Trees of arguments that are there

written_arguments : (args : List FormatArgSyntax) → AllThere args → map written_tree args ≡ map argument_tree (map LeafArgument (leaves_of args))
written_arguments [] there = refl
written_arguments (arg ∷ args) there = by_leaf arg.expr there.0 (written_arguments args there.1)
  where
    by_leaf : (expr : Option LeafSyntax) → IsSome expr → map written_tree args ≡ map argument_tree (map LeafArgument (leaves_of args))
        → leaf_tree expr ∷ map written_tree args ≡ map argument_tree (map LeafArgument (with_leaf expr (leaves_of args)))
    by_leaf None is rest = absurd (cc)
    by_leaf (Some leaf) is rest = ap (λ trees. leaf_tree (Some leaf) ∷ trees) rest

leaves_count : (args : List FormatArgSyntax) → AllThere args → length (leaves_of args) ≡ length args
leaves_count [] there = refl
leaves_count (arg ∷ args) there = by_leaf arg.expr there.0 (leaves_count args there.1)
  where
    by_leaf : (expr : Option LeafSyntax) → IsSome expr → length (leaves_of args) ≡ length args → length (with_leaf expr (leaves_of args)) ≡ length (arg ∷ args)
    by_leaf None is rest = absurd (cc)
    by_leaf (Some leaf) is rest = omega (arith, rest)

captured_paths : (names : List Name) → AreTexts names → map Path names ≡ map argument_tree (map name_argument names)
captured_paths [] are = refl
captured_paths (Text text ∷ names) are = ap (λ trees. Path (Text text) ∷ trees) (captured_paths names are.1)
captured_paths (TupleField n ∷ names) are = absurd are.0
captured_paths (Fresh n ∷ names) are = absurd are.0

there_still : (places : List ℕ) (at : ℕ) (args : List FormatArgSyntax) → AllThere args → AllThere (not_at places at args)
there_still places at [] there = tt
there_still places at (arg ∷ args) there = by_test (is_one_of places at) (there_still places (at + 1) args there.1)
  where
    by_test : (t : Bool) → AllThere (not_at places (at + 1) args) → AllThere (if t then not_at places (at + 1) args else (arg ∷ not_at places (at + 1) args))
    by_test true rest = rest
    by_test false rest = (there.0, rest)

module _ (call : FormatCall) (text : List ℕ) (pieces : List Piece) (there : AllThere call.args) where
  arguments_are : argument_trees call text pieces ≡ map argument_tree (arguments_in call text pieces)
  arguments_are =
      ap₂ (λ xs ys. xs ++ ys) (written_arguments call.args there) (captured_paths (captured_in call text pieces) (captured_texts _ _ (plain text) pieces))
      ∙ sym (map-append argument_tree (map LeafArgument (leaves_of call.args)) (map name_argument (captured_in call text pieces)))

  unused_are : unused_trees call text pieces ≡ map argument_tree (map LeafArgument (leaves_of (unused_in call text pieces)))
  unused_are = written_arguments (unused_in call text pieces) (there_still _ 0 call.args there)

  arguments_count : length (arguments_in call text pieces) ≡ length call.args + length (captured_in call text pieces)
  arguments_count =
      length-append (map LeafArgument (leaves_of call.args)) (map name_argument (captured_in call text pieces))
      ∙ ap₂ (λ m n. m + n) (length-map (leaves_of call.args) LeafArgument ∙ leaves_count call.args there) (length-map (captured_in call text pieces) name_argument)

-- The laws

pub complete_runs : CompleteRuns
complete_runs around call n tree text pieces writes is complete =
    let of = tree_for around call n tree text pieces complete.has is in
    let args = arguments_in call text pieces in
    let unused = map LeafArgument (leaves_of (unused_in call text pieces)) in
    let below : AreBelow (length args) writes =
    subst (λ count. AreBelow count writes) (sym (arguments_count call text pieces complete.there))
    (below_of _ writes (subst (ReferWithin (length call.args + length (captured_in call text pieces))) complete.resolved (pieces_within _ _ (place_in_under call text pieces) (plain text) pieces))) in
    let runs = format_runs around.items complete.items n args writes below of.bytes (subst (λ ps. IsTrue (has_placeholder ps) → IsCanonical of.bytes ps) complete.resolved of.canonical) unused in
    subst (λ ps. Evaluates tree (events_of args ps unused) (map (write_with At) writes)) (sym complete.resolved)
    (subst (λ t. Evaluates t (events_of args (map (write_with Some) writes) unused) (map (write_with At) writes))
    (sym (of.is ∙ ap₂ (λ trees orphans. format_code around.items n trees of.bytes (pieces_in call text pieces) orphans) (arguments_are call text pieces complete.there) (unused_are call text pieces complete.there)
    ∙ ap (λ ps. format_code around.items n (map argument_tree args) of.bytes ps (map argument_tree unused)) complete.resolved))
    runs)

-- without unused arguments the events are those of the arguments
events_once : (args : List Argument) (t : Bool) → cond t (map event_of args ++ []) (map event_of args) ≡ map event_of args
events_once args true = append-nil (map event_of args)
events_once args false = refl

pub well_formed_runs : WellFormedRuns
well_formed_runs around call n tree text pieces writes is formed =
    subst (λ events. Evaluates tree events (map (write_with At) writes))
    (ap (λ unused. events_of (arguments_in call text pieces) (pieces_in call text pieces) (map LeafArgument (leaves_of unused))) formed.used ∙ events_once (arguments_in call text pieces) (has_placeholder (pieces_in call text pieces)))
    (complete_runs around call n tree text pieces writes is formed.complete)

pub empty_runs : EmptyRuns
empty_runs around call n tree (inl is) none there item = absurd (none is.0 is.1 is.2.has)
empty_runs around call n tree (inr is) none there item = record {
  value = FromText [];
  runs = ap evaluation_of (is.is ∙ ap (λ trees. text_code around.items trees []) (written_arguments call.args there)) ∙ text_runs around.items item (map LeafArgument (leaves_of call.args)) [];
  means = refl;
}
