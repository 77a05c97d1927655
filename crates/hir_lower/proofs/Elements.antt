-- Rows of references to arguments, and of elements, one for each pair.
use Rattle.std.proofs.Common.{◌≡◌, ℕ, ◌++◌, List, [], ◌∷◌, map, take, get_or, length, ◌<◌, ◌+◌, Option, refl, sym, ap, ◌∙◌, subst, subst₂}
use Rattle.std.proofs.lemmas.List.{take_more, map-append, length-map}
use Rattle.sym_core.specs.declared.files.AstPtr.{AstPtr}
use Rattle.sym_core.specs.declared.files.HirFileId.{HirFileId}
use Rattle.hir_store.specs.declared.ids.ExprId.{ExprId}
use Rattle.hir_store.specs.declared.lang_item.LangItems.{LangItems}
use Rattle.hir_store.specs.declared.store.ExpressionStore.{ExpressionStore}
use Rattle.hir_store.specs.Tree.{Tree, Ref, More, trees}
use Rattle.hir_fmt.specs.declared.format_args.FormatArgument.{FormatArgument}
use Rattle.hir_build.specs.Origins.{Origin, bare}
use Rattle.hir_build.specs.Placed.{Placed, AllPlaced, reference_trees, reference_origins}
use Rattle.hir_build.proofs.Placed.{all_placed_on}
use Rattle.template_bytes.specs.declared.pair.Pair.{Pair as PairCode}
use Rattle.template_bytes.specs.Pairs.{Pair}
use Rattle.template_bytes.specs.ShownPairs.{shown_pair, shown_pairs}
use Rattle.format_code.specs.Code.{references, element, elements}
use Rattle.hir_lower.specs.FormatArgs.{exprs_of}
use Rattle.hir_lower.specs.FormatOrigins.{syntax_of, references_origins, element_origins, elements_origins}

-- references to indexes are those to their trees
references_are : (tree_of : ExprId → Tree) (ids : List ExprId) → reference_trees tree_of ids ≡ references (map tree_of ids)
references_are tree_of [] = refl
references_are tree_of (id ∷ ids) = ap (More (Ref (tree_of id))) (references_are tree_of ids)

-- and their origins
references_come : (origins_of : ExprId → List Origin) (ids : List ExprId) → reference_origins origins_of ids ≡ references_origins (map origins_of ids)
references_come origins_of [] = refl
references_come origins_of (id ∷ ids) = ap (λ os. bare ∷ (origins_of id ++ os)) (references_come origins_of ids)

-- references to the indexes of a list
pub references_placed : (store : ExpressionStore) (made exprs ids : List ExprId) (tree_of : ExprId → Tree) (origins_of : ExprId → List Origin) → exprs ≡ ids →
    AllPlaced store made (reference_trees tree_of exprs) (reference_origins origins_of exprs) →
    AllPlaced store made (references (map tree_of ids)) (references_origins (map origins_of ids))
references_placed store made exprs ids tree_of origins_of same was =
    subst₂ (AllPlaced store made) (ap (reference_trees tree_of) same ∙ references_are tree_of ids) (ap (reference_origins origins_of) same ∙ references_come origins_of ids) was

module _ (items : LangItems) (n : ℕ) where
  -- elements as trees in a row
  elements_are : (pairs : List Pair) → trees (map (element items n) pairs) ≡ elements items n pairs
  elements_are [] = refl
  elements_are (pair ∷ pairs) = ap (More (element items n pair)) (elements_are pairs)

module _ (file : HirFileId) (items : LangItems) (syntaxes : List (Option AstPtr)) where
  -- the origins of one more element
  elements_more : (pairs : List Pair) (pair : Pair) →
      elements_origins file items syntaxes (pairs ++ pair ∷ []) ≡ elements_origins file items syntaxes pairs ++ element_origins file items (syntax_of syntaxes pair.argument)
  elements_more [] pair = refl
  elements_more (p ∷ pairs) pair = ap (λ os. element_origins file items (syntax_of syntaxes p.argument) ++ os) (elements_more pairs pair)

  -- one more element behind
  elements_on : (store : ExpressionStore) (n : ℕ) (ids : List ExprId) (pairs : List Pair) (id : ExprId) (pair : Pair) →
      AllPlaced store ids (elements items n pairs) (elements_origins file items syntaxes pairs) →
      Placed store id (element items n pair) (element_origins file items (syntax_of syntaxes pair.argument)) →
      AllPlaced store (ids ++ id ∷ []) (elements items n (pairs ++ pair ∷ [])) (elements_origins file items syntaxes (pairs ++ pair ∷ []))
  elements_on store n ids pairs id pair was one =
      let before : AllPlaced store ids (trees (map (element items n) pairs)) (elements_origins file items syntaxes pairs) = rw (elements_are items n pairs) was in
      let trees_on : trees (map (element items n) pairs ++ element items n pair ∷ []) ≡ elements items n (pairs ++ pair ∷ []) =
      ap trees (sym (map-append (element items n) pairs (pair ∷ []))) ∙ elements_are items n (pairs ++ pair ∷ []) in
      subst₂ (AllPlaced store (ids ++ id ∷ [])) trees_on (sym (elements_more pairs pair)) (all_placed_on store ids (map (element items n) pairs) _ id (element items n pair) _ before one)

-- one more pair of a list
pairs_more : (pairs : List PairCode) (i : ℕ) (d : PairCode) → i < length pairs → shown_pairs (take (i + 1) pairs) ≡ shown_pairs (take i pairs) ++ shown_pair (get_or pairs i d) ∷ []
pairs_more pairs i d lt = ap shown_pairs (take_more pairs i d lt) ∙ map-append shown_pair (take i pairs) (get_or pairs i d ∷ [])

-- the elements of the pairs so far, and that of the next pair
pub elements_next : (file : HirFileId) (items : LangItems) (syntaxes : List (Option AstPtr)) (store : ExpressionStore) (n : ℕ) (ids : List ExprId) (id : ExprId)
    (pairs : List PairCode) (i : ℕ) (d : PairCode) → i < length pairs →
    AllPlaced store ids (elements items n (shown_pairs (take i pairs))) (elements_origins file items syntaxes (shown_pairs (take i pairs))) →
    Placed store id (element items n (shown_pair (get_or pairs i d))) (element_origins file items (syntax_of syntaxes (get_or pairs i d).argument)) →
    AllPlaced store (ids ++ id ∷ []) (elements items n (shown_pairs (take (i + 1) pairs))) (elements_origins file items syntaxes (shown_pairs (take (i + 1) pairs)))
elements_next file items syntaxes store n ids id pairs i d lt was one =
    subst (λ ps. AllPlaced store (ids ++ id ∷ []) (elements items n ps) (elements_origins file items syntaxes ps)) (sym (pairs_more pairs i d lt))
    (elements_on file items syntaxes store n ids (shown_pairs (take i pairs)) id (shown_pair (get_or pairs i d)) was one)

-- there are as many indexes as arguments
pub exprs_count : (args : List FormatArgument) → length (exprs_of args) ≡ length args
exprs_count args = length-map args (λ (arg : FormatArgument). arg.expr)
