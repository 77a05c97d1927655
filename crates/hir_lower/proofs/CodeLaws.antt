-- The code of a call, once its template is built over its arguments.
use Rattle.std.specs.Prelude.{◌≡◌, ℕ, IsTrue, List, [], ◌++◌, map, Option, Some, None, refl}
use Rattle.std.proofs.Common.{sym, ◌∙◌, ap, subst}
use Rattle.std.proofs.lemmas.Option.{same_Some}
use Rattle.sym_core.specs.declared.files.AstPtr.{AstPtr}
use Rattle.sym_core.specs.declared.files.HirFileId.{HirFileId}
use Rattle.syn_trees.specs.declared.format_call.FormatCall.{FormatCall}
use Rattle.fmt_parse.specs.declared.piece.Piece.{Piece}
use Rattle.hir_store.specs.declared.ids.ExprId.{ExprId}
use Rattle.hir_store.specs.declared.store.ExpressionStore.{ExpressionStore}
use Rattle.hir_store.specs.declared.lang_item.LangItems.{LangItems}
use Rattle.hir_store.specs.Tree.{Tree}
use Rattle.hir_store.specs.Unfolding.{tree_at}
use Rattle.hir_fmt.specs.declared.format_args.FormatArguments.{FormatArguments}
use Rattle.hir_fmt.specs.declared.format_args.FormatArgs.{FormatArgs}
use Rattle.hir_fmt.specs.References.{Source}
use Rattle.hir_fmt.specs.Log.{Entry}
use Rattle.hir_fmt.specs.Parsed.{IsFormat, IsNoFormat, IsMade}
use Rattle.code_meaning.specs.Write.{Write}
use Rattle.template_bytes.specs.Canonical.{Reference, canonical_pieces}
use Rattle.template_bytes.specs.Spelling.{IsCanonical}
use Rattle.format_code.specs.Code.{has_placeholder, format_code}
use Rattle.format_code.specs.FormatCall.{Surroundings, token_in, is_direct_if, HasPieces, HasNoPieces, pieces_in, unused_in}
use Rattle.format_code.specs.CallCode.{IsTreeOf, IsTreeOfNone}
use Rattle.hir_build.specs.Frame.{Frame}
use Rattle.hir_build.specs.Origins.{Origin, origins_at}
use Rattle.hir_lower.specs.FormatArgs.{exprs_of, syntaxes_of, trees_at_each, origins_at_each, IsCodeOf}
use Rattle.hir_lower.specs.FormatOrigins.{format_origins}
use Rattle.hir_lower.specs.Captures.{AreMade}
use Rattle.hir_lower.specs.Written.{written_syntax, written_origins, AreWritten}
use Rattle.hir_lower.specs.CallCode.{told_in, asked_origins, origins_in}
use Rattle.hir_lower.proofs.CallLaws.{template_asks, trees_are, sources_are, syntaxes_are, orphan_trees, orphan_sources}

-- a call whose template reaches nothing has no pieces
pub none_reached : (around : Surroundings) (call : FormatCall) → token_in around call ≡ None → HasNoPieces around call
none_reached around call none text pieces has = absurd (differ (sym none ∙ has.reached))
  where
    differ : {token : List ℕ} → None ≡ Some token → ⊥
    differ e = absurd (cc)

-- neither has one that reaches a literal that is no format
pub none_read : (around : Surroundings) (call : FormatCall) (token : List ℕ) → token_in around call ≡ Some token → IsNoFormat token → HasNoPieces around call
none_read around call token reached none text pieces has = none text pieces (subst (λ (t : List ℕ). IsFormat t text pieces) (same_Some _ _ (sym has.reached ∙ reached)) has.format)

code_same : {items these : LangItems} {args others orphans more : List Tree} {pieces ps : List (Write Reference)} (n : ℕ) (bytes : List ℕ)
    → items ≡ these → args ≡ others → pieces ≡ ps → orphans ≡ more → format_code items n args bytes pieces orphans ≡ format_code these n others bytes ps more
code_same n bytes items args pieces orphans = rw (items, args, pieces, orphans) refl

-- the origins of a code, in a file, with language items, syntaxes, arguments, orphans and pieces
origins_same : {file at : HirFileId} {items these : LangItems} {syntaxes ptrs : List (Option AstPtr)} {args others orphans more : List (List Origin)} {pieces ps : List (Write Reference)} (ptr : AstPtr)
    → file ≡ at → items ≡ these → syntaxes ≡ ptrs → args ≡ others → orphans ≡ more → pieces ≡ ps → format_origins file items ptr syntaxes args orphans pieces ≡ format_origins at these ptr ptrs others more ps
origins_same ptr file items syntaxes args orphans pieces = rw (file, items, syntaxes, args, orphans, pieces) refl

module _ (around : Surroundings) (call : FormatCall) (frame : Frame) (items : frame.items ≡ around.items) (file : frame.file ≡ around.file) (new : ExpressionStore) (id : ExprId) (fmt : FormatArgs) (is : IsCodeOf frame new call.ptr fmt id) where
  module _ (args : FormatArguments) (are : AreWritten frame.store frame.file call.args args) (source : Source) (pieces : List Piece) (log new_log : Option (List Entry))
      (made : IsMade (is_direct_if call.template) call.template_ptr source pieces args log new_log fmt) (from : ℕ) (there : AreMade frame call.template_ptr from made.entries) where
    asks : canonical_pieces fmt.template ≡ pieces_in call source.text pieces
    asks = template_asks call frame.store frame.file args are source pieces fmt.template made.template

    -- the tree of a call with pieces
    pub tree_of_pieces : HasPieces around call source.text pieces → IsTreeOf around call frame.fresh source.text pieces (tree_at new id)
    tree_of_pieces has = record {
      has = has;
      bytes = is.bytes;
      canonical = subst (λ ps. IsTrue (has_placeholder ps) → IsCanonical is.bytes ps) asks is.canonical;
      is = is.placed.stands.tree
          ∙ code_same frame.fresh is.bytes items (trees_are call frame args are source pieces log new_log fmt made from there) asks (orphan_trees call frame args are source pieces log new_log fmt made from there);
    }

    -- where it comes from
    pub origins_of_pieces : origins_at new id ≡ origins_in around call source pieces
    origins_of_pieces =
        is.placed.comes
        ∙ origins_same call.ptr file items (syntaxes_are call frame args are source pieces log new_log fmt made from there)
        (sources_are call frame args are source pieces log new_log fmt made from there
        ∙ ap (λ at. map (written_origins at) call.args ++ asked_origins at call.template_ptr (told_in call source pieces)) file)
        (orphan_sources call frame args are source pieces log new_log fmt made from there ∙ ap (λ at. map (written_origins at) (unused_in call source.text pieces)) file)
        asks

  module _ (args : FormatArguments) (are : AreWritten frame.store frame.file call.args args) (no_template : fmt.template ≡ []) (same : fmt.arguments ≡ args) (no_orphans : fmt.orphans ≡ []) where
    -- the tree of a call without pieces
    pub tree_of_none : HasNoPieces around call → IsTreeOfNone around call frame.fresh (tree_at new id)
    tree_of_none none = record {
      none = none;
      is = is.placed.stands.tree
          ∙ code_same frame.fresh is.bytes items (ap (λ (a : FormatArguments). trees_at_each frame.store (exprs_of a.arguments)) same ∙ are.trees) (ap canonical_pieces no_template) (ap (trees_at_each frame.store) no_orphans);
    }

    -- where it comes from
    pub origins_of_none : origins_at new id ≡ format_origins around.file around.items call.ptr (map written_syntax call.args) (map (written_origins around.file) call.args) [] []
    origins_of_none =
        is.placed.comes
        ∙ origins_same call.ptr file items (ap (λ (a : FormatArguments). syntaxes_of a.arguments) same ∙ are.syntaxes)
        (ap (λ (a : FormatArguments). origins_at_each frame.store (exprs_of a.arguments)) same ∙ are.origins ∙ ap (λ at. map (written_origins at) call.args) file)
        (ap (origins_at_each frame.store) no_orphans) (ap canonical_pieces no_template)
