-- From the parsed text of a call to its code: what its references refer to, its arguments, its orphans.
use Rattle.std.specs.Prelude.{◌≡◌, ℕ, ◌+◌, Bool, true, false, if◌then◌else◌, List, [], ◌∷◌, ◌++◌, length, map, Option, Some, refl}
use Rattle.std.specs.Map.{keys_of}
use Rattle.std.proofs.Common.{sym, ◌∙◌, ap, ap₂, subst, arith}
use Rattle.std.proofs.lemmas.List.{map-append, take_all}
use Rattle.either.specs.declared.Either.{Either}
use Rattle.sym_core.specs.declared.files.AstPtr.{AstPtr}
use Rattle.sym_core.specs.declared.files.HirFileId.{HirFileId}
use Rattle.sym_core.specs.declared.name.Name.{Name}
use Rattle.syn_trees.specs.declared.format_call.FormatCall.{FormatCall}
use Rattle.syn_trees.specs.declared.format_call.FormatArgSyntax.{FormatArgSyntax}
use Rattle.fmt_parse.specs.declared.piece.Piece.{Piece}
use Rattle.hir_store.specs.declared.ids.ExprId.{ExprId}
use Rattle.hir_store.specs.declared.store.ExpressionStore.{ExpressionStore}
use Rattle.hir_store.specs.Unfolding.{tree_at}
use Rattle.hir_store.specs.PartsBelow.{AllBelow}
use Rattle.hir_store.specs.Tree.{Path}
use Rattle.hir_fmt.specs.declared.format_args.FormatArgument.{FormatArgument}
use Rattle.hir_fmt.specs.declared.format_args.FormatArguments.{FormatArguments}
use Rattle.hir_fmt.specs.declared.format_args.FormatArgs.{FormatArgs}
use Rattle.hir_fmt.specs.Arguments.{explicit_of}
use Rattle.hir_fmt.specs.References.{Source, references_of}
use Rattle.hir_fmt.specs.Referred.{new_if, placed, refers, finder, places_found, is_one_of, unreferred}
use Rattle.hir_fmt.specs.Template.{template_of}
use Rattle.hir_fmt.specs.Log.{Entry, Usage, Made}
use Rattle.hir_fmt.specs.Walk.{told, told_by, asked_names, arguments_made}
use Rattle.hir_fmt.specs.Parsed.{IsMade}
use Rattle.hir_fmt.proofs.Names.{asked_told}
use Rattle.template_bytes.specs.Canonical.{canonical_pieces}
use Rattle.format_code.specs.FormatCall.{is_direct_if, plain, captured_in, place_in, pieces_in, places_in, not_at, unused_in}
use Rattle.format_code.specs.CallCode.{written_tree, argument_trees, unused_trees}
use Rattle.format_code.proofs.Places.{names_same, pieces_same, places_same}
use Rattle.hir_build.specs.Frame.{Frame}
use Rattle.hir_build.specs.Origins.{origins_at}
use Rattle.hir_lower.specs.FormatArgs.{exprs_of, syntaxes_of, trees_at_each, origins_at_each}
use Rattle.hir_lower.specs.Captures.{AreMade}
use Rattle.hir_lower.specs.Written.{written_origins, AreWritten}
use Rattle.hir_lower.proofs.WrittenLaws.{below_both}
use Rattle.hir_lower.specs.CallCode.{told_in, asked_origins, syntaxes_in}

-- What references refer to

-- what is referred to, by how many arguments are written, their names, how many there are, and the names that are wanted
abbrev finds : ℕ → List (Name × ℕ) → ℕ → Bool → List Name → Either ℕ Name → Option ℕ
finds explicit names count direct wanted = refers explicit (names ++ placed count (new_if direct (keys_of names) wanted))

finds_same : {explicit e count c : ℕ} {names ns : List (Name × ℕ)} {wanted ws : List Name} (direct : Bool) → explicit ≡ e → names ≡ ns → count ≡ c → wanted ≡ ws
    → finds explicit names count direct wanted ≡ finds e ns c direct ws
finds_same direct same_explicit same_names same_count same_wanted = rw (same_explicit, same_names, same_count, same_wanted) refl

module _ (call : FormatCall) (store : ExpressionStore) (file : HirFileId) (args : FormatArguments) (are : AreWritten store file call.args args) (source : Source) (pieces : List Piece) where
  -- the references of the parsed text refer to what those of the call do
  finder_is : finder (is_direct_if call.template) args (references_of source pieces) ≡ place_in call source.text pieces
  finder_is = finds_same (is_direct_if call.template) are.explicit are.names are.count (names_same source pieces)

  -- the template asks for what the call's text does
  pub template_asks : (template : _) → template ≡ template_of source pieces (finder (is_direct_if call.template) args (references_of source pieces)) → canonical_pieces template ≡ pieces_in call source.text pieces
  template_asks template is = ap canonical_pieces is ∙ pieces_same _ source pieces ∙ ap (λ find. canonical_pieces (template_of (plain source.text) pieces find)) finder_is

  -- the names that are captured
  names_are : (entries : List Entry) → map told_by entries ≡ told (is_direct_if call.template) (keys_of args.names) (references_of source pieces) → asked_names (map told_by entries) ≡ captured_in call source.text pieces
  names_are entries is =
      ap asked_names is ∙ asked_told (is_direct_if call.template) (keys_of args.names) (references_of source pieces)
      ∙ ap₂ (λ names wanted. new_if (is_direct_if call.template) (keys_of names) wanted) are.names (names_same source pieces)

  -- all that are told
  pub told_is : (entries : List Entry) → map told_by entries ≡ told (is_direct_if call.template) (keys_of args.names) (references_of source pieces) → map told_by entries ≡ told_in call source pieces
  told_is entries is = is ∙ ap (λ names. told (is_direct_if call.template) (keys_of names) (references_of source pieces)) are.names

-- Captured arguments

module _ (frame : Frame) (template : AstPtr) (from : ℕ) where
  made_trees : (entries : List Entry) → AreMade frame template from entries → trees_at_each frame.store (exprs_of (arguments_made template entries)) ≡ map Path (asked_names (map told_by entries))
  made_trees [] made = refl
  made_trees (Usage name span ∷ entries) made = made_trees entries made
  made_trees (Made name span id ∷ entries) made = ap₂ (λ t ts. t ∷ ts) made.0.placed.stands.tree (made_trees entries made.1)

  made_origins : (entries : List Entry) → AreMade frame template from entries → origins_at_each frame.store (exprs_of (arguments_made template entries)) ≡ asked_origins frame.file template (map told_by entries)
  made_origins [] made = refl
  made_origins (Usage name span ∷ entries) made = made_origins entries made
  made_origins (Made name span id ∷ entries) made = ap₂ (λ os more. os ∷ more) made.0.placed.comes (made_origins entries made.1)

  made_below : (entries : List Entry) → AreMade frame template from entries → AllBelow (length frame.store.exprs) (exprs_of (arguments_made template entries))
  made_below [] made = tt
  made_below (Usage name span ∷ entries) made = made_below entries made
  made_below (Made name span id ∷ entries) made = (made.0.placed.stands.within, made_below entries made.1)

made_syntaxes : (template : AstPtr) (entries : List Entry) → syntaxes_of (arguments_made template entries) ≡ map (λ (name : Name). Some template) (asked_names (map told_by entries))
made_syntaxes template [] = refl
made_syntaxes template (Usage name span ∷ entries) = made_syntaxes template entries
made_syntaxes template (Made name span id ∷ entries) = ap (λ ptrs. Some template ∷ ptrs) (made_syntaxes template entries)

-- Orphans

same_parts : {X : Type 0} (x y : X) (xs ys : List X) → x ∷ xs ≡ y ∷ ys → (x ≡ y) × (xs ≡ ys)
same_parts x y xs ys e = (cc, cc)

-- what is said of arguments is said of those that nothing refers to
unused_same : {X : Type 0} (f : ExprId → X) (g : FormatArgSyntax → X) (places : List ℕ) (at : ℕ) (args : List FormatArgument) (written : List FormatArgSyntax)
    → map f (exprs_of args) ≡ map g written → map f (unreferred places at args) ≡ map g (not_at places at written)
unused_same f g places at [] [] same = refl
unused_same f g places at [] (syntax ∷ written) same = absurd (cc)
unused_same f g places at (arg ∷ args) [] same = absurd (cc)
unused_same f g places at (arg ∷ args) (syntax ∷ written) same =
    let parts = same_parts (f arg.expr) (g syntax) (map f (exprs_of args)) (map g written) same in
    by_test (is_one_of places at) parts.0 (unused_same f g places (at + 1) args written parts.1)
  where
    by_test : (t : Bool) → f arg.expr ≡ g syntax → map f (unreferred places (at + 1) args) ≡ map g (not_at places (at + 1) written)
        → map f (if t then unreferred places (at + 1) args else (arg.expr ∷ unreferred places (at + 1) args)) ≡ map g (if t then not_at places (at + 1) written else (syntax ∷ not_at places (at + 1) written))
    by_test true first rest = rest
    by_test false first rest = ap₂ (λ x xs. x ∷ xs) first rest

unused_below : (limit : ℕ) (places : List ℕ) (at : ℕ) (args : List FormatArgument) → AllBelow limit (exprs_of args) → AllBelow limit (unreferred places at args)
unused_below limit places at [] below = tt
unused_below limit places at (arg ∷ args) below = by_test (is_one_of places at) (unused_below limit places (at + 1) args below.1)
  where
    by_test : (t : Bool) → AllBelow limit (unreferred places (at + 1) args) → AllBelow limit (if t then unreferred places (at + 1) args else (arg.expr ∷ unreferred places (at + 1) args))
    by_test true rest = rest
    by_test false rest = (below.0, rest)

-- The arguments and the orphans of the parsed text

module _ (call : FormatCall) (frame : Frame) (args : FormatArguments) (are : AreWritten frame.store frame.file call.args args) (source : Source) (pieces : List Piece) (log new_log : Option (List Entry)) (fmt : FormatArgs)
    (made : IsMade (is_direct_if call.template) call.template_ptr source pieces args log new_log fmt) (from : ℕ) (there : AreMade frame call.template_ptr from made.entries) where
  arguments_are : fmt.arguments.arguments ≡ args.arguments ++ arguments_made call.template_ptr made.entries
  arguments_are = ap (λ (a : FormatArguments). a.arguments) made.arguments

  exprs_are : exprs_of fmt.arguments.arguments ≡ exprs_of args.arguments ++ exprs_of (arguments_made call.template_ptr made.entries)
  exprs_are = ap exprs_of arguments_are ∙ map-append (λ (arg : FormatArgument). arg.expr) args.arguments (arguments_made call.template_ptr made.entries)

  pub trees_are : trees_at_each frame.store (exprs_of fmt.arguments.arguments) ≡ argument_trees call source.text pieces
  trees_are =
      ap (trees_at_each frame.store) exprs_are
      ∙ map-append (tree_at frame.store) (exprs_of args.arguments) (exprs_of (arguments_made call.template_ptr made.entries))
      ∙ ap₂ (λ ts us. ts ++ us) are.trees (made_trees frame call.template_ptr from made.entries there ∙ ap (map Path) (names_are call frame.store frame.file args are source pieces made.entries made.told))

  pub sources_are : origins_at_each frame.store (exprs_of fmt.arguments.arguments) ≡ map (written_origins frame.file) call.args ++ asked_origins frame.file call.template_ptr (told_in call source pieces)
  sources_are =
      ap (origins_at_each frame.store) exprs_are
      ∙ map-append (origins_at frame.store) (exprs_of args.arguments) (exprs_of (arguments_made call.template_ptr made.entries))
      ∙ ap₂ (λ os more. os ++ more) are.origins (made_origins frame call.template_ptr from made.entries there ∙ ap (asked_origins frame.file call.template_ptr) (told_is call frame.store frame.file args are source pieces made.entries made.told))

  pub syntaxes_are : syntaxes_of fmt.arguments.arguments ≡ syntaxes_in call source.text pieces
  syntaxes_are =
      ap syntaxes_of arguments_are
      ∙ map-append (λ (arg : FormatArgument). arg.syntax) args.arguments (arguments_made call.template_ptr made.entries)
      ∙ ap₂ (λ ptrs more. ptrs ++ more) are.syntaxes (made_syntaxes call.template_ptr made.entries ∙ ap (map (λ (name : Name). Some call.template_ptr)) (names_are call frame.store frame.file args are source pieces made.entries made.told))

  pub arguments_below : AllBelow (length frame.store.exprs) (exprs_of fmt.arguments.arguments)
  arguments_below = subst (AllBelow (length frame.store.exprs)) (sym exprs_are)
      (below_both (length frame.store.exprs) (exprs_of args.arguments) (exprs_of (arguments_made call.template_ptr made.entries)) are.within (made_below frame call.template_ptr from made.entries there))

  -- all written arguments are explicit
  written_all : explicit_of args ≡ args.arguments
  written_all = take_all args.num_explicit_args args.arguments (omega (arith, are.explicit, are.count))

  places_are : places_found (finder (is_direct_if call.template) args (references_of source pieces)) (references_of source pieces) ≡ places_in call source.text pieces
  places_are = ap (λ find. places_found find (references_of source pieces)) (finder_is call frame.store frame.file args are source pieces) ∙ places_same (place_in call source.text pieces) source pieces

  orphans_are : fmt.orphans ≡ unreferred (places_in call source.text pieces) 0 args.arguments
  orphans_are = made.orphans ∙ ap₂ (λ places xs. unreferred places 0 xs) places_are written_all

  pub orphan_trees : trees_at_each frame.store fmt.orphans ≡ unused_trees call source.text pieces
  orphan_trees = ap (trees_at_each frame.store) orphans_are ∙ unused_same (tree_at frame.store) written_tree (places_in call source.text pieces) 0 args.arguments call.args are.trees

  pub orphan_sources : origins_at_each frame.store fmt.orphans ≡ map (written_origins frame.file) (unused_in call source.text pieces)
  orphan_sources = ap (origins_at_each frame.store) orphans_are ∙ unused_same (origins_at frame.store) (written_origins frame.file) (places_in call source.text pieces) 0 args.arguments call.args are.origins

  pub orphans_below : AllBelow (length frame.store.exprs) fmt.orphans
  orphans_below = subst (AllBelow (length frame.store.exprs)) (sym orphans_are) (unused_below (length frame.store.exprs) (places_in call source.text pieces) 0 args.arguments are.within)
