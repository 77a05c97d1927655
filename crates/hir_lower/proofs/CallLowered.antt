-- A format call lowered step by step: its arguments, its text, its code, and what it captures.
use Rattle.std.specs.Prelude.{◌≡◌, ℕ, ◌+◌, ◌*◌, ◌≤◌, Bool, List, [], ◌∷◌, length, map, Some, None, refl}
use Rattle.std.specs.Borrow.{Bor}
use Rattle.std.specs.Map.{keys_of}
use Rattle.std.proofs.Common.{sym, ◌∙◌, ap, ap₂, subst, arith, length-append, inl, inr}
use Rattle.std.proofs.lemmas.List.{length-map}
use Rattle.std.proofs.lemmas.Option.{same_Some}
use Rattle.sym_core.specs.declared.files.AstPtr.{AstPtr}
use Rattle.sym_core.specs.declared.name.Name.{Name}
use Rattle.sym_core.specs.declared.text_range.TextRange.{TextRange}
use Rattle.syn_trees.specs.declared.format_call.FormatCall.{FormatCall}
use Rattle.syn_trees.specs.declared.format_call.FormatArgSyntax.{FormatArgSyntax}
use Rattle.fmt_parse.specs.declared.piece.Piece.{Piece}
use Rattle.hir_store.specs.declared.ids.ExprId.{ExprId}
use Rattle.hir_store.specs.declared.store.ExpressionStore.{ExpressionStore}
use Rattle.hir_store.specs.Tree.{Path}
use Rattle.hir_store.specs.Unfolding.{place_of, tree_at}
use Rattle.hir_store.specs.Entries.{entry_at}
use Rattle.hir_store.specs.PartsBelow.{AllBelow}
use Rattle.hir_fmt.specs.declared.format_args.FormatArgument.{FormatArgument}
use Rattle.hir_fmt.specs.declared.format_args.FormatArguments.{FormatArguments}
use Rattle.hir_fmt.specs.declared.format_args.FormatArgs.{FormatArgs}
use Rattle.hir_fmt.specs.References.{references_of}
use Rattle.hir_fmt.specs.Referred.{captured, new_if, names_wanted}
use Rattle.hir_fmt.specs.Log.{Entry, Usage, Made}
use Rattle.hir_fmt.specs.Walk.{told_by, arguments_made}
use Rattle.hir_fmt.specs.Parsed.{Makes}
use Rattle.template_bytes.specs.Canonical.{canonical_pieces}
use Rattle.template_bytes.specs.Pairs.{pairs_of}
use Rattle.format_code.specs.FormatCall.{Surroundings, token_in, is_direct_if, names_from, HasPieces, captured_in, pieces_in}
use Rattle.format_code.specs.CallCode.{written_tree, argument_trees, IsTreeOf, IsTreeOfNone}
use Rattle.format_code.proofs.CallRuns.{same_text, same_pieces}
use Rattle.format_code.proofs.Places.{names_same}
use Rattle.hir_build.specs.Frame.{Frame}
use Rattle.hir_build.specs.Building.{Builds, Outgrows}
use Rattle.hir_build.specs.Captures.{Notes}
use Rattle.hir_build.proofs.Builds.{builds_then, builds_within, fresh_still, outgrows_later}
use Rattle.hir_build.proofs.Captures.{noted_placed}
use Rattle.hir_lower.specs.declared.captures.Template.{Template}
use Rattle.hir_lower.specs.declared.captures.Parsed.{Parsed}
use Rattle.hir_lower.specs.FormatArgs.{exprs_of, trees_at_each, IsCodeOf}
use Rattle.hir_lower.specs.Captures.{usages_of, made_count, AreMade}
use Rattle.hir_lower.specs.Parsing.{CapturesSome, BuildsCaptures, OutgrowsCaptures}
use Rattle.hir_lower.specs.Written.{AreWritten}
use Rattle.hir_lower.specs.CallCode.{usages_told, IsCallCode}
use Rattle.hir_lower.specs.CallParsed.{IsReached, Parses, PlacesArguments, GrowsWithin, OutgrowsWithin}
use Rattle.hir_lower.specs.Lowered.{most_of, IsMost}
use Rattle.hir_lower.proofs.CodeLaws.{none_read, tree_of_pieces, origins_of_pieces, tree_of_none, origins_of_none}
use Rattle.hir_lower.proofs.CallLaws.{template_asks, trees_are, arguments_below, orphans_below, told_is}
use Rattle.hir_lower.proofs.WrittenLaws.{written_later}

-- The code with its captures

pub code_noted : {mid new : Frame} (old : Frame) (ptr : _) (fmt : FormatArgs) (id : ExprId) (usages : List (TextRange × Name)) → Notes mid id usages new → IsCodeOf old mid.store ptr fmt id → IsCodeOf old new.store ptr fmt id
code_noted {mid} old ptr fmt id usages notes is =
    subst (λ (frame : Frame). IsCodeOf old frame.store ptr fmt id) (sym notes)
    (record { bytes = is.bytes; canonical = is.canonical; placed = noted_placed mid.store id usages id _ _ is.placed })

-- What is made of the text

module _ (around : Surroundings) (call : FormatCall) (reached : Bor (List ℕ) × Bool) (is : IsReached around call (Some reached)) where
  token_is : token_in around call ≡ Some reached.0.now
  token_is = sym is.literal

  module _ (args : FormatArguments) (new : Frame) (entries : List Entry) (parsed : Parsed) (usages : parsed.usages ≡ usages_of entries) (from : ℕ) (made : AreMade new call.template_ptr from entries) where
    parses_made : Makes reached.0.now (is_direct_if call.template) call.template_ptr args (Some []) (Some entries) parsed.fmt → Parses around call args new parsed
    parses_made (inl of) =
        let same : entries ≡ of.made_is.entries = same_Some _ _ of.made_is.logged in
        inl (record {
          token = reached.0.now;
          reached = token_is;
          source = of.source;
          pieces = of.pieces;
          is = of.is;
          log = Some entries;
          made = of.made_is;
          from = from;
          there = subst (AreMade new call.template_ptr from) same made;
          usages = usages ∙ ap usages_of same;
        })
    parses_made (inr none) = inr (record {
      none = none_read around call reached.0.now token_is none.none;
      template = none.template;
      arguments = none.arguments;
      orphans = none.orphans;
      usages = usages ∙ ap usages_of (same_Some entries [] none.kept);
    })

    pub parses : Makes reached.0.now reached.1 call.template_ptr args (Some []) (Some entries) parsed.fmt → Parses around call args new parsed
    parses makes = parses_made (subst (λ direct. Makes reached.0.now direct call.template_ptr args (Some []) (Some entries) parsed.fmt) is.direct makes)

-- Sizes

-- the most is as much as the arguments, captured ones among them
most_fits : (around : Surroundings) (call : FormatCall) (most : ℕ) → IsMost around call most → length call.args ≤ most
most_fits around call most (inl is) = omega (arith, is.3)
most_fits around call most (inr is) = omega (arith, is.1)

-- the most of a call with pieces
pub most_is : (around : Surroundings) (call : FormatCall) (most : ℕ) (text : List ℕ) (pieces : List Piece) → HasPieces around call text pieces → IsMost around call most
    → most ≡ most_of (length call.args + length (captured_in call text pieces)) (length (pairs_of (pieces_in call text pieces)))
most_is around call most text pieces has (inl is) =
    is.3
    ∙ ap₂ (λ t ps. most_of (length call.args + length (captured_in call t ps)) (length (pairs_of (pieces_in call t ps))))
    (same_text around call is.0 text is.1 pieces is.2 has) (same_pieces around call is.0 text is.1 pieces is.2 has)
most_is around call most text pieces has (inr is) = absurd (is.0 text pieces has)

-- the most of a call without pieces
pub most_none : (around : Surroundings) (call : FormatCall) (most : ℕ) → ((text : List ℕ) (pieces : List Piece) → HasPieces around call text pieces → ⊥) → IsMost around call most → most ≡ most_of (length call.args) 0
most_none around call most none (inl is) = absurd (none is.0 is.1 is.2)
most_none around call most none (inr is) = is.1

module _ (around : Surroundings) (call : FormatCall) (literal : Bor (List ℕ)) (direct : Bool) (is : IsReached around call (Some (literal, direct))) (store : ExpressionStore) (file : _) (args : FormatArguments) (are : AreWritten store file call.args args) (most : ℕ) (size : IsMost around call most) where
  -- what is captured fits with the arguments
  captures_fit : (template : Template) (count : ℕ) → template.literal ≡ literal → template.is_direct ≡ direct → CapturesSome template args count → length call.args + count ≤ most
  captures_fit template count at same (inl zero) = let fits = most_fits around call most size in omega (arith, zero, fits)
  captures_fit template count at same (inr all) =
      let token : token_in around call ≡ Some template.literal.now = sym is.literal ∙ ap (λ (l : Bor (List ℕ)). Some l.now) (sym at) in
      let known : captured template.is_direct (keys_of args.names) (references_of all.source all.pieces) ≡ captured_in call all.source.text all.pieces
      = ap₂ (λ d names. new_if d (keys_of names) (names_wanted (references_of all.source all.pieces))) (same ∙ is.direct) are.names
      ∙ ap (λ wanted. new_if (is_direct_if call.template) (keys_of (names_from 0 call.args)) wanted) (names_same all.source all.pieces) in
      let whole = most_is around call most all.source.text all.pieces (record { token = template.literal.now; reached = token; format = all.is.format }) size in
      omega (arith, whole, all.all, ap length known)

  pub grows_within : (template : Template) {old new : Frame} → template.literal ≡ literal → template.is_direct ≡ direct → BuildsCaptures template args old new → GrowsWithin old new (length call.args) most
  grows_within template at same builds = record { count = builds.count; builds = builds.builds; fits = captures_fit template builds.count at same builds.some }

  pub outgrows_within : (template : Template) (from : ExpressionStore) → template.literal ≡ literal → template.is_direct ≡ direct → OutgrowsCaptures template args from → OutgrowsWithin from (length call.args) most
  outgrows_within template from at same full = record { count = full.count; outgrows = full.outgrows; fits = captures_fit template full.count at same full.some }

-- The uses that were told

usages_same : (entries : List Entry) → usages_of entries ≡ usages_told (map told_by entries)
usages_same [] = refl
usages_same (Usage name (Some span) ∷ entries) = ap (λ usages. (span, name) ∷ usages) (usages_same entries)
usages_same (Usage name None ∷ entries) = usages_same entries
usages_same (Made name span id ∷ entries) = usages_same entries

-- The arguments of a parsed call

-- as many expressions are made as arguments are added
made_length : (template : AstPtr) (entries : List Entry) → length (arguments_made template entries) ≡ made_count entries
made_length template [] = refl
made_length template (Usage name span ∷ entries) = made_length template entries
made_length template (Made name span id ∷ entries) = let more = made_length template entries in omega (arith, more)

module _ (args : FormatArguments) (old new : Frame) (parsed : Parsed) (entries : List Entry) (token : List ℕ) (direct : Bool) (template : AstPtr) (builds : Builds old new (made_count entries) 0) where
  pub places_arguments : Makes token direct template args (Some []) (Some entries) parsed.fmt → PlacesArguments old new args parsed
  places_arguments (inl of) = record {
    count = made_count entries;
    builds = builds;
    sum = ap (λ n. length args.arguments + n) (sym (made_length template entries) ∙ ap (λ es. length (arguments_made template es)) (same_Some _ _ of.made_is.logged))
        ∙ sym (length-append args.arguments (arguments_made template of.made_is.entries)) ∙ sym (ap (λ (a : FormatArguments). length a.arguments) of.made_is.arguments);
  }
  places_arguments (inr none) = record {
    count = made_count entries;
    builds = builds;
    sum = ap (λ es. length args.arguments + made_count es) (same_Some entries [] none.kept) ∙ zero_more (length args.arguments) ∙ sym (ap (λ (a : FormatArguments). length a.arguments) none.arguments);
  }
    where
      zero_more : (n : ℕ) → n + 0 ≡ n
      zero_more n = omega arith

-- The whole call

-- a call whose arguments are placed and whose text is parsed
pub record IsWalked (around : Surroundings) (call : FormatCall) (f0 f1 f2 : Frame) (args : FormatArguments) (parsed : Parsed) : Type 0 where
  pub items : f0.items ≡ around.items
  pub file : f0.file ≡ around.file
  pub first : Builds f0 f1 (length call.args) 0
  pub are : AreWritten f1.store f0.file call.args args
  pub places : PlacesArguments f1 f2 args parsed
  pub is : Parses around call args f2 parsed

pub walked : (around : Surroundings) (call : FormatCall) (written : List FormatArgSyntax) {f0 f1 f2 : Frame} {args : FormatArguments} {parsed : Parsed} → written ≡ call.args → f0.items ≡ around.items → f0.file ≡ around.file
    → Builds f0 f1 (length written) 0 → AreWritten f1.store f0.file written args → PlacesArguments f1 f2 args parsed → Parses around call args f2 parsed → IsWalked around call f0 f1 f2 args parsed
walked around call written {f0} {f1} {f2} {args} same items file first are places is = record {
  items = items;
  file = file;
  first = subst (λ xs. Builds f0 f1 (length xs) 0) same first;
  are = subst (λ xs. AreWritten f1.store f0.file xs args) same are;
  places = places;
  is = is;
}

module _ (around : Surroundings) (call : FormatCall) {f0 f1 f2 : Frame} {args : FormatArguments} {parsed : Parsed} (walk : IsWalked around call f0 f1 f2 args parsed) where
  items_then : f2.items ≡ around.items
  items_then = walk.places.builds.items ∙ walk.first.items ∙ walk.items

  file_then : f2.file ≡ around.file
  file_then = walk.places.builds.file ∙ walk.first.file ∙ walk.file

  are_then : AreWritten f2.store f2.file call.args args
  are_then = subst (λ at. AreWritten f2.store at call.args args) (sym (walk.places.builds.file ∙ walk.first.file)) (written_later walk.places.builds f0.file call.args args walk.are)

  pub arguments_in_store : AllBelow (length f2.store.exprs) (exprs_of parsed.fmt.arguments.arguments)
  arguments_in_store = by_cases walk.is
    where
      by_cases : Parses around call args f2 parsed → AllBelow (length f2.store.exprs) (exprs_of parsed.fmt.arguments.arguments)
      by_cases (inl of) = arguments_below call f2 args are_then of.source of.pieces (Some []) of.log parsed.fmt of.made of.from of.there
      by_cases (inr none) = subst (λ (a : FormatArguments). AllBelow (length f2.store.exprs) (exprs_of a.arguments)) (sym none.arguments) are_then.within

  pub orphans_in_store : AllBelow (length f2.store.exprs) parsed.fmt.orphans
  orphans_in_store = by_cases walk.is
    where
      by_cases : Parses around call args f2 parsed → AllBelow (length f2.store.exprs) parsed.fmt.orphans
      by_cases (inl of) = orphans_below call f2 args are_then of.source of.pieces (Some []) of.log parsed.fmt of.made of.from of.there
      by_cases (inr none) = subst (AllBelow (length f2.store.exprs)) (sym none.orphans) tt

  -- the call is as large as its most
  size_is : (most : ℕ) → IsMost around call most → length call.args + walk.places.count + (length parsed.fmt.arguments.arguments + 4 * length (pairs_of (canonical_pieces parsed.fmt.template)) + 9) ≡ most
  size_is most size = by_cases walk.is
    where
      by_cases : Parses around call args f2 parsed → length call.args + walk.places.count + (length parsed.fmt.arguments.arguments + 4 * length (pairs_of (canonical_pieces parsed.fmt.template)) + 9) ≡ most
      by_cases (inl of) =
          let whole = most_is around call most of.source.text of.pieces (record { token = of.token; reached = of.reached; format = of.is.format }) size in
          let trees = ap length (trees_are call f2 args are_then of.source of.pieces (Some []) of.log parsed.fmt of.made of.from of.there) in
          let exprs : length (trees_at_each f2.store (exprs_of parsed.fmt.arguments.arguments)) ≡ length parsed.fmt.arguments.arguments = length-map (exprs_of parsed.fmt.arguments.arguments) (tree_at f2.store) ∙ length-map parsed.fmt.arguments.arguments (λ (arg : FormatArgument). arg.expr) in
          let both : length (argument_trees call of.source.text of.pieces) ≡ length call.args + length (captured_in call of.source.text of.pieces)
          = length-append (map written_tree call.args) (map Path (captured_in call of.source.text of.pieces)) ∙ ap₂ (λ m n. m + n) (length-map call.args written_tree) (length-map (captured_in call of.source.text of.pieces) Path) in
          let pairs = ap (λ ps. length (pairs_of ps)) (template_asks call f2.store f2.file args are_then of.source of.pieces parsed.fmt.template of.made.template) in
          omega (arith, whole, trees, exprs, both, pairs, walk.places.sum, walk.are.count)
      by_cases (inr none) =
          let whole = most_none around call most none.none size in
          let same = ap (λ (a : FormatArguments). length a.arguments) none.arguments in
          let pairs = ap (λ template. length (pairs_of (canonical_pieces template))) none.template in
          omega (arith, whole, same, pairs, walk.places.sum, walk.are.count)

  -- what the call placed, and what does not fit
  pub builds_call : {f3 : Frame} → Builds f2 f3 (length parsed.fmt.arguments.arguments + 4 * length (pairs_of (canonical_pieces parsed.fmt.template)) + 9) 2 → (most : ℕ) → IsMost around call most → Builds f0 f3 most 2
  builds_call last most size = let whole = size_is most size in builds_within (builds_then (builds_then walk.first walk.places.builds) last) (omega (arith, whole)) (omega arith)

  pub outgrows_call : Outgrows f2.store (length parsed.fmt.arguments.arguments + 4 * length (pairs_of (canonical_pieces parsed.fmt.template)) + 9) 2 → (most : ℕ) → IsMost around call most → Outgrows f0.store most 2
  outgrows_call full most size = let whole = size_is most size in outgrows_later _ 2 most 2 (builds_then walk.first walk.places.builds) full (omega (arith, whole)) (omega arith)

  -- the code of the call
  pub call_code : (f3 : Frame) (id : ExprId) → IsCodeOf f2 f3.store call.ptr parsed.fmt id → entry_at f3.store.format_args_to_captures (place_of id) ≡ Some parsed.usages → IsCallCode around call f0.fresh f3.store id
  call_code f3 id code captures = by_cases walk.is
    where
      fresh : f2.fresh ≡ f0.fresh
      fresh = fresh_still walk.places.builds ∙ fresh_still walk.first

      by_cases : Parses around call args f2 parsed → IsCallCode around call f0.fresh f3.store id
      by_cases (inl of) =
          let has : HasPieces around call of.source.text of.pieces = record { token = of.token; reached = of.reached; format = of.is.format } in
          record {
            within = code.placed.stands.within;
            tree = inl (
              of.source.text,
              of.pieces,
              subst (λ n. IsTreeOf around call n of.source.text of.pieces (tree_at f3.store id)) fresh
                  (tree_of_pieces around call f2 items_then file_then f3.store id parsed.fmt code args are_then of.source of.pieces (Some []) of.log of.made of.from of.there has),
            );
            sources = inl (
              of.source,
              of.pieces,
              record {
                token = of.token;
                reached = of.reached;
                is = of.is;
                origins = origins_of_pieces around call f2 items_then file_then f3.store id parsed.fmt code args are_then of.source of.pieces (Some []) of.log of.made of.from of.there;
                captures = captures ∙ ap Some (of.usages ∙ usages_same of.made.entries ∙ ap usages_told (told_is call f2.store f2.file args are_then of.source of.pieces of.made.entries of.made.told));
              },
            );
          }
      by_cases (inr none) = record {
        within = code.placed.stands.within;
        tree = inr (subst (λ n. IsTreeOfNone around call n (tree_at f3.store id)) fresh (tree_of_none around call f2 items_then file_then f3.store id parsed.fmt code args are_then none.template none.arguments none.orphans none.none));
        sources = inr (record {
          none = none.none;
          origins = origins_of_none around call f2 items_then file_then f3.store id parsed.fmt code args are_then none.template none.arguments none.orphans;
          captures = captures ∙ ap Some none.usages;
        });
      }
