-- What is kept of calls changes no tree, and what stood before the code that has it grows all the same.
use Rattle.std.proofs.Common.{◌≡◌, ℕ, ◌≤◌, List, [], ◌∷◌, length, reverse, drop, nat_eq, true, slice_get, unwrap_or, Some, refl, sym, ap, ap₂, ◌∙◌, ◌+◌, subst, arith, eq-eqb}
use Rattle.std.proofs.lemmas.List.{length-reverse}
use Rattle.std.proofs.lemmas.Bool.{cond-true}
use Rattle.sym_core.specs.declared.files.InFile.{InFile}
use Rattle.sym_core.specs.declared.name.Name.{Name}
use Rattle.sym_core.specs.declared.text_range.TextRange.{TextRange}
use Rattle.hir_store.specs.declared.ids.ExprId.{ExprId}
use Rattle.hir_store.specs.declared.asm.AsmRow.{AsmRow}
use Rattle.hir_store.specs.declared.expr.Expr.{Expr}
use Rattle.hir_store.specs.declared.source.CaptureSource.{CaptureSource}
use Rattle.hir_store.specs.declared.store.ExpressionStore.{ExpressionStore}
use Rattle.hir_store.specs.Tree.{Tree}
use Rattle.hir_store.specs.Unfolding.{place_of}
use Rattle.hir_store.specs.Entries.{entry_at, with_entry}
use Rattle.hir_store.specs.Sources.{SameBelow}
use Rattle.hir_store.specs.Store.{Grows}
use Rattle.hir_store.proofs.Entered.{entered, same_by_entry}
use Rattle.hir_build.specs.Frame.{Frame}
use Rattle.hir_build.specs.Origins.{Origin, origin_at, node_origins, origins_in}
use Rattle.hir_build.specs.Placed.{Placed}
use Rattle.hir_build.specs.Building.{Builds}
use Rattle.hir_build.specs.Captures.{with_capture, with_captures, Notes, with_mapping, NotesMapping}
use Rattle.hir_build.proofs.Origins.{same_functions, same_origins}

-- the place of a name that is captured

module _ (store : ExpressionStore) (id : ExprId) (source : InFile CaptureSource) where
  -- an older store grows to it
  captured_grows : (old : ExpressionStore) → Grows old store → length old.exprs ≤ place_of id → Grows old (with_capture store id source)
  captured_grows old grows le = record {
    exprs = grows.exprs;
    pats = grows.pats;
    bindings = grows.bindings;
    older = record {
      sources = grows.older.sources;
      capture_sources = same_by_entry id source (length old.exprs) store.implicit_capture_to_source old.implicit_capture_to_source le grows.older.capture_sources;
      captures = grows.older.captures;
      mappings = grows.older.mappings;
    };
  }

  -- the map has the place
  captured_at : entry_at (with_capture store id source).implicit_capture_to_source (place_of id) ≡ Some source
  captured_at = entered id source store.implicit_capture_to_source

-- the origins among expressions in front of the one that is captured
captured_before : (store : ExpressionStore) (id : ExprId) (source : InFile CaptureSource) (es : List Expr) → length es ≤ place_of id → origins_in (with_capture store id source) es ≡ origins_in store es
captured_before store id source es le = same_functions (origins_in (with_capture store id source) es) (origins_in store es) (same_origins store (with_capture store id source) (place_of id) (λ number lt. refl)
    (same_by_entry id source (place_of id) store.implicit_capture_to_source store.implicit_capture_to_source (omega arith) (λ number lt. refl)) es le)

same_front : (x y : Origin) (xs ys : List Origin) → x ∷ xs ≡ y ∷ ys → x ≡ y
same_front x y xs ys is = ap (λ os. unwrap_or (slice_get os 0) x) is

same_rest : (x y : Origin) (xs ys : List Origin) → x ∷ xs ≡ y ∷ ys → xs ≡ ys
same_rest x y xs ys is = ap (drop 1) is

-- an origin with this place in a template
abbrev captured : Origin → InFile CaptureSource → Origin
captured own source = record { source = own.source; capture = Some source }

captured_in : (store : ExpressionStore) (id : ExprId) (source : InFile CaptureSource) (es : List Expr) (own : Origin) (rest : List Origin) → place_of id + 1 ≡ length es →
    origins_in store es id ≡ own ∷ rest → origins_in (with_capture store id source) es id ≡ captured own source ∷ rest
captured_in store id source [] own rest at comes = absurd (omega (arith, at))
captured_in store id source (e ∷ es) own rest at comes =
    let new = with_capture store id source in
    let here : nat_eq (place_of id) (length es) ≡ true = eq-eqb (place_of id) (length es) (omega (arith, at)) in
    let was : origin_at store (place_of id) ∷ node_origins (origins_in store es) e ≡ own ∷ rest = sym
    (cond-true (nat_eq (place_of id) (length es)) (origin_at store (place_of id) ∷ node_origins (origins_in store es) e) (origins_in store es id) here) ∙ comes in
    let parts : node_origins (origins_in new es) e ≡ rest = ap (λ f. node_origins f e) (captured_before store id source es (omega (arith, at)))
    ∙ same_rest (origin_at store (place_of id)) own (node_origins (origins_in store es) e) rest was in
    let first : origin_at new (place_of id) ≡ captured own source = ap (λ c. record { source = entry_at store.expr_map_back (place_of id); capture = c }) (captured_at store id source)
    ∙ ap (λ (o : Origin). captured o source) (same_front (origin_at store (place_of id)) own (node_origins (origins_in store es) e) rest was) in
    cond-true (nat_eq (place_of id) (length es)) (origin_at new (place_of id) ∷ node_origins (origins_in new es) e) (origins_in new es id) here ∙ ap₂ (λ o os. o ∷ os) first parts

-- the newest expression of a store, once it has its place in a template
pub captured_placed : (store : ExpressionStore) (id : ExprId) (source : InFile CaptureSource) (t : Tree) (own : Origin) (rest : List Origin) → place_of id + 1 ≡ length store.exprs →
    Placed store id t (own ∷ rest) → Placed (with_capture store id source) id t (captured own source ∷ rest)
captured_placed store id source t own rest at was = record {
  stands = record { within = was.stands.within; tree = was.stands.tree; whole = was.stands.whole };
  comes = captured_in store id source (reverse store.exprs) own rest (at ∙ sym (length-reverse store.exprs)) was.comes;
}

-- what built the newest expression built it with its place in a template
pub builds_captured : (old : Frame) (new : Frame) (id : ExprId) (source : InFile CaptureSource) (most lets : ℕ) → Builds old new most lets → length old.store.exprs ≤ place_of id →
    Builds old (record new { store = with_capture new.store id source }) most lets
builds_captured old new id source most lets built le = record {
  grows = captured_grows new.store id source old.store built.grows le;
  trees = built.trees;
  file = built.file;
  items = built.items;
  fresh = built.fresh;
  names = built.names;
  exprs = built.exprs;
  pats = built.pats;
  bindings = built.bindings;
}

-- what is kept at the code of a call

-- a store with other entries for the codes of calls
abbrev with_entries : ExpressionStore → List (ExprId × List (TextRange × Name)) → List (ExprId × List AsmRow) → ExpressionStore
with_entries store captures mappings = record store { format_args_to_captures = captures; asm_to_captures = mappings }

module _ (store : ExpressionStore) (captures : List (ExprId × List (TextRange × Name))) (mappings : List (ExprId × List AsmRow)) where
  -- an older store grows to it, where the entries for older expressions are those that it had
  entries_grow : (old : ExpressionStore) → Grows old store → SameBelow (length old.exprs) (entry_at old.format_args_to_captures) (entry_at captures) →
      SameBelow (length old.exprs) (entry_at old.asm_to_captures) (entry_at mappings) → Grows old (with_entries store captures mappings)
  entries_grow old grows same_captures same_mappings = record {
    exprs = grows.exprs;
    pats = grows.pats;
    bindings = grows.bindings;
    older = record {
      sources = grows.older.sources;
      capture_sources = grows.older.capture_sources;
      captures = same_captures;
      mappings = same_mappings;
    };
  }

  entries_origins : (es : List Expr) (id : ExprId) → origins_in (with_entries store captures mappings) es id ≡ origins_in store es id
  entries_origins [] id = refl
  entries_origins (e ∷ es) id = rw (same_functions (origins_in (with_entries store captures mappings) es) (origins_in store es) (entries_origins es)) refl

  -- what is placed stays so
  entries_placed : (id : ExprId) (t : Tree) (os : List Origin) → Placed store id t os → Placed (with_entries store captures mappings) id t os
  entries_placed id t os was = record {
    stands = record { within = was.stands.within; tree = was.stands.tree; whole = was.stands.whole };
    comes = entries_origins (reverse store.exprs) id ∙ was.comes;
  }

-- a builder that built code did build it, where entries were made that change nothing for older expressions
entries_built : (old new : Frame) (captures : List (ExprId × List (TextRange × Name))) (mappings : List (ExprId × List AsmRow)) (most lets : ℕ) → Builds old new most lets →
    Grows old.store (with_entries new.store captures mappings) → Builds old (record new { store = with_entries new.store captures mappings }) most lets
entries_built old new captures mappings most lets built grows = record {
  grows = grows;
  trees = built.trees;
  file = built.file;
  items = built.items;
  fresh = built.fresh;
  names = built.names;
  exprs = built.exprs;
  pats = built.pats;
  bindings = built.bindings;
}

-- the captures of a call

module _ (store : ExpressionStore) (code : ExprId) (usages : List (TextRange × Name)) where
  -- an older store, in which the code is not yet, grows to it
  pub noted_grows : (old : ExpressionStore) → Grows old store → length old.exprs ≤ place_of code → Grows old (with_captures store code usages)
  noted_grows old grows le = entries_grow store (with_entry store.format_args_to_captures code usages) store.asm_to_captures old grows
      (same_by_entry code usages (length old.exprs) store.format_args_to_captures old.format_args_to_captures le grows.older.captures) grows.older.mappings

  -- what is placed stays so
  pub noted_placed : (id : ExprId) (t : Tree) (os : List Origin) → Placed store id t os → Placed (with_captures store code usages) id t os
  noted_placed = entries_placed store (with_entry store.format_args_to_captures code usages) store.asm_to_captures

-- the code has what was noted
pub noted_captures : (old new : Frame) (code : ExprId) (usages : List (TextRange × Name)) → Notes old code usages new → entry_at new.store.format_args_to_captures (place_of code) ≡ Some usages
noted_captures old new code usages notes = ap (λ (frame : Frame). entry_at frame.store.format_args_to_captures (place_of code)) notes ∙ entered code usages old.store.format_args_to_captures

-- a builder that noted the captures of code that it built did build it
pub builds_noted : {a b c : Frame} {most lets : ℕ} (code : ExprId) (usages : List (TextRange × Name)) → Builds a b most lets → length a.store.exprs ≤ place_of code → Notes b code usages c →
    Builds a c most lets
builds_noted {a} {b} {c} {most} {lets} code usages first le notes = subst (λ f. Builds a f most lets) (sym notes)
    (entries_built a b (with_entry b.store.format_args_to_captures code usages) b.store.asm_to_captures most lets first (noted_grows b.store code usages a.store first.grows le))

-- the mapping of inline assembly

module _ (store : ExpressionStore) (code : ExprId) (rows : List AsmRow) where
  -- an older store, in which the code is not yet, grows to it
  pub mapped_grows : (old : ExpressionStore) → Grows old store → length old.exprs ≤ place_of code → Grows old (with_mapping store code rows)
  mapped_grows old grows le = entries_grow store store.format_args_to_captures (with_entry store.asm_to_captures code rows) old grows
      grows.older.captures (same_by_entry code rows (length old.exprs) store.asm_to_captures old.asm_to_captures le grows.older.mappings)

  -- what is placed stays so
  pub mapped_placed : (id : ExprId) (t : Tree) (os : List Origin) → Placed store id t os → Placed (with_mapping store code rows) id t os
  mapped_placed = entries_placed store store.format_args_to_captures (with_entry store.asm_to_captures code rows)

-- the code has the mapping that was noted
pub noted_mapping : (old new : Frame) (code : ExprId) (rows : List AsmRow) → NotesMapping old code rows new → entry_at new.store.asm_to_captures (place_of code) ≡ Some rows
noted_mapping old new code rows notes = ap (λ (frame : Frame). entry_at frame.store.asm_to_captures (place_of code)) notes ∙ entered code rows old.store.asm_to_captures

-- a builder that noted the mapping of code that it built did build it
pub builds_mapped : {a b c : Frame} {most lets : ℕ} (code : ExprId) (rows : List AsmRow) → Builds a b most lets → length a.store.exprs ≤ place_of code → NotesMapping b code rows c →
    Builds a c most lets
builds_mapped {a} {b} {c} {most} {lets} code rows first le notes = subst (λ f. Builds a f most lets) (sym notes)
    (entries_built a b b.store.format_args_to_captures (with_entry b.store.asm_to_captures code rows) most lets first (mapped_grows b.store code rows a.store first.grows le))
