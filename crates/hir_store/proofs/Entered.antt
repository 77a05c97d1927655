-- What entries have once there is one more for the code of a call.
use Rattle.std.proofs.Common.{◌≡◌, ◌≢◌, ℕ, ◌<◌, ◌≤◌, ◌⊎◌, inl, inr, nat_eq, nat_lt, Bool, true, false, cond, if◌then◌else◌, List, [], ◌∷◌, length, Some, None, refl, sym, ap, ◌∙◌, arith, eq-eqb, ne_eqb, eqb-true}
use Rattle.std.proofs.lemmas.Bool.{cases_eq}
use Rattle.sym_core.specs.declared.files.InFile.{InFile}
use Rattle.sym_core.specs.declared.name.Name.{Name}
use Rattle.sym_core.specs.declared.text_range.TextRange.{TextRange}
use Rattle.hir_store.specs.declared.ids.ExprId.{ExprId}
use Rattle.hir_store.specs.declared.asm.AsmRow.{AsmRow}
use Rattle.hir_store.specs.declared.source.CaptureSource.{CaptureSource}
use Rattle.hir_store.specs.declared.store.ExpressionStore.{ExpressionStore}
use Rattle.hir_store.specs.Unfolding.{place_of}
use Rattle.hir_store.specs.Sources.{HoldsBelow, SameBelow}
use Rattle.hir_store.specs.Entries.{has_number, place_in, entry_at, with_entry}
use Rattle.hir_store.specs.Store.{NoDanglingIds}

module _ {A : Type 0} (code : ExprId) (value : A) where
  -- the code has it
  pub entered : (entries : List (ExprId × A)) → entry_at (with_entry entries code value) (place_of code) ≡ Some value
  entered [] = ap (λ b. cond b (Some value) None) (eq-eqb (place_of code) (place_of code) refl)
  entered (e ∷ entries) = decide (nat_lt (place_of code) (place_in e)) (nat_eq (place_of code) (place_in e)) refl (entered entries) where
    decide : (lt same : Bool) → nat_eq (place_of code) (place_in e) ≡ same → entry_at (with_entry entries code value) (place_of code) ≡ Some value →
        entry_at (if lt then (code, value) ∷ e ∷ entries else if same then (code, value) ∷ entries else e ∷ with_entry entries code value) (place_of code) ≡ Some value
    decide true same is later = ap (λ b. cond b (Some value) (entry_at (e ∷ entries) (place_of code))) (eq-eqb (place_of code) (place_of code) refl)
    decide false true is later = ap (λ b. cond b (Some value) (entry_at entries (place_of code))) (eq-eqb (place_of code) (place_of code) refl)
    decide false false is later = ap (λ b. cond b (Some e.1) (entry_at (with_entry entries code value) (place_of code))) is ∙ later

  -- each other number has what it had
  pub entered_others : (entries : List (ExprId × A)) (number : ℕ) → number ≢ place_of code → entry_at (with_entry entries code value) number ≡ entry_at entries number
  entered_others [] number differs = ap (λ b. cond b (Some value) None) (ne_eqb number (place_of code) differs)
  entered_others (e ∷ entries) number differs = decide (nat_lt (place_of code) (place_in e)) (nat_eq (place_of code) (place_in e)) refl (entered_others entries number differs) where
    decide : (lt same : Bool) → nat_eq (place_of code) (place_in e) ≡ same → entry_at (with_entry entries code value) number ≡ entry_at entries number →
        entry_at (if lt then (code, value) ∷ e ∷ entries else if same then (code, value) ∷ entries else e ∷ with_entry entries code value) number ≡ entry_at (e ∷ entries) number
    decide true same is later = ap (λ b. cond b (Some value) (entry_at (e ∷ entries) number)) (ne_eqb number (place_of code) differs)
    decide false true is later =
        let other : nat_eq number (place_in e) ≡ false = ne_eqb number (place_in e) (λ here. differs (here ∙ sym (eqb-true (place_of code) (place_in e) is))) in
        ap (λ b. cond b (Some value) (entry_at entries number)) (ne_eqb number (place_of code) differs) ∙ sym (ap (λ b. cond b (Some e.1) (entry_at entries number)) other)
    decide false false is later = ap (λ found. cond (has_number number e.0) (Some e.1) found) later

  module _ (limit : ℕ) (entries : List (ExprId × A)) where
    -- an entry at the limit or behind it changes nothing below
    pub same_by_entry : (old : List (ExprId × A)) → limit ≤ place_of code → SameBelow limit (entry_at old) (entry_at entries) → SameBelow limit (entry_at old) (entry_at (with_entry entries code value))
    same_by_entry old le was number lt =
        let other : number ≢ place_of code = λ e. omega (arith, e, le, lt) in
        entered_others entries number other ∙ was number lt

    -- an entry below the limit leaves none at it or behind
    pub holds_entry : place_of code < limit → HoldsBelow limit (entry_at entries) → HoldsBelow limit (entry_at (with_entry entries code value))
    holds_entry within held number known is = decide (cases_eq number (place_of code)) where
      decide : (number ≡ place_of code) ⊎ (number ≢ place_of code) → number < limit
      decide (inl same) = omega (arith, same, within)
      decide (inr differs) = held number known (sym (entered_others entries number differs) ∙ is)

-- a store with an entry for code of it has no dangling ids where it had none
pub no_dangling_entered : (old : ExpressionStore) (code : ExprId) (usages : List (TextRange × Name)) → place_of code < length old.exprs → NoDanglingIds old →
    NoDanglingIds (record old { format_args_to_captures = with_entry old.format_args_to_captures code usages })
no_dangling_entered old code usages within was = record {
  whole = was.whole;
  patterns = was.patterns;
  definitions = was.definitions;
  maps = record {
    sources = was.maps.sources;
    capture_sources = was.maps.capture_sources;
    captures = holds_entry code usages (length old.exprs) old.format_args_to_captures within was.maps.captures;
    mappings = was.maps.mappings;
  };
}

-- a store with a place in a template for an expression of it has no dangling ids where it had none
pub no_dangling_captured : (old : ExpressionStore) (id : ExprId) (source : InFile CaptureSource) → place_of id < length old.exprs → NoDanglingIds old →
    NoDanglingIds (record old { implicit_capture_to_source = with_entry old.implicit_capture_to_source id source })
no_dangling_captured old id source within was = record {
  whole = was.whole;
  patterns = was.patterns;
  definitions = was.definitions;
  maps = record {
    sources = was.maps.sources;
    capture_sources = holds_entry id source (length old.exprs) old.implicit_capture_to_source within was.maps.capture_sources;
    captures = was.maps.captures;
    mappings = was.maps.mappings;
  };
}

-- a store with a mapping for code of it has no dangling ids where it had none
pub no_dangling_mapped : (old : ExpressionStore) (code : ExprId) (rows : List AsmRow) → place_of code < length old.exprs → NoDanglingIds old →
    NoDanglingIds (record old { asm_to_captures = with_entry old.asm_to_captures code rows })
no_dangling_mapped old code rows within was = record {
  whole = was.whole;
  patterns = was.patterns;
  definitions = was.definitions;
  maps = record {
    sources = was.maps.sources;
    capture_sources = was.maps.capture_sources;
    captures = was.maps.captures;
    mappings = holds_entry code rows (length old.exprs) old.asm_to_captures within was.maps.mappings;
  };
}
