-- What the maps of a store hold where it grows.
use Rattle.std.proofs.Common.{◌≡◌, ◌≢◌, ℕ, ◌<◌, ◌≤◌, ◌⊎◌, inl, inr, List, length, Option, Some, refl, sym, ap, ◌∙◌, arith}
use Rattle.std.proofs.lemmas.Bool.{cases_eq}
use Rattle.sym_core.specs.declared.files.InFile.{InFile}
use Rattle.sym_core.specs.declared.files.AstPtr.{AstPtr}
use Rattle.hir_store.specs.declared.ids.ExprId.{ExprId}
use Rattle.hir_store.specs.declared.store.ExpressionStore.{ExpressionStore}
use Rattle.hir_store.specs.Unfolding.{place_of}
use Rattle.hir_store.specs.Entries.{entry_at, with_entry}
use Rattle.hir_store.specs.Sources.{HoldsBelow, SameBelow, NoDanglingKeys, SameAtOlder, SameMaps, EntersSource}
use Rattle.hir_store.proofs.Entered.{entered_others}

module _ {A M : Type 0} (at : M → ℕ → Option A) (limit : ℕ) (old new : M) (same : new ≡ old) where
  -- a map that stays as it was
  same_below : SameBelow limit (at old) (at new)
  same_below number lt = ap (λ m. at m number) same

  holds_later : (later : ℕ) → limit ≤ later → HoldsBelow limit (at old) → HoldsBelow later (at new)
  holds_later later le held number value is = omega (arith, le, held number value (ap (λ m. at m number) (sym same) ∙ is))

module _ {A : Type 0} (limit : ℕ) where
  same_below_on : (later : ℕ) (a b c : ℕ → Option A) → limit ≤ later → SameBelow limit a b → SameBelow later b c → SameBelow limit a c
  same_below_on later a b c le first second number lt = second number (omega (arith, le, lt)) ∙ first number lt

  module _ (old new : List (ExprId × A)) (id : ExprId) (value : A) (is : new ≡ with_entry old id value) where
    others_with : (number : ℕ) → number ≢ place_of id → entry_at new number ≡ entry_at old number
    others_with number differs = ap (λ entries. entry_at entries number) is ∙ entered_others id value old number differs

    -- what is entered at the limit changes nothing below it
    same_below_entry : place_of id ≡ limit → SameBelow limit (entry_at old) (entry_at new)
    same_below_entry at number lt = others_with number (λ e. omega (arith, e, at, lt))

    holds_with : (later : ℕ) → limit ≤ later → place_of id < later → HoldsBelow limit (entry_at old) → HoldsBelow later (entry_at new)
    holds_with later le lt held number known there = decide (cases_eq number (place_of id)) where
      decide : (number ≡ place_of id) ⊎ (number ≢ place_of id) → number < later
      decide (inl same) = omega (arith, same, lt)
      decide (inr differs) = omega (arith, le, held number known (sym (others_with number differs) ∙ there))

module _ (old new : ExpressionStore) where
  -- maps that stay as they were
  pub same_at_older : SameMaps old new → SameAtOlder old new
  same_at_older maps = record {
    sources = same_below entry_at (length old.exprs) old.expr_map_back new.expr_map_back maps.sources;
    capture_sources = same_below entry_at (length old.exprs) old.implicit_capture_to_source new.implicit_capture_to_source maps.capture_sources;
    captures = same_below entry_at (length old.exprs) old.format_args_to_captures new.format_args_to_captures maps.captures;
    mappings = same_below entry_at (length old.exprs) old.asm_to_captures new.asm_to_captures maps.mappings;
  }

  pub maps_still : SameMaps old new → length old.exprs ≤ length new.exprs → NoDanglingKeys old → NoDanglingKeys new
  maps_still maps le held = record {
    sources = holds_later entry_at (length old.exprs) old.expr_map_back new.expr_map_back maps.sources (length new.exprs) le held.sources;
    capture_sources = holds_later entry_at (length old.exprs) old.implicit_capture_to_source new.implicit_capture_to_source maps.capture_sources (length new.exprs) le held.capture_sources;
    captures = holds_later entry_at (length old.exprs) old.format_args_to_captures new.format_args_to_captures maps.captures (length new.exprs) le held.captures;
    mappings = holds_later entry_at (length old.exprs) old.asm_to_captures new.asm_to_captures maps.mappings (length new.exprs) le held.mappings;
  }

  module _ (id : ExprId) (ptr : InFile AstPtr) (enters : EntersSource old id ptr new) where
    -- a source entered at an expression that was not there
    pub older_with_source : place_of id ≡ length old.exprs → SameAtOlder old new
    older_with_source at = record {
      sources = same_below_entry (length old.exprs) old.expr_map_back new.expr_map_back id ptr enters.sources at;
      capture_sources = same_below entry_at (length old.exprs) old.implicit_capture_to_source new.implicit_capture_to_source enters.capture_sources;
      captures = same_below entry_at (length old.exprs) old.format_args_to_captures new.format_args_to_captures enters.captures;
      mappings = same_below entry_at (length old.exprs) old.asm_to_captures new.asm_to_captures enters.mappings;
    }

    pub maps_with_source : length old.exprs ≤ length new.exprs → place_of id < length new.exprs → NoDanglingKeys old → NoDanglingKeys new
    maps_with_source le lt held = record {
      sources = holds_with (length old.exprs) old.expr_map_back new.expr_map_back id ptr enters.sources (length new.exprs) le lt held.sources;
      capture_sources = holds_later entry_at (length old.exprs) old.implicit_capture_to_source new.implicit_capture_to_source enters.capture_sources (length new.exprs) le held.capture_sources;
      captures = holds_later entry_at (length old.exprs) old.format_args_to_captures new.format_args_to_captures enters.captures (length new.exprs) le held.captures;
      mappings = holds_later entry_at (length old.exprs) old.asm_to_captures new.asm_to_captures enters.mappings (length new.exprs) le held.mappings;
    }

pub older_self : (store : ExpressionStore) → SameAtOlder store store
older_self store = same_at_older store store (record { sources = refl; capture_sources = refl; captures = refl; mappings = refl })

pub older_on : (a b c : ExpressionStore) → length a.exprs ≤ length b.exprs → SameAtOlder a b → SameAtOlder b c → SameAtOlder a c
older_on a b c le first second = record {
  sources = same_below_on (length a.exprs) (length b.exprs) (entry_at a.expr_map_back) (entry_at b.expr_map_back) (entry_at c.expr_map_back) le first.sources second.sources;
  capture_sources = same_below_on (length a.exprs) (length b.exprs) (entry_at a.implicit_capture_to_source) (entry_at b.implicit_capture_to_source) (entry_at c.implicit_capture_to_source) le first.capture_sources second.capture_sources;
  captures = same_below_on (length a.exprs) (length b.exprs) (entry_at a.format_args_to_captures) (entry_at b.format_args_to_captures) (entry_at c.format_args_to_captures) le first.captures second.captures;
  mappings = same_below_on (length a.exprs) (length b.exprs) (entry_at a.asm_to_captures) (entry_at b.asm_to_captures) (entry_at c.asm_to_captures) le first.mappings second.mappings;
}
