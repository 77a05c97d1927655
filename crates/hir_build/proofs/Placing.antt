-- An expression placed behind the others: what it leaves of a builder, and where it comes from.
use Rattle.std.proofs.Common.{◌≡◌, ℕ, ◌⊎◌, inl, inr, List, [], ◌∷◌, length, Option, Some, None, IsTrue, refl, sym, ap, ap₂, ◌∙◌, arith, length-append}
use Rattle.sym_core.specs.declared.files.AstPtr.{AstPtr}
use Rattle.sym_core.specs.declared.files.InFile.{InFile}
use Rattle.hir_store.specs.declared.ids.ExprId.{ExprId}
use Rattle.hir_store.specs.declared.expr.Expr.{Expr}
use Rattle.hir_store.specs.declared.store.ExpressionStore.{ExpressionStore}
use Rattle.hir_store.specs.Tree.{is_whole}
use Rattle.hir_store.specs.Unfolding.{place_of, tree_over}
use Rattle.hir_store.specs.Entries.{entry_at}
use Rattle.hir_store.specs.Sources.{HoldsBelow, NoDanglingKeys, SameAtOlder, SameMaps, EntersSource}
use Rattle.hir_store.specs.Store.{Grows, Stands, NoDanglingIds, PlacesExpr, PlacesNewest}
use Rattle.hir_store.proofs.Defined.{defined_still}
use Rattle.hir_store.proofs.Entered.{entered}
use Rattle.hir_build.specs.Frame.{Frame, IsSound}
use Rattle.hir_build.specs.Origins.{bare, origins_over}
use Rattle.hir_build.specs.Placed.{Placed}
use Rattle.hir_build.specs.Building.{Builds}
use Rattle.hir_build.proofs.Origins.{origins_placed}
use Rattle.hir_build.proofs.Builds.{builds_grown}

-- a map that holds values below a limit alone holds nothing at it
none_at : {A : Type 0} (limit : ℕ) (entries : List (ExprId × A)) → HoldsBelow limit (entry_at entries) → entry_at entries limit ≡ None
none_at {A = A} limit entries held = decide (entry_at entries limit) refl where
  decide : (there : Option A) → entry_at entries limit ≡ there → there ≡ None
  decide None is = refl
  decide (Some value) is = absurd (omega (arith, held limit value is))

module _ (old new : ExpressionStore) (e : Expr) (fresh : ℕ) (kept : NoDanglingIds old → IsTrue (is_whole (tree_over old e)) → NoDanglingIds new) (whole : IsTrue (is_whole (tree_over old e)))
    (was : IsSound old fresh) where
  sound_still : new.pats ≡ old.pats → new.bindings ≡ old.bindings → IsSound new fresh
  sound_still pats bindings = record {
    no_dangling = kept was.no_dangling whole;
    defined = defined_still pats bindings was.defined;
    bound = omega (arith, was.bound, ap length bindings);
  }

  pub sound_placed : (id : ExprId) → PlacesExpr old e id new → IsSound new fresh
  sound_placed id places = sound_still places.pats places.bindings

  -- where memory for the source was refused
  pub sound_refused : (new ≡ old) ⊎ PlacesNewest old e new → IsSound new fresh
  sound_refused (inl same) = sound_still (ap (λ (s : ExpressionStore). s.pats) same) (ap (λ (s : ExpressionStore). s.bindings) same)
  sound_refused (inr newest) = sound_still (ap (λ (s : ExpressionStore). s.pats) newest) (ap (λ (s : ExpressionStore). s.bindings) newest)

module _ (old new : ExpressionStore) (e : Expr) (id : ExprId) (places : PlacesExpr old e id new) (older : SameAtOlder old new) (held : NoDanglingKeys old) (stands : Stands new id (tree_over old e)) where
  -- an expression that has no source
  pub placed_bare : SameMaps old new → Placed new id (tree_over old e) (bare ∷ origins_over old e)
  placed_bare maps = record {
    stands = stands;
    comes = origins_placed old new e id bare places older (ap₂ (λ s c. record { source = s; capture = c })
        (ap (λ entries. entry_at entries (length old.exprs)) maps.sources ∙ none_at (length old.exprs) old.expr_map_back held.sources)
        (ap (λ entries. entry_at entries (length old.exprs)) maps.capture_sources ∙ none_at (length old.exprs) old.implicit_capture_to_source held.capture_sources));
  }

  -- an expression with its source
  pub placed_source : (source : InFile AstPtr) → EntersSource old id source new → Placed new id (tree_over old e) (record { source = Some source; capture = None } ∷ origins_over old e)
  placed_source source enters = record {
    stands = stands;
    comes = origins_placed old new e id (record { source = Some source; capture = None }) places older (ap₂ (λ s c. record { source = s; capture = c })
        (ap (entry_at new.expr_map_back) (sym places.place) ∙ ap (λ entries. entry_at entries (place_of id)) enters.sources ∙ entered id source old.expr_map_back)
        (ap (λ entries. entry_at entries (length old.exprs)) enters.capture_sources ∙ none_at (length old.exprs) old.implicit_capture_to_source held.capture_sources));
  }

-- an expression placed in the store of a builder
pub builds_placed : (old : Frame) (new : ExpressionStore) (e : Expr) (id : ExprId) → NoDanglingIds old.store → Grows old.store new → PlacesExpr old.store e id new → Builds old (record old { store = new }) 1 0
builds_placed old new e id sound grows places = builds_grown old new old.fresh 1 0 sound grows (omega arith) (omega arith)
    (omega (arith, ap length places.exprs, length-append old.store.exprs (e ∷ []))) (omega (arith, ap length places.pats)) (omega (arith, ap length places.bindings))

-- an expression that was refused in the store of a builder, and may have stayed there
pub builds_refused : (old : Frame) (new : ExpressionStore) (e : Expr) → NoDanglingIds old.store → Grows old.store new → (new ≡ old.store) ⊎ PlacesNewest old.store e new → Builds old (record old { store = new }) 1 0
builds_refused old new e sound grows (inl same) = builds_grown old new old.fresh 1 0 sound grows (omega arith) (omega arith)
    (omega (arith, ap (λ (s : ExpressionStore). length s.exprs) same)) (omega (arith, ap (λ (s : ExpressionStore). length s.pats) same)) (omega (arith, ap (λ (s : ExpressionStore). length s.bindings) same))
builds_refused old new e sound grows (inr newest) = builds_grown old new old.fresh 1 0 sound grows (omega arith) (omega arith)
    (omega (arith, ap (λ (s : ExpressionStore). length s.exprs) newest, length-append old.store.exprs (e ∷ []))) (omega (arith, ap (λ (s : ExpressionStore). length s.pats) newest))
    (omega (arith, ap (λ (s : ExpressionStore). length s.bindings) newest))
