-- A pattern that defines what it binds goes on to, where bindings only come behind.
use Rattle.std.proofs.Common.{◌≡◌, ℕ, slice_get, Some, None, Option, option_map, refl, sym, ap, ◌∙◌}
use Rattle.std.specs.Option.{option_and_then}
use Rattle.std.proofs.lemmas.Option.{none-some}
use Rattle.la_arena.specs.Idx.{number_of}
use Rattle.hir_store.specs.declared.ids.PatId.{PatId}
use Rattle.hir_store.specs.declared.ids.BindingId.{BindingId}
use Rattle.hir_store.specs.declared.pat.Pat.{Pat}
use Rattle.hir_store.specs.declared.pat.Pat.TheVariants.{Bind}
use Rattle.hir_store.specs.declared.pat.Binding.{Binding}
use Rattle.hir_store.specs.declared.store.ExpressionStore.{ExpressionStore}
use Rattle.hir_store.specs.Store.{Extends, definition_of, DefinesItsOwn, EachDefines}
use Rattle.hir_store.proofs.Lists.{kept_on, same_extends}

-- what defined a binding goes on to, where no binding changes
definition_later : (old new : ExpressionStore) (id : BindingId) (number : ℕ) → Extends old.bindings new.bindings → definition_of old id ≡ Some number → definition_of new id ≡ Some number
definition_later old new id number longer was = later (slice_get old.bindings (number_of id.raw)) refl was where
  later : (there : Option Binding) → slice_get old.bindings (number_of id.raw) ≡ there → option_map (λ (p : PatId). number_of p.raw) (option_and_then (λ (b : Binding). b.definition) there) ≡ Some number → definition_of new id ≡ Some number
  later None is defines = absurd (none-some number defines)
  later (Some b) is defines =
      ap (λ o. option_map (λ (p : PatId). number_of p.raw) (option_and_then (λ (b : Binding). b.definition) o)) (kept_on old.bindings new.bindings (number_of id.raw) b longer is) ∙ defines

pub own_later : (old new : ExpressionStore) (number : ℕ) (pat : Pat) → Extends old.bindings new.bindings → DefinesItsOwn old number pat → DefinesItsOwn new number pat
own_later old new number (Bind id) longer was = definition_later old new id number longer was

-- a store whose patterns stay, and whose bindings stay with more behind them
pub defined_longer : (old new : ExpressionStore) → new.pats ≡ old.pats → Extends old.bindings new.bindings → EachDefines old → EachDefines new
defined_longer old new pats longer was = record {
  each = λ number pat is. own_later old new number pat longer (was.each number pat (ap (λ ps. slice_get ps number) (sym pats) ∙ is));
}

-- patterns and bindings that stay
pub defined_still : {old new : ExpressionStore} → new.pats ≡ old.pats → new.bindings ≡ old.bindings → EachDefines old → EachDefines new
defined_still {old} {new} pats bindings was = defined_longer old new pats (same_extends old.bindings new.bindings bindings) was
