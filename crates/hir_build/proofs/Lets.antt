-- A binding, a pattern that binds it, and its definition, placed one after the other.
use Rattle.std.proofs.Common.{◌≡◌, ℕ, ◌+◌, ◌<◌, ◌≤◌, max, ◌⊎◌, inl, inr, List, [], ◌∷◌, ◌++◌, length, slice_get, slice_set, zero, suc, Some, None, option_map, refl, sym, ap, ◌∙◌, subst, arith, length-append}
use Rattle.std.specs.Option.{option_and_then}
use Rattle.std.proofs.Math.Nat.{le-max_left, max-le}
use Rattle.std.proofs.lemmas.Option.{same_Some}
use Rattle.la_arena.specs.Idx.{number_of}
use Rattle.sym_core.specs.declared.name.Name.{Name}
use Rattle.hir_store.specs.declared.ids.ExprId.{ExprId}
use Rattle.hir_store.specs.declared.expr.Statement.TheVariants as statement
use Rattle.hir_store.specs.declared.lang_item.LangItems.{LangItems}
use Rattle.sym_core.specs.declared.files.HirFileId.{HirFileId}
use Rattle.hir_store.specs.declared.ids.PatId.{PatId}
use Rattle.hir_store.specs.declared.ids.BindingId.{BindingId}
use Rattle.hir_store.specs.declared.pat.Pat.{Pat}
use Rattle.hir_store.specs.declared.pat.Pat.TheVariants.{Bind}
use Rattle.hir_store.specs.declared.pat.Binding.{Binding}
use Rattle.hir_store.specs.declared.store.ExpressionStore.{ExpressionStore}
use Rattle.hir_store.specs.Unfolding.{place_of, name_in, tree_at}
use Rattle.hir_store.specs.Sources.{SameMaps}
use Rattle.hir_store.specs.Store.{Grows, NoDanglingIds, PlacesBinding, PlacesPat, Defines, definition_of, DefinesItsOwn, EachDefines}
use Rattle.hir_build.specs.Frame.{IsSound}
use Rattle.hir_build.specs.Origins.{origins_at}
use Rattle.hir_build.specs.Placed.{IsLet}
use Rattle.hir_build.specs.Building.{Builds}
use Rattle.hir_store.proofs.Lists.{same_extends, seam_at}
use Rattle.hir_store.proofs.Maps.{same_at_older}
use Rattle.hir_store.proofs.Defined.{own_later, defined_longer}
use Rattle.hir_store.proofs.Placing.{grows_by_binding, name_of_pat, name_of_binding, no_dangling_by_binding, no_dangling_by_pat, no_dangling_by_definition, names_by_definition}
use Rattle.hir_build.proofs.Placed.{placed_later}
use Rattle.hir_build.proofs.Builds.{builds_grown}

-- a write at the seam
write_seam : {A : Type 0} (xs : List A) (x y : A) → slice_set (xs ++ x ∷ []) (length xs) y ≡ xs ++ y ∷ []
write_seam [] x y = refl
write_seam (z ∷ xs) x y = ap (λ l. z ∷ l) (write_seam xs x y)

-- a list with one more behind has what it had, or that one behind the others
one_or_seam : {A : Type 0} (xs : List A) (x : A) (i : ℕ) (y : A) → slice_get (xs ++ x ∷ []) i ≡ Some y → (slice_get xs i ≡ Some y) ⊎ ((y ≡ x) × (i ≡ length xs))
one_or_seam [] x zero y is = inr (sym (same_Some x y is), refl)
one_or_seam [] x (suc i) y is = inl is
one_or_seam (z ∷ xs) x zero y is = inl is
one_or_seam (z ∷ xs) x (suc i) y is = next (one_or_seam xs x i y is) where
  next : (slice_get xs i ≡ Some y) ⊎ ((y ≡ x) × (i ≡ length xs)) → (slice_get xs i ≡ Some y) ⊎ ((y ≡ x) × (suc i ≡ suc (length xs)))
  next (inl there) = inl there
  next (inr at) = inr (at.0, ap suc at.1)

-- the number of the next fresh name, once a name is bound that is used or next
pub record IsNext (fresh next : ℕ) : Type 0 where
  pub later : fresh ≤ next
  pub most : next ≤ fresh + 1

pub is_next : (fresh number next : ℕ) → number ≤ fresh → next ≡ max fresh (number + 1) → IsNext fresh next
is_next fresh number next le is =
    let here : fresh ≤ fresh + 1 = omega arith in
    let there : number + 1 ≤ fresh + 1 = omega (arith, le) in
    let most : max fresh (number + 1) ≤ fresh + 1 = max-le here there in
    record { later = omega (arith, is, le-max_left fresh (number + 1)); most = omega (arith, is, most) }

-- a binding alone, where its pattern was refused
module _ (a b : ExpressionStore) (binding : BindingId) (name : Name) (one : PlacesBinding a (record { name = name; definition = None }) binding b) (same : SameMaps a b) where
  pub sound_binding : (fresh next : ℕ) → IsNext fresh next → IsSound a fresh → IsSound b next
  sound_binding fresh next n was = record {
    no_dangling = no_dangling_by_binding a b (record { name = name; definition = None }) binding one same was.no_dangling tt;
    defined = defined_longer a b one.pats (record { name = name; definition = None } ∷ [], one.bindings) was.defined;
    bound = omega (arith, n.most, was.bound, ap length one.bindings, length-append a.bindings (record { name = name; definition = None } ∷ []));
  }

  pub binding_built : (fresh next : ℕ) (file : HirFileId) (items : LangItems) → NoDanglingIds a → IsNext fresh next →
      Builds (record { store = a; fresh = fresh; file = file; items = items }) (record { store = b; fresh = next; file = file; items = items }) 0 1
  binding_built fresh next file items sound n = builds_grown (record { store = a; fresh = fresh; file = file; items = items }) b next 0 1 sound
      (grows_by_binding a b (record { name = name; definition = None }) binding one same) n.later n.most
      (omega (arith, ap length one.exprs)) (omega (arith, ap length one.pats)) (omega (arith, ap length one.bindings, length-append a.bindings (record { name = name; definition = None } ∷ [])))

module _ (a b c d : ExpressionStore) (binding : BindingId) (pat : PatId) (name : Name)
    (one : PlacesBinding a (record { name = name; definition = None }) binding b) (same_one : SameMaps a b)
    (two : PlacesPat b (Bind binding) pat c) (same_two : SameMaps b c)
    (three : Defines c binding pat d) (same_three : SameMaps c d) where
  bindings_are : d.bindings ≡ a.bindings ++ (record three.binding { definition = Some pat }) ∷ []
  bindings_are =
      three.bindings ∙ ap (λ k. slice_set c.bindings k (record three.binding { definition = Some pat })) one.place
      ∙ ap (λ bs. slice_set bs (length a.bindings) (record three.binding { definition = Some pat })) (two.bindings ∙ one.bindings)
      ∙ write_seam a.bindings (record { name = name; definition = None }) (record three.binding { definition = Some pat })

  pats_are : d.pats ≡ a.pats ++ Bind binding ∷ []
  pats_are = three.pats ∙ two.pats ∙ ap (λ ps. ps ++ Bind binding ∷ []) one.pats

  exprs_are : d.exprs ≡ a.exprs
  exprs_are = three.exprs ∙ two.exprs ∙ one.exprs

  let_grows : Grows a d
  let_grows = record {
    exprs = same_extends a.exprs d.exprs exprs_are;
    pats = (Bind binding ∷ [], pats_are);
    bindings = (record three.binding { definition = Some pat } ∷ [], bindings_are);
    older = same_at_older a d (record {
      sources = same_three.sources ∙ same_two.sources ∙ same_one.sources;
      capture_sources = same_three.capture_sources ∙ same_two.capture_sources ∙ same_one.capture_sources;
      captures = same_three.captures ∙ same_two.captures ∙ same_one.captures;
      mappings = same_three.mappings ∙ same_two.mappings ∙ same_one.mappings;
    });
  }

  let_sound : NoDanglingIds a → NoDanglingIds d
  let_sound was =
      let bound : number_of binding.raw < length b.bindings = omega (arith, one.place, ap length one.bindings, length-append a.bindings (record { name = name; definition = None } ∷ [])) in
      let there : number_of pat.raw < length c.pats = omega (arith, two.place, ap length two.pats, length-append b.pats (Bind binding ∷ [])) in
      no_dangling_by_definition c d binding pat three same_three (no_dangling_by_pat b c (Bind binding) pat two same_two
      (no_dangling_by_binding a b (record { name = name; definition = None }) binding one same_one was tt) bound) there

  -- the pattern is bound to the name
  let_named : name_in d pat ≡ Some name
  let_named = names_by_definition c d binding pat three same_three pat name (name_of_pat b c (Bind binding) pat two same_two
      ∙ name_of_binding a b (record { name = name; definition = None }) binding one same_one)

  defines_own : definition_of d binding ≡ Some (length a.pats)
  defines_own =
      ap (λ o. option_map (λ (p : PatId). number_of p.raw) (option_and_then (λ (x : Binding). x.definition) o)) (ap (λ bs. slice_get bs (number_of binding.raw)) bindings_are
      ∙ seam_at a.bindings (number_of binding.raw) (record three.binding { definition = Some pat }) one.place) ∙ ap Some (two.place ∙ ap length one.pats)

  let_defined : EachDefines a → EachDefines d
  let_defined was = record {
    each = λ number p is. decide number p (one_or_seam a.pats (Bind binding) number p (subst (λ ps. slice_get ps number ≡ Some p) pats_are is));
  } where
    decide : (number : ℕ) (p : Pat) → (slice_get a.pats number ≡ Some p) ⊎ ((p ≡ Bind binding) × (number ≡ length a.pats)) → DefinesItsOwn d number p
    decide number p (inl there) = own_later a d number p (record three.binding { definition = Some pat } ∷ [], bindings_are) (was.each number p there)
    decide number p (inr at) = subst (DefinesItsOwn d number) (sym at.0) (defines_own ∙ ap Some (sym at.1))

  pub sound_let : (fresh next : ℕ) → IsNext fresh next → IsSound a fresh → IsSound d next
  sound_let fresh next n was = record {
    no_dangling = let_sound was.no_dangling;
    defined = let_defined was.defined;
    bound = omega (arith, n.most, was.bound, ap length bindings_are, length-append a.bindings (record three.binding { definition = Some pat } ∷ []));
  }

  -- the statement is a `let` of the name
  pub let_is : (value : ExprId) → NoDanglingIds a → place_of value < length a.exprs → IsLet d (statement.Let pat value) name (tree_at a value) (origins_at a value)
  let_is value sound lt = record {
    pat = pat;
    value = value;
    is = refl;
    binds = let_named;
    placed = placed_later a d let_grows value (tree_at a value) (origins_at a value) (record { stands = record { within = lt; tree = refl; whole = sound.whole value lt }; comes = refl });
  }

  pub let_built : (fresh next : ℕ) (file : HirFileId) (items : LangItems) → NoDanglingIds a → IsNext fresh next →
      Builds (record { store = a; fresh = fresh; file = file; items = items }) (record { store = d; fresh = next; file = file; items = items }) 0 1
  let_built fresh next file items sound n = builds_grown (record { store = a; fresh = fresh; file = file; items = items }) d next 0 1 sound let_grows n.later n.most
      (omega (arith, ap length exprs_are)) (omega (arith, ap length pats_are, length-append a.pats (Bind binding ∷ [])))
      (omega (arith, ap length bindings_are, length-append a.bindings (record three.binding { definition = Some pat } ∷ [])))
