-- What placing an expression, a pattern or a binding does to a store.
use Rattle.std.proofs.Common.{◌≡◌, ℕ, ◌<◌, ◌≤◌, ◌⊎◌, inl, inr, eq-or-lt_of_le, List, [], ◌∷◌, ◌++◌, length, reverse, map, slice_get, slice_set, zero, suc, unwrap_or, Some, None, Option, option_map, IsTrue, refl, sym, ap, ap₂, ◌∙◌, subst, arith, length-append}
use Rattle.std.proofs.lemmas.Option.{slice_get-map, same_Some}
use Rattle.la_arena.specs.Idx.{number_of}
use Rattle.sym_core.specs.declared.name.Name.{Name}
use Rattle.hir_store.specs.declared.ids.ExprId.{ExprId}
use Rattle.hir_store.specs.declared.ids.PatId.{PatId}
use Rattle.hir_store.specs.declared.ids.BindingId.{BindingId}
use Rattle.hir_store.specs.declared.expr.Expr.{Expr}
use Rattle.hir_store.specs.declared.pat.Pat.{Pat}
use Rattle.hir_store.specs.declared.pat.Pat.TheVariants.{Bind}
use Rattle.hir_store.specs.declared.pat.Binding.{Binding}
use Rattle.hir_store.specs.declared.store.ExpressionStore.{ExpressionStore}
use Rattle.hir_store.specs.Tree.{is_whole}
use Rattle.hir_store.specs.Unfolding.{place_of, binding_name, bound_name, name_in, tree_in, tree_at, tree_over}
use Rattle.hir_store.specs.Sources.{NoDanglingKeys, SameAtOlder, SameMaps}
use Rattle.hir_store.specs.Store.{Grows, Stands, NoDanglingIds, BindsWithin, DefinedWithin, PlacesExpr, PlacesPat, PlacesBinding, Defines}
use Rattle.hir_store.proofs.Lists.{same_extends, seam_at}
use Rattle.hir_store.proofs.Nodes.{KeepsNames}
use Rattle.hir_store.proofs.Unfolds.{front_stays, seam, renamed}
use Rattle.hir_store.proofs.Maps.{same_at_older, maps_still}
use Rattle.hir_store.proofs.Grown.{names_kept}

names_same : (old new : ExpressionStore) → new.pats ≡ old.pats → new.bindings ≡ old.bindings → name_in new ≡ name_in old
names_same old new pats bindings = ap₂ {C = PatId → Option Name} (λ (ps : List Pat) (bs : List Binding) (pat : PatId). bound_name bs (slice_get ps (number_of pat.raw))) pats bindings

-- patterns and bindings that name what is there go on to, where no arena is shorter
binds_later : (old new : ExpressionStore) (pat : Pat) → length old.bindings ≤ length new.bindings → BindsWithin old pat → BindsWithin new pat
binds_later old new (Bind id) le within = omega (arith, le, within)

defined_later : (old new : ExpressionStore) (definition : Option PatId) → length old.pats ≤ length new.pats → DefinedWithin old definition → DefinedWithin new definition
defined_later old new None le within = tt
defined_later old new (Some pat) le within = omega (arith, le, within)

abbrev PatternsWithin : ExpressionStore → Type 0
PatternsWithin store = (number : ℕ) (pat : Pat) → slice_get store.pats number ≡ Some pat → BindsWithin store pat

abbrev DefinitionsWithin : ExpressionStore → Type 0
DefinitionsWithin store = (number : ℕ) (binding : Binding) → slice_get store.bindings number ≡ Some binding → DefinedWithin store binding.definition

module _ (old new : ExpressionStore) (pats : new.pats ≡ old.pats) (bindings : new.bindings ≡ old.bindings) where
  patterns_still : PatternsWithin old → PatternsWithin new
  patterns_still was number pat is = binds_later old new pat (omega (arith, ap length bindings)) (was number pat (subst (λ ps. slice_get ps number ≡ Some pat) pats is))

  definitions_still : DefinitionsWithin old → DefinitionsWithin new
  definitions_still was number binding is = defined_later old new binding.definition (omega (arith, ap length pats)) (was number binding (subst (λ bs. slice_get bs number ≡ Some binding) bindings is))

-- a list with one more behind has what it had, or that one
one_of : {A : Type 0} (xs : List A) (x : A) (i : ℕ) (y : A) → slice_get (xs ++ x ∷ []) i ≡ Some y → (slice_get xs i ≡ Some y) ⊎ (y ≡ x)
one_of [] x zero y is = inr (sym (same_Some x y is))
one_of [] x (suc i) y is = inl is
one_of (z ∷ xs) x zero y is = inl is
one_of (z ∷ xs) x (suc i) y is = one_of xs x i y is

-- the names of bindings, in their order
abbrev names_of : List Binding → List Name
names_of bindings = map (λ (b : Binding). b.name) bindings

module _ (old new : ExpressionStore) (e : Expr) (id : ExprId) (places : PlacesExpr old e id new) where
  pub grows_by_expr : SameAtOlder old new → Grows old new
  grows_by_expr older = record {
    exprs = (e ∷ [], places.exprs);
    pats = same_extends old.pats new.pats places.pats;
    bindings = same_extends old.bindings new.bindings places.bindings;
    older = older;
  }

  unfolds : (i : ExprId) → tree_at new i ≡ tree_in (name_in old) (reverse (old.exprs ++ e ∷ [])) i
  unfolds i = ap₂ (λ names es. tree_in names (reverse es) i) (names_same old new places.pats places.bindings) places.exprs

  at_seam : (i : ExprId) → place_of i ≡ length old.exprs → tree_at new i ≡ tree_over old e
  at_seam i is = unfolds i ∙ seam (name_in old) old.exprs e i is

  -- the index unfolds to the expression over the old store
  pub placed : tree_at new id ≡ tree_over old e
  placed = at_seam id places.place

  -- an older index unfolds to what it did
  pub older_stays : (i : ExprId) → place_of i < length old.exprs → tree_at new i ≡ tree_at old i
  older_stays i lt = unfolds i ∙ front_stays (name_in old) old.exprs (e ∷ []) i lt

  pub stands_placed : IsTrue (is_whole (tree_over old e)) → Stands new id (tree_over old e)
  stands_placed whole = record {
    within = omega (arith, places.place, ap length places.exprs, length-append old.exprs (e ∷ []));
    tree = placed;
    whole = whole;
  }

  is_whole_at : NoDanglingIds old → IsTrue (is_whole (tree_over old e)) → (i : ExprId) → (place_of i ≡ length old.exprs) ⊎ (place_of i < length old.exprs) → IsTrue (is_whole (tree_at new i))
  is_whole_at was whole i (inl newest) = subst (λ t. IsTrue (is_whole t)) (sym (at_seam i newest)) whole
  is_whole_at was whole i (inr older) = subst (λ t. IsTrue (is_whole t)) (sym (older_stays i older)) (was.whole i older)

  pub no_dangling_later : NoDanglingKeys new → NoDanglingIds old → IsTrue (is_whole (tree_over old e)) → NoDanglingIds new
  no_dangling_later maps was whole = record {
    whole = λ i lt.
        let within : place_of i ≤ length old.exprs = omega (arith, lt, ap length places.exprs, length-append old.exprs (e ∷ [])) in
        is_whole_at was whole i (eq-or-lt_of_le within);
    patterns = patterns_still old new places.pats places.bindings was.patterns;
    definitions = definitions_still old new places.pats places.bindings was.definitions;
    maps = maps;
  }

-- where no expression changes, and patterns go on to bind names, each index has its whole tree
whole_still : (old new : ExpressionStore) → new.exprs ≡ old.exprs → KeepsNames (name_in old) (name_in new) → NoDanglingIds old → (id : ExprId) → place_of id < length new.exprs → IsTrue (is_whole (tree_at new id))
whole_still old new is names was id lt =
    let before : place_of id < length old.exprs = omega (arith, lt, ap length is) in
    let same : tree_at new id ≡ tree_at old id = ap (λ es. tree_in (name_in new) (reverse es) id) is ∙ renamed (name_in old) (name_in new) names (reverse old.exprs) id (was.whole id before) in
    subst (λ t. IsTrue (is_whole t)) (sym same) (was.whole id before)

module _ (old new : ExpressionStore) (pat : Pat) (id : PatId) (places : PlacesPat old pat id new) (maps : SameMaps old new) where
  pub grows_by_pat : Grows old new
  grows_by_pat = record {
    exprs = same_extends old.exprs new.exprs places.exprs;
    pats = (pat ∷ [], places.pats);
    bindings = same_extends old.bindings new.bindings places.bindings;
    older = same_at_older old new maps;
  }

  -- the pattern binds the name that its binding has
  pub name_of_pat : name_in new id ≡ bound_name old.bindings (Some pat)
  name_of_pat = ap₂ bound_name places.bindings (ap (λ ps. slice_get ps (number_of id.raw)) places.pats ∙ seam_at old.pats (number_of id.raw) pat places.place)

  pub no_dangling_by_pat : NoDanglingIds old → BindsWithin old pat → NoDanglingIds new
  no_dangling_by_pat was within = record {
    whole = whole_still old new places.exprs (names_kept old new grows_by_pat) was;
    patterns = λ number p is. binds_later old new p (omega (arith, ap length places.bindings)) (one_more_pat number p (subst (λ ps. slice_get ps number ≡ Some p) places.pats is));
    definitions = λ number b is. defined_later old new b.definition (omega (arith, ap length places.pats, length-append old.pats (pat ∷ []))) (was.definitions number b (subst (λ bs. slice_get bs number ≡ Some b) places.bindings is));
    maps = maps_still old new maps (omega (arith, ap length places.exprs)) was.maps;
  } where
    one_more_pat : (number : ℕ) (p : Pat) → slice_get (old.pats ++ pat ∷ []) number ≡ Some p → BindsWithin old p
    one_more_pat number p is = decide (one_of old.pats pat number p is) where
      decide : (slice_get old.pats number ≡ Some p) ⊎ (p ≡ pat) → BindsWithin old p
      decide (inl before) = was.patterns number p before
      decide (inr newest) = subst (BindsWithin old) (sym newest) within

module _ (old new : ExpressionStore) (b : Binding) (id : BindingId) (places : PlacesBinding old b id new) (maps : SameMaps old new) where
  pub grows_by_binding : Grows old new
  grows_by_binding = record {
    exprs = same_extends old.exprs new.exprs places.exprs;
    pats = same_extends old.pats new.pats places.pats;
    bindings = (b ∷ [], places.bindings);
    older = same_at_older old new maps;
  }

  -- the binding has its name
  pub name_of_binding : binding_name new.bindings id ≡ Some b.name
  name_of_binding = ap (option_map (λ (c : Binding). c.name)) (ap (λ bs. slice_get bs (number_of id.raw)) places.bindings ∙ seam_at old.bindings (number_of id.raw) b places.place)

  pub no_dangling_by_binding : NoDanglingIds old → DefinedWithin old b.definition → NoDanglingIds new
  no_dangling_by_binding was within = record {
    whole = whole_still old new places.exprs (names_kept old new grows_by_binding) was;
    patterns = λ number p is. binds_later old new p (omega (arith, ap length places.bindings, length-append old.bindings (b ∷ []))) (was.patterns number p (subst (λ ps. slice_get ps number ≡ Some p) places.pats is));
    definitions = λ number c is. defined_later old new c.definition (omega (arith, ap length places.pats)) (one_more_binding number c (subst (λ bs. slice_get bs number ≡ Some c) places.bindings is));
    maps = maps_still old new maps (omega (arith, ap length places.exprs)) was.maps;
  } where
    one_more_binding : (number : ℕ) (c : Binding) → slice_get (old.bindings ++ b ∷ []) number ≡ Some c → DefinedWithin old c.definition
    one_more_binding number c is = decide (one_of old.bindings b number c is) where
      decide : (slice_get old.bindings number ≡ Some c) ⊎ (c ≡ b) → DefinedWithin old c.definition
      decide (inl before) = was.definitions number c before
      decide (inr newest) = subst (λ (d : Binding). DefinedWithin old d.definition) (sym newest) within

-- a binding that gets a definition keeps its name
names_still : (bs : List Binding) (k : ℕ) (b : Binding) (pat : PatId) → slice_get bs k ≡ Some b → names_of (slice_set bs k (record b { definition = Some pat })) ≡ names_of bs
names_still [] k b pat is = refl
names_still (c ∷ bs) zero b pat is = ap (λ n. n ∷ names_of bs) (sym (some_name is)) where
  some_name : Some c ≡ Some b → c.name ≡ b.name
  some_name e = ap (λ o. unwrap_or (option_map (λ (x : Binding). x.name) o) c.name) e
names_still (c ∷ bs) (suc k) b pat is = ap (λ l. c.name ∷ l) (names_still bs k b pat is)

-- a list has after a write what was written, or what it had
one_written : {A : Type 0} (xs : List A) (k i : ℕ) (x y : A) → slice_get (slice_set xs k x) i ≡ Some y → (slice_get xs i ≡ Some y) ⊎ (y ≡ x)
one_written [] k i x y is = inl is
one_written (z ∷ xs) zero zero x y is = inr (sym (same_Some x y is))
one_written (z ∷ xs) zero (suc i) x y is = inl is
one_written (z ∷ xs) (suc k) zero x y is = inl is
one_written (z ∷ xs) (suc k) (suc i) x y is = one_written xs k i x y is

length_written : {A : Type 0} (xs : List A) (k : ℕ) (x : A) → length (slice_set xs k x) ≡ length xs
length_written [] k x = refl
length_written (z ∷ xs) zero x = refl
length_written (z ∷ xs) (suc k) x = ap suc (length_written xs k x)

module _ (old new : ExpressionStore) (id : BindingId) (pat : PatId) (defines : Defines old id pat new) (maps : SameMaps old new) where
  same_names : names_of new.bindings ≡ names_of old.bindings
  same_names = ap names_of defines.bindings ∙ names_still old.bindings (number_of id.raw) defines.binding pat defines.was

  pub names_by_definition : KeepsNames (name_in old) (name_in new)
  names_by_definition p name is = ap (bound_name new.bindings) (ap (λ ps. slice_get ps (number_of p.raw)) defines.pats) ∙ still (slice_get old.pats (number_of p.raw)) ∙ is where
    still : (there : Option Pat) → bound_name new.bindings there ≡ bound_name old.bindings there
    still None = refl
    still (Some (Bind b)) = sym (slice_get-map (λ (c : Binding). c.name) new.bindings (number_of b.raw)) ∙ ap (λ ns. slice_get ns (number_of b.raw)) same_names ∙ slice_get-map (λ (c : Binding). c.name) old.bindings (number_of b.raw)

  pub no_dangling_by_definition : NoDanglingIds old → number_of pat.raw < length old.pats → NoDanglingIds new
  no_dangling_by_definition was within = record {
    whole = whole_still old new defines.exprs names_by_definition was;
    patterns = λ number p is. binds_later old new p (omega (arith, ap length defines.bindings, length_written old.bindings (number_of id.raw) (record defines.binding { definition = Some pat }))) (was.patterns number p (subst (λ ps. slice_get ps number ≡ Some p) defines.pats is));
    definitions = λ number b is. defined_later old new b.definition (omega (arith, ap length defines.pats)) (defined number b (subst (λ bs. slice_get bs number ≡ Some b) defines.bindings is));
    maps = maps_still old new maps (omega (arith, ap length defines.exprs)) was.maps;
  } where
    defined : (number : ℕ) (b : Binding) → slice_get (slice_set old.bindings (number_of id.raw) (record defines.binding { definition = Some pat })) number ≡ Some b → DefinedWithin old b.definition
    defined number b is = decide (one_written old.bindings (number_of id.raw) number (record defines.binding { definition = Some pat }) b is) where
      decide : (slice_get old.bindings number ≡ Some b) ⊎ (b ≡ record defines.binding { definition = Some pat }) → DefinedWithin old b.definition
      decide (inl before) = was.definitions number b before
      decide (inr newest) = subst (λ (d : Binding). DefinedWithin old d.definition) (sym newest) within
