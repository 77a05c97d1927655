-- Origins of older expressions stay where a store grows.
use Rattle.std.proofs.Common.{◌≡◌, ℕ, ◌<◌, ◌≤◌, Bool, true, false, cond, nat_eq, List, [], ◌∷◌, ◌++◌, length, reverse, refl, sym, ap, ap₂, ◌∙◌, arith, length-append, eq-eqb, ne_eqb, eqb-true}
use Rattle.std.proofs.lemmas.List.{reverse-append, length-reverse}
use Rattle.std.proofs.lemmas.Bool.{cond-true, cond-false}
use Rattle.hir_store.specs.declared.ids.ExprId.{ExprId}
use Rattle.hir_store.specs.declared.expr.Expr.{Expr}
use Rattle.hir_store.specs.declared.store.ExpressionStore.{ExpressionStore}
use Rattle.hir_store.specs.Unfolding.{place_of}
use Rattle.hir_store.specs.Entries.{entry_at}
use Rattle.hir_store.specs.Sources.{SameBelow, SameAtOlder}
use Rattle.hir_store.specs.Store.{Grows, PlacesExpr}
use Rattle.hir_build.specs.Origins.{Origin, origin_at, node_origins, origins_in, origins_at, origins_over}

-- two functions with the same values are one
pub same_functions : {A B : Type 0} (f g : A → B) → ((a : A) → f a ≡ g a) → f ≡ g
same_functions f g same = λ i a. same a i

same_step : (b : Bool) (own : ℕ) (limit : ℕ) (x y z w : List Origin) → b ≡ nat_eq own limit → (own ≡ limit → x ≡ y) → z ≡ w → cond b x z ≡ cond b y w
same_step true own limit x y z w is here there = here (eqb-true own limit (sym is))
same_step false own limit x y z w is here there = there

-- maps that hold the same below a limit give the same origins among as many expressions
pub same_origins : (old new : ExpressionStore) (limit : ℕ) → SameBelow limit (entry_at old.expr_map_back) (entry_at new.expr_map_back) → SameBelow limit (entry_at old.implicit_capture_to_source) (entry_at new.implicit_capture_to_source) →
    (es : List Expr) → length es ≤ limit → (id : ExprId) → origins_in new es id ≡ origins_in old es id
same_origins old new limit sources captures [] le id = refl
same_origins old new limit sources captures (e ∷ es) le id =
    let before : (part : ExprId) → origins_in new es part ≡ origins_in old es part = same_origins old new limit sources captures es (omega (arith, le)) in
    let parts : node_origins (origins_in new es) e ≡ node_origins (origins_in old es) e = ap (λ f. node_origins f e) (same_functions (origins_in new es) (origins_in old es) before) in
    same_step (nat_eq (place_of id) (length es)) (place_of id) (length es) _ _ _ _ refl (λ is. ap₂ (λ o os. o ∷ os) (own (omega (arith, is, le))) parts) (before id)
  where
    own : place_of id < limit → origin_at new (place_of id) ≡ origin_at old (place_of id)
    own lt = ap₂ (λ s c. record { source = s; capture = c }) (sources (place_of id) lt) (captures (place_of id) lt)

-- the origins among old expressions, where the store grew
old_origins : (old new : ExpressionStore) → SameAtOlder old new → (id : ExprId) → origins_in new (reverse old.exprs) id ≡ origins_at old id
old_origins old new older id = same_origins old new (length old.exprs) older.sources older.capture_sources (reverse old.exprs) (omega (arith, length-reverse old.exprs)) id

-- expressions behind change no origins
origins_behind : (store : ExpressionStore) (more es : List Expr) (id : ExprId) → place_of id < length es → origins_in store (more ++ es) id ≡ origins_in store es id
origins_behind store [] es id lt = refl
origins_behind store (e ∷ more) es id lt =
    let other : place_of id ≡ length (more ++ es) → ⊥ = λ is. omega (arith, is, lt, length-append more es) in
    cond-false (nat_eq (place_of id) (length (more ++ es))) _ (origins_in store (more ++ es) id) (ne_eqb (place_of id) (length (more ++ es)) other) ∙ origins_behind store more es id lt

-- the same with the oldest first
origins_front : (store : ExpressionStore) (front back : List Expr) (id : ExprId) → place_of id < length front → origins_in store (reverse (front ++ back)) id ≡ origins_in store (reverse front) id
origins_front store front back id lt =
    let within : place_of id < length (reverse front) = omega (arith, lt, length-reverse front) in
    ap (λ es. origins_in store es id) (reverse-append front back) ∙ origins_behind store (reverse back) (reverse front) id within

-- a store that grows keeps the origins of an older index
pub origins_later : (old new : ExpressionStore) (id : ExprId) → Grows old new → place_of id < length old.exprs → origins_at new id ≡ origins_at old id
origins_later old new id grows lt =
    ap (λ es. origins_in new (reverse es) id) grows.exprs.1 ∙ origins_front new old.exprs grows.exprs.0 id lt ∙ old_origins old new grows.older id

-- an expression placed behind the others has its own origin in front of those of its parts
pub origins_placed : (old new : ExpressionStore) (e : Expr) (id : ExprId) (own : Origin) → PlacesExpr old e id new → SameAtOlder old new → origin_at new (length old.exprs) ≡ own →
    origins_at new id ≡ own ∷ origins_over old e
origins_placed old new e id own places older is =
    let among : (part : ExprId) → origins_in new (reverse old.exprs) part ≡ origins_at old part = old_origins old new older in
    let parts : node_origins (origins_in new (reverse old.exprs)) e ≡ origins_over old e = ap (λ f. node_origins f e) (same_functions (origins_in new (reverse old.exprs)) (origins_at old) among) in
    let at : place_of id ≡ length (reverse old.exprs) = places.place ∙ sym (length-reverse old.exprs) in
    ap (λ es. origins_in new (reverse es) id) places.exprs ∙ ap (λ es. origins_in new es id) (reverse-append old.exprs (e ∷ []))
    ∙ cond-true (nat_eq (place_of id) (length (reverse old.exprs))) (origin_at new (place_of id) ∷ node_origins (origins_in new (reverse old.exprs)) e) _
    (eq-eqb (place_of id) (length (reverse old.exprs)) at) ∙ ap₂ (λ o os. o ∷ os) (ap (origin_at new) places.place ∙ is) parts
