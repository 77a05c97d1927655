-- A store that grows keeps its names and its whole trees.
use Rattle.std.proofs.Common.{◌≡◌, ◌+◌, ◌<◌, ◌≤◌, List, [], ◌∷◌, ◌++◌, length, reverse, map, slice_get, Some, None, Option, is_some, IsTrue, refl, sym, ap, ◌∙◌, subst, arith, length-append, append_assoc, ap₂, true≢false}
use Rattle.std.proofs.lemmas.Option.{slice_get-map}
use Rattle.std.proofs.lemmas.List.{length-reverse, map-append}
use Rattle.std.proofs.lemmas.Bool.{and_from}
use Rattle.la_arena.specs.Idx.{number_of}
use Rattle.sym_core.specs.declared.name.Name.{Name}
use Rattle.hir_store.specs.declared.ids.ExprId.{ExprId}
use Rattle.hir_store.specs.declared.ids.PatId.{PatId}
use Rattle.hir_store.specs.declared.ids.BindingId.{BindingId}
use Rattle.hir_store.specs.declared.expr.Expr.{Expr}
use Rattle.hir_store.specs.declared.pat.Pat.{Pat}
use Rattle.hir_store.specs.declared.pat.Pat.TheVariants.{Bind}
use Rattle.hir_store.specs.declared.pat.Binding.{Binding}
use Rattle.hir_store.specs.declared.store.ExpressionStore.{ExpressionStore}
use Rattle.hir_store.specs.Tree.{Tree, Trees, Empty, More, trees, is_whole, all_whole}
use Rattle.hir_store.specs.Unfolding.{place_of, binding_name, bound_name, name_in, node, trees_of, tree_in, tree_at, tree_over}
use Rattle.hir_store.specs.PartsBelow.{PartsBelow}
use Rattle.hir_store.specs.Store.{Extends, Grows, Stands, AllStand}
use Rattle.hir_store.proofs.Lists.{extends_self, extends_on, kept_on, splits}
use Rattle.hir_store.proofs.Maps.{older_self, older_on}
use Rattle.hir_store.proofs.Nodes.{KeepsNames, KeepsTrees, WholeBelow, names_same, same_node, node_below}
use Rattle.hir_store.proofs.Unfolds.{whole_within, renamed, front_stays, seam}

-- a store that grew has as many expressions at least
pub longer : (old new : ExpressionStore) → Grows old new → length old.exprs ≤ length new.exprs
longer old new grows = omega (arith, ap length grows.exprs.1, length-append old.exprs grows.exprs.0)

pub grows_self : (store : ExpressionStore) → Grows store store
grows_self store = record { exprs = extends_self store.exprs; pats = extends_self store.pats; bindings = extends_self store.bindings; older = older_self store }

pub grows_on : (a b c : ExpressionStore) → Grows a b → Grows b c → Grows a c
grows_on a b c first second = record {
  exprs = extends_on a.exprs b.exprs c.exprs first.exprs second.exprs;
  pats = extends_on a.pats b.pats c.pats first.pats second.pats;
  bindings = extends_on a.bindings b.bindings c.bindings first.bindings second.bindings;
  older = older_on a b c (longer a b first) first.older second.older;
}

-- the names of bindings, in their order
abbrev names_of : List Binding → List Name
names_of bindings = map (λ (b : Binding). b.name) bindings

binding_kept : (old new : List Binding) (id : BindingId) (name : Name) → Extends old new → binding_name old id ≡ Some name → binding_name new id ≡ Some name
binding_kept old new id name longer is =
    let before : slice_get (names_of old) (number_of id.raw) ≡ Some name = slice_get-map (λ (b : Binding). b.name) old (number_of id.raw) ∙ is in
    let names : Extends (names_of old) (names_of new) = (names_of longer.0, ap names_of longer.1 ∙ map-append (λ (b : Binding). b.name) old longer.0) in
    sym (slice_get-map (λ (b : Binding). b.name) new (number_of id.raw)) ∙ kept_on (names_of old) (names_of new) (number_of id.raw) name names before

name_kept : (old new : ExpressionStore) → Grows old new → (pat : PatId) (name : Name) (there : Option Pat) → slice_get old.pats (number_of pat.raw) ≡ there → bound_name old.bindings there ≡ Some name → name_in new pat ≡ Some name
name_kept old new grows pat name None is bound = absurd (true≢false (sym (ap is_some bound)))
name_kept old new grows pat name (Some (Bind id)) is bound =
    let later : slice_get new.pats (number_of pat.raw) ≡ Some (Bind id) = kept_on old.pats new.pats (number_of pat.raw) (Bind id) grows.pats is in
    ap (bound_name new.bindings) later ∙ binding_kept old.bindings new.bindings id name grows.bindings bound

-- a pattern that binds a name goes on to bind it
pub names_kept : (old new : ExpressionStore) → Grows old new → KeepsNames (name_in old) (name_in new)
names_kept old new grows pat name is = name_kept old new grows pat name (slice_get old.pats (number_of pat.raw)) refl is

pub within_of_whole : (store : ExpressionStore) (id : ExprId) → IsTrue (is_whole (tree_at store id)) → place_of id < length store.exprs
within_of_whole store id whole = omega (arith, whole_within (name_in store) (reverse store.exprs) id whole, length-reverse store.exprs)

-- a whole tree stays
pub stays : (old new : ExpressionStore) → Grows old new → KeepsTrees (tree_at old) (tree_at new)
stays old new grows id whole =
    let longer : tree_at new id ≡ tree_in (name_in new) (reverse (old.exprs ++ grows.exprs.0)) id = ap (λ es. tree_in (name_in new) (reverse es) id) grows.exprs.1 in
    longer ∙ front_stays (name_in new) old.exprs grows.exprs.0 id (within_of_whole old id whole) ∙ renamed (name_in old) (name_in new) (names_kept old new grows) (reverse old.exprs) id whole

pub within_later : (old new : ExpressionStore) (id : ExprId) → Grows old new → place_of id < length old.exprs → place_of id < length new.exprs
within_later old new id grows lt =
    let longer : length new.exprs ≡ length old.exprs + length grows.exprs.0 = ap length grows.exprs.1 ∙ length-append old.exprs grows.exprs.0 in
    omega (arith, lt, longer)

pub stands_later : (old new : ExpressionStore) (id : ExprId) (t : Tree) → Grows old new → Stands old id t → Stands new id t
stands_later old new id t grows was =
    let whole : IsTrue (is_whole (tree_at old id)) = subst (λ u. IsTrue (is_whole u)) (sym was.tree) was.whole in
    record { within = within_later old new id grows was.within; tree = stays old new grows id whole ∙ was.tree; whole = was.whole }

pub stands_as : (store : ExpressionStore) (id : ExprId) (t u : Tree) → t ≡ u → Stands store id t → Stands store id u
stands_as store id t u same was = subst (Stands store id) same was

pub all_later : (old new : ExpressionStore) (ids : List ExprId) (ts : Trees) → Grows old new → AllStand old ids ts → AllStand new ids ts
all_later old new [] Empty grows was = tt
all_later old new (id ∷ ids) (More t ts) grows was = (stands_later old new id t grows was.0, all_later old new ids ts grows was.1)
all_later old new [] (More t ts) grows was = absurd was
all_later old new (id ∷ ids) Empty grows was = absurd was

-- one more index behind
pub all_on : (store : ExpressionStore) (ids : List ExprId) (ts : List Tree) (id : ExprId) (t : Tree) → AllStand store ids (trees ts) → Stands store id t → AllStand store (ids ++ id ∷ []) (trees (ts ++ t ∷ []))
all_on store [] [] id t was one = (one, tt)
all_on store (i ∷ ids) (u ∷ ts) id t was one = (was.0, all_on store ids ts id t was.1 one)
all_on store [] (u ∷ ts) id t was one = absurd was
all_on store (i ∷ ids) [] id t was one = absurd was

-- the parts that indexes unfold to are the trees that they stand for
pub trees_of_all : (store : ExpressionStore) (ids : List ExprId) (ts : Trees) → AllStand store ids ts → trees_of (tree_at store) ids ≡ ts
trees_of_all store [] Empty all = refl
trees_of_all store (id ∷ ids) (More t ts) all = ap₂ More all.0.tree (trees_of_all store ids ts all.1)
trees_of_all store [] (More t ts) all = absurd all
trees_of_all store (id ∷ ids) Empty all = absurd all

pub whole_of_all : (store : ExpressionStore) (ids : List ExprId) (ts : Trees) → AllStand store ids ts → IsTrue (all_whole ts)
whole_of_all store [] Empty all = refl
whole_of_all store (id ∷ ids) (More t ts) all = and_from (is_whole t) (all_whole ts) all.0.whole (whole_of_all store ids ts all.1)
whole_of_all store [] (More t ts) all = absurd all
whole_of_all store (id ∷ ids) Empty all = absurd all

-- Reading

-- an index with a whole tree unfolds to its expression over the whole store
pub tree_is : (store : ExpressionStore) (id : ExprId) (e : Expr) → slice_get store.exprs (place_of id) ≡ Some e → IsTrue (is_whole (tree_at store id)) → tree_at store id ≡ tree_over store e
tree_is store id e is whole =
    let s = splits store.exprs (place_of id) e is in
    let cut : store.exprs ≡ (s.front ++ e ∷ []) ++ s.back = s.there ∙ sym (append_assoc s.front (e ∷ []) s.back) in
    let lt : place_of id < length (s.front ++ e ∷ []) = omega (arith, s.place, length-append s.front (e ∷ [])) in
    let here : tree_at store id ≡ node (name_in store) (tree_in (name_in store) (reverse s.front)) e =
    ap (λ es. tree_in (name_in store) (reverse es) id) cut ∙ front_stays (name_in store) (s.front ++ e ∷ []) s.back id lt ∙ seam (name_in store) s.front e id (sym s.place) in
    let older : KeepsTrees (tree_in (name_in store) (reverse s.front)) (tree_at store) = λ part was.
    let low : place_of part < length s.front = omega (arith, whole_within (name_in store) (reverse s.front) part was, length-reverse s.front) in
    ap (λ es. tree_in (name_in store) (reverse es) part) s.there ∙ front_stays (name_in store) s.front (e ∷ s.back) part low in
    here ∙ sym (same_node (name_in store) (name_in store) (names_same (name_in store)) (tree_in (name_in store) (reverse s.front)) (tree_at store) older e (subst (λ t. IsTrue (is_whole t)) here whole))

-- the parts of such an expression stand before it
pub parts_before : (store : ExpressionStore) (id : ExprId) (e : Expr) → slice_get store.exprs (place_of id) ≡ Some e → IsTrue (is_whole (tree_at store id)) → PartsBelow (place_of id) e
parts_before store id e is whole =
    let s = splits store.exprs (place_of id) e is in
    let cut : store.exprs ≡ (s.front ++ e ∷ []) ++ s.back = s.there ∙ sym (append_assoc s.front (e ∷ []) s.back) in
    let lt : place_of id < length (s.front ++ e ∷ []) = omega (arith, s.place, length-append s.front (e ∷ [])) in
    let here : tree_at store id ≡ node (name_in store) (tree_in (name_in store) (reverse s.front)) e =
    ap (λ es. tree_in (name_in store) (reverse es) id) cut ∙ front_stays (name_in store) (s.front ++ e ∷ []) s.back id lt ∙ seam (name_in store) s.front e id (sym s.place) in
    let below : WholeBelow (place_of id) (tree_in (name_in store) (reverse s.front)) = λ part was.
    omega (arith, whole_within (name_in store) (reverse s.front) part was, length-reverse s.front, s.place) in
    node_below (place_of id) (name_in store) (tree_in (name_in store) (reverse s.front)) below e (subst (λ t. IsTrue (is_whole t)) here whole)
