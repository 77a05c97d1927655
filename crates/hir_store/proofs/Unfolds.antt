-- The tree of an index does not depend on the expressions behind it.
use Rattle.std.proofs.Common.{◌≡◌, ℕ, ◌+◌, ◌<◌, Bool, true, false, cond, List, [], ◌∷◌, ◌++◌, length, reverse, nat_eq, Option, IsTrue, refl, sym, ap, ◌∙◌, arith, true≢false, eq-eqb, ne_eqb, eqb-true, length-append}
use Rattle.std.proofs.lemmas.List.{reverse-append, length-reverse}
use Rattle.std.proofs.lemmas.Bool.{cond-true, cond-false}
use Rattle.sym_core.specs.declared.name.Name.{Name}
use Rattle.hir_store.specs.declared.ids.ExprId.{ExprId}
use Rattle.hir_store.specs.declared.ids.PatId.{PatId}
use Rattle.hir_store.specs.declared.expr.Expr.{Expr}
use Rattle.hir_store.specs.Tree.{Tree, is_whole}
use Rattle.hir_store.specs.Unfolding.{place_of, node, tree_in}
use Rattle.hir_store.proofs.Nodes.{KeepsNames, KeepsTrees, WholeBelow, same_node}

-- the newest expression, where the place is its own
pub newest : (names : PatId → Option Name) (e : Expr) (older : List Expr) (id : ExprId) → place_of id ≡ length older → tree_in names (e ∷ older) id ≡ node names (tree_in names older) e
newest names e older id is = cond-true (nat_eq (place_of id) (length older)) (node names (tree_in names older) e) (tree_in names older id) (eq-eqb (place_of id) (length older) is)

-- expressions behind change no tree
pub behind : (names : PatId → Option Name) (more es : List Expr) (id : ExprId) → place_of id < length es → tree_in names (more ++ es) id ≡ tree_in names es id
behind names [] es id lt = refl
behind names (e ∷ more) es id lt =
    let other : place_of id ≡ length (more ++ es) → ⊥ = λ is. omega (arith, is, lt, length-append more es) in
    cond-false (nat_eq (place_of id) (length (more ++ es))) (node names (tree_in names (more ++ es)) e) (tree_in names (more ++ es) id) (ne_eqb (place_of id) (length (more ++ es)) other) ∙ behind names more es id lt

whole_step : (b : Bool) (t u : Tree) (limit place : ℕ) → b ≡ nat_eq place limit → (IsTrue (is_whole u) → place < limit) → IsTrue (is_whole (cond b t u)) → place < limit + 1
whole_step true t u limit place is below whole = omega (arith, eqb-true place limit (sym is))
whole_step false t u limit place is below whole = omega (arith, below whole)

-- an index with a whole tree has an expression
pub whole_within : (names : PatId → Option Name) (es : List Expr) → WholeBelow (length es) (tree_in names es)
whole_within names [] id whole = absurd (true≢false (sym whole))
whole_within names (e ∷ older) id whole =
    let below : place_of id < length older + 1 = whole_step (nat_eq (place_of id) (length older)) (node names (tree_in names older) e) (tree_in names older id) (length older) (place_of id) refl (whole_within names older id) whole in
    omega (arith, below)

renamed_step : (b : Bool) (t u v w : Tree) → (IsTrue (is_whole t) → u ≡ t) → (IsTrue (is_whole v) → w ≡ v) → IsTrue (is_whole (cond b t v)) → cond b u w ≡ cond b t v
renamed_step true t u v w first second whole = first whole
renamed_step false t u v w first second whole = second whole

-- names that stay keep whole trees
pub renamed : (names later : PatId → Option Name) → KeepsNames names later → (es : List Expr) → KeepsTrees (tree_in names es) (tree_in later es)
renamed names later stay [] id whole = refl
renamed names later stay (e ∷ older) id whole =
    renamed_step (nat_eq (place_of id) (length older)) (node names (tree_in names older) e) (node later (tree_in later older) e) (tree_in names older id) (tree_in later older id) (same_node names later stay (tree_in names older) (tree_in later older) (renamed names later stay older) e) (renamed names later stay older id) whole

-- the same with the oldest first
pub front_stays : (names : PatId → Option Name) (front back : List Expr) (id : ExprId) → place_of id < length front → tree_in names (reverse (front ++ back)) id ≡ tree_in names (reverse front) id
front_stays names front back id lt =
    let within : place_of id < length (reverse front) = omega (arith, lt, length-reverse front) in
    ap (λ es. tree_in names es id) (reverse-append front back) ∙ behind names (reverse back) (reverse front) id within

pub seam : (names : PatId → Option Name) (front : List Expr) (e : Expr) (id : ExprId) → place_of id ≡ length front → tree_in names (reverse (front ++ e ∷ [])) id ≡ node names (tree_in names (reverse front)) e
seam names front e id is =
    let place : place_of id ≡ length (reverse front) = is ∙ sym (length-reverse front) in
    ap (λ es. tree_in names es id) (reverse-append front (e ∷ [])) ∙ newest names e (reverse front) id place
