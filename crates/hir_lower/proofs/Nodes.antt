-- A node of parts that are placed: its tree and its origins are those of the parts together.
use Rattle.std.proofs.Common.{◌≡◌, ℕ, ◌<◌, Bool, true, false, cond, ◌++◌, List, [], ◌∷◌, length, None, refl, sym, ap, ap₂, subst, subst₂, append-nil}
use Rattle.sym_core.specs.declared.files.HirFileId.{HirFileId}
use Rattle.sym_core.specs.declared.name.Name.{Name}
use Rattle.hir_store.specs.declared.ids.ExprId.{ExprId}
use Rattle.hir_store.specs.declared.expr.Statement.{Statement}
use Rattle.hir_store.specs.declared.lang_item.LangItem.{LangItem}
use Rattle.hir_store.specs.declared.lang_item.LangItems.{LangItems}
use Rattle.hir_store.specs.declared.store.ExpressionStore.{ExpressionStore}
use Rattle.hir_store.specs.Tree.{Tree, Trees, Ref, Tuple, Array, Call, Empty, More}
use Rattle.hir_store.specs.Unfolding.{place_of, trees_of, tree_at}
use Rattle.hir_store.specs.PartsBelow.{AllBelow}
use Rattle.hir_store.proofs.Grown.{trees_of_all}
use Rattle.hir_build.specs.Frame.{Frame}
use Rattle.hir_build.specs.Origins.{Origin, bare, from_source, all_origins, origins_at}
use Rattle.hir_build.specs.Callee.{has_item, callee_origin}
use Rattle.hir_build.specs.Placed.{Placed, AllPlaced, IsLet}
use Rattle.hir_build.specs.Building.{Builds}
use Rattle.hir_build.proofs.Origins.{origins_later}
use Rattle.hir_build.proofs.Placed.{placed_later, placed_as, all_placed_none, all_placed_cons}
use Rattle.hir_lower.specs.FormatArgs.{trees_at_each, origins_at_each}

-- what was placed is so behind what is built
pub placed_kept : {a b : Frame} {most lets : ℕ} (id : ExprId) (t : Tree) (os : List Origin) → Builds a b most lets → Placed a.store id t os → Placed b.store id t os
placed_kept {a} {b} id t os built was = placed_later a.store b.store built.grows id t os was

-- the trees of older indexes stay
pub trees_kept : {a b : Frame} {most lets : ℕ} (ids : List ExprId) → Builds a b most lets → AllBelow (length a.store.exprs) ids → trees_at_each b.store ids ≡ trees_at_each a.store ids
trees_kept [] built below = refl
trees_kept (id ∷ ids) built below = ap₂ (λ t ts. t ∷ ts) (built.trees id below.0) (trees_kept ids built below.1)

-- and their origins
pub origins_kept : {a b : Frame} {most lets : ℕ} (ids : List ExprId) → Builds a b most lets → AllBelow (length a.store.exprs) ids → origins_at_each b.store ids ≡ origins_at_each a.store ids
origins_kept [] built below = refl
origins_kept {a} {b} (id ∷ ids) built below = ap₂ (λ o os. o ∷ os) (origins_later a.store b.store id built.grows below.0) (origins_kept ids built below.1)

-- a row of one
pub row_of_one : (store : ExpressionStore) (ids : List ExprId) (id : ExprId) (t : Tree) (os : List Origin) → ids ≡ id ∷ [] → Placed store id t os → AllPlaced store ids (More t Empty) os
row_of_one store ids id t os is one =
    subst₂ (λ l m. AllPlaced store l (More t Empty) m) (sym is) (append-nil os) (all_placed_cons store id [] t Empty os [] one (all_placed_none store))

-- a row of two
pub row_of_two : (store : ExpressionStore) (ids : List ExprId) (id other : ExprId) (t u : Tree) (os more : List Origin) → ids ≡ id ∷ other ∷ [] → Placed store id t os →
    Placed store other u more → AllPlaced store ids (More t (More u Empty)) (os ++ more)
row_of_two store ids id other t u os more is one two =
    subst (λ l. AllPlaced store l (More t (More u Empty)) (os ++ more)) (sym is) (all_placed_cons store id (other ∷ []) t (More u Empty) os more one (row_of_one store (other ∷ []) other u more refl two))

-- the function of a call that stands nowhere in the source
pub callee_bare : (items : LangItems) (item : LangItem) (file : HirFileId) → callee_origin items item file None ≡ bare
callee_bare items item file = by (has_item items item)
  where
    by : (there : Bool) → cond there (from_source file None) bare ≡ bare
    by true = refl
    by false = refl

-- a reference to an older index
pub reference_kept : {a b : Frame} {most lets : ℕ} (new : ExpressionStore) (made id : ExprId) → Builds a b most lets → place_of id < length a.store.exprs →
    Placed new made (Ref (tree_at b.store id)) (bare ∷ origins_at b.store id) → Placed new made (Ref (tree_at a.store id)) (bare ∷ origins_at a.store id)
reference_kept {a} {b} new made id built lt was =
    placed_as new made _ _ _ _ (ap Ref (built.trees id lt)) (ap (λ l. bare ∷ l) (origins_later a.store b.store id built.grows lt)) was

module _ (old new : ExpressionStore) (made : ExprId) (own : Origin) where
  -- a tuple
  pub tuple_as : (ids : List ExprId) (ts : Trees) (os : List Origin) → AllPlaced old ids ts os →
      Placed new made (Tuple (trees_of (tree_at old) ids)) (own ∷ all_origins (origins_at old) ids) → Placed new made (Tuple ts) (own ∷ os)
  tuple_as ids ts os parts was = placed_as new made _ _ _ _ (ap Tuple (trees_of_all old ids ts parts.stand)) (ap (λ l. own ∷ l) parts.come) was

  -- an array
  pub array_as : (ids : List ExprId) (ts : Trees) (os : List Origin) → AllPlaced old ids ts os →
      Placed new made (Array (trees_of (tree_at old) ids)) (own ∷ all_origins (origins_at old) ids) → Placed new made (Array ts) (own ∷ os)
  array_as ids ts os parts was = placed_as new made _ _ _ _ (ap Array (trees_of_all old ids ts parts.stand)) (ap (λ l. own ∷ l) parts.come) was

  -- a call
  pub call_as : (callee : ExprId) (ids : List ExprId) (t : Tree) (ts : Trees) (os more : List Origin) → Placed old callee t os → AllPlaced old ids ts more →
      Placed new made (Call (tree_at old callee) (trees_of (tree_at old) ids)) (own ∷ (origins_at old callee ++ all_origins (origins_at old) ids)) → Placed new made (Call t ts) (own ∷ (os ++ more))
  call_as callee ids t ts os more function parts was =
      placed_as new made _ _ _ _ (ap₂ Call function.stands.tree (trees_of_all old ids ts parts.stand)) (ap₂ (λ l m. own ∷ (l ++ m)) function.comes parts.come) was

-- a `let` of a value that is placed
pub let_as : (old new : ExpressionStore) (s : Statement) (name : Name) (id : ExprId) (t : Tree) (os : List Origin) → Placed old id t os →
    IsLet new s name (tree_at old id) (origins_at old id) → IsLet new s name t os
let_as old new s name id t os value was = subst₂ (IsLet new s name) value.stands.tree value.comes was
