-- What stands in a store, and what stays there as it grows.
use Rattle.std.specs.Prelude.{◌≡◌, ℕ, ◌<◌, List, [], ◌∷◌, ◌++◌, length, slice_get, slice_set, Option, Some, None, option_map, IsTrue, ⊤}
use Rattle.std.specs.Option.{option_and_then}
use Rattle.la_arena.specs.Idx.{number_of}
use Rattle.hir_store.specs.declared.ids.ExprId.{ExprId}
use Rattle.hir_store.specs.declared.ids.PatId.{PatId}
use Rattle.hir_store.specs.declared.ids.BindingId.{BindingId}
use Rattle.hir_store.specs.declared.expr.Expr.{Expr}
use Rattle.hir_store.specs.declared.pat.Pat.{Pat}
use Rattle.hir_store.specs.declared.pat.Pat.TheVariants.{Bind}
use Rattle.hir_store.specs.declared.pat.Binding.{Binding}
use Rattle.hir_store.specs.declared.store.ExpressionStore.{ExpressionStore}
use Rattle.hir_store.specs.Tree.{Tree, Trees, Empty, More, is_whole}
use Rattle.hir_store.specs.Unfolding.{place_of, tree_at}
use Rattle.hir_store.specs.Sources.{SameAtOlder, NoDanglingKeys}

-- a list is another one with more behind it
abbrev pub Extends : {A : Type 0} → List A → List A → Type 0
Extends {A} old new = (more : List A) × (new ≡ old ++ more)

-- older expressions, patterns and bindings keep their places and values, and the maps keep what they held at older expressions
pub record Grows (old new : ExpressionStore) : Type 0 where
  pub exprs : Extends old.exprs new.exprs
  pub pats : Extends old.pats new.pats
  pub bindings : Extends old.bindings new.bindings
  pub older : SameAtOlder old new

-- an index of the store stands for this whole tree
pub record Stands (store : ExpressionStore) (id : ExprId) (t : Tree) : Type 0 where
  pub within : place_of id < length store.exprs
  pub tree : tree_at store id ≡ t
  pub whole : IsTrue (is_whole t)

-- each index stands for the tree beside it
abbrev pub AllStand : ExpressionStore → List ExprId → Trees → Type 0
AllStand store [] Empty = ⊤
AllStand store (id ∷ ids) (More t ts) = Stands store id t × AllStand store ids ts
AllStand store [] (More t ts) = ⊥
AllStand store (id ∷ ids) Empty = ⊥

-- the expression stands behind the old ones, its index is how many those are, and no other arena is changed
pub record PlacesExpr (old : ExpressionStore) (e : Expr) (id : ExprId) (new : ExpressionStore) : Type 0 where
  pub place : place_of id ≡ length old.exprs
  pub exprs : new.exprs ≡ old.exprs ++ e ∷ []
  pub pats : new.pats ≡ old.pats
  pub bindings : new.bindings ≡ old.bindings

-- the expression stands behind the old ones, and all else is as it was
abbrev pub PlacesNewest : ExpressionStore → Expr → ExpressionStore → Type 0
PlacesNewest old e new = new ≡ record old { exprs = old.exprs ++ e ∷ [] }

-- the pattern stands behind the old ones, its index is how many those are, and no other arena is changed
pub record PlacesPat (old : ExpressionStore) (pat : Pat) (id : PatId) (new : ExpressionStore) : Type 0 where
  pub place : number_of id.raw ≡ length old.pats
  pub exprs : new.exprs ≡ old.exprs
  pub pats : new.pats ≡ old.pats ++ pat ∷ []
  pub bindings : new.bindings ≡ old.bindings

-- the binding stands behind the old ones, its index is how many those are, and no other arena is changed
pub record PlacesBinding (old : ExpressionStore) (b : Binding) (id : BindingId) (new : ExpressionStore) : Type 0 where
  pub place : number_of id.raw ≡ length old.bindings
  pub exprs : new.exprs ≡ old.exprs
  pub pats : new.pats ≡ old.pats
  pub bindings : new.bindings ≡ old.bindings ++ b ∷ []

-- the binding has the pattern as its definition and the name that it had, and no other arena is changed
pub record Defines (old : ExpressionStore) (id : BindingId) (pat : PatId) (new : ExpressionStore) : Type 0 where
  pub binding : Binding
  pub was : slice_get old.bindings (number_of id.raw) ≡ Some binding
  pub exprs : new.exprs ≡ old.exprs
  pub pats : new.pats ≡ old.pats
  pub bindings : new.bindings ≡ slice_set old.bindings (number_of id.raw) (record binding { definition = Some pat })

-- the pattern binds a binding of the store
abbrev pub BindsWithin : ExpressionStore → Pat → Type 0
BindsWithin store (Bind id) = number_of id.raw < length store.bindings

-- a binding that a pattern defines has one of the store
abbrev pub DefinedWithin : ExpressionStore → Option PatId → Type 0
DefinedWithin store None = ⊤
DefinedWithin store (Some pat) = number_of pat.raw < length store.pats

-- the store holds nothing
pub record IsEmptyStore (store : ExpressionStore) : Type 0 where
  pub exprs : store.exprs ≡ []
  pub pats : store.pats ≡ []
  pub bindings : store.bindings ≡ []
  pub sources : store.expr_map_back ≡ []
  pub capture_sources : store.implicit_capture_to_source ≡ []
  pub captures : store.format_args_to_captures ≡ []
  pub mappings : store.asm_to_captures ≡ []

-- a store without dangling ids: whatever it names is in it: each index stands for a whole tree, whose parts all come before what they are parts of, and patterns, bindings and maps name what is there
pub record NoDanglingIds (store : ExpressionStore) : Type 0 where
  pub whole : (id : ExprId) → place_of id < length store.exprs → IsTrue (is_whole (tree_at store id))
  pub patterns : (number : ℕ) (pat : Pat) → slice_get store.pats number ≡ Some pat → BindsWithin store pat
  pub definitions : (number : ℕ) (binding : Binding) → slice_get store.bindings number ≡ Some binding → DefinedWithin store binding.definition
  pub maps : NoDanglingKeys store

-- the number of the pattern that defines a binding, where one does
abbrev pub definition_of : ExpressionStore → BindingId → Option ℕ
definition_of store id = option_map (λ (pat : PatId). number_of pat.raw) (option_and_then (λ (b : Binding). b.definition) (slice_get store.bindings (number_of id.raw)))

-- the pattern of this number defines the binding that it binds
abbrev pub DefinesItsOwn : ExpressionStore → ℕ → Pat → Type 0
DefinesItsOwn store number (Bind id) = definition_of store id ≡ Some number

-- each pattern of the store defines the binding that it binds
pub record EachDefines (store : ExpressionStore) : Type 0 where
  pub each : (number : ℕ) (pat : Pat) → slice_get store.pats number ≡ Some pat → DefinesItsOwn store number pat
