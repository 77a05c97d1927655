-- Blocks of `let`s, of expressions as statements, and of a tail.
use Rattle.std.proofs.Common.{◌≡◌, nat_eq, true≢false, ◌+◌, ◌<◌, take, get_or, false, ◌++◌, ℕ, List, [], ◌∷◌, length, map, Option, Some, refl, sym, ap, ◌∙◌, subst, append_assoc}
use Rattle.std.proofs.lemmas.List.{take_more}
use Rattle.sym_core.specs.declared.name.Name.{Name}
use Rattle.sym_core.specs.declared.name.Name.TheVariants as name
use Rattle.hir_store.specs.declared.ids.ExprId.{ExprId}
use Rattle.hir_store.specs.declared.ids.PatId.{PatId}
use Rattle.hir_store.specs.declared.expr.Statement.{Statement}
use Rattle.hir_store.specs.declared.expr.Statement.TheVariants as statement
use Rattle.hir_store.specs.declared.store.ExpressionStore.{ExpressionStore}
use Rattle.hir_store.specs.Tree.{Tree, Path, Tuple, Array, Block, Let, Do}
use Rattle.hir_store.specs.Unfolding.{name_in, let_step, steps_of, tree_at}
use Rattle.hir_store.specs.PartsBelow.{AllBelow}
use Rattle.hir_store.specs.Store.{Grows}
use Rattle.hir_fmt.specs.declared.format_args.FormatArgument.{FormatArgument}
use Rattle.template_bytes.specs.Pairs.{Pair}
use Rattle.hir_build.specs.Frame.{Frame}
use Rattle.hir_build.specs.Origins.{Origin, steps_origins, origins_at}
use Rattle.hir_build.specs.Placed.{Placed, IsLet, StatementsIn}
use Rattle.hir_build.proofs.Placed.{let_later, placed_as}
use Rattle.hir_build.proofs.Within.{let_within}
use Rattle.format_code.specs.Code.{statements, behind_statements, references, elements, let_steps, new_code}
use Rattle.hir_lower.specs.FormatOrigins.{tuple_origins, array_origins, statements_origins, behind_origins}
use Rattle.hir_lower.specs.FormatArgs.{trees_at_each, origins_at_each, syntaxes_of, trees_of_args, origins_of_args}
use Rattle.hir_lower.specs.FormatParts.{expr_statements, AreLets}

-- one more expression behind
statements_more : (ids : List ExprId) (id : ExprId) → expr_statements (ids ++ id ∷ []) ≡ expr_statements ids ++ statement.Expr id ∷ []
statements_more [] id = refl
statements_more (i ∷ ids) id = ap (λ ss. statement.Expr i ∷ ss) (statements_more ids id)

-- the steps of expressions as statements
expr_steps : (names : PatId → Option Name) (tree_of : ExprId → Tree) (ids : List ExprId) (tail : ExprId) →
    steps_of names tree_of (expr_statements ids) (Some tail) ≡ statements (map tree_of ids) (tree_of tail)
expr_steps names tree_of [] tail = refl
expr_steps names tree_of (id ∷ ids) tail = ap (Do (tree_of id)) (expr_steps names tree_of ids tail)

-- and their origins
expr_origins : (origins_of : ExprId → List Origin) (ids : List ExprId) (tail : ExprId) →
    steps_origins origins_of (expr_statements ids) (Some tail) ≡ statements_origins (map origins_of ids) (origins_of tail)
expr_origins origins_of [] tail = refl
expr_origins origins_of (id ∷ ids) tail = ap (λ os. origins_of id ++ os) (expr_origins origins_of ids tail)

-- expressions that are in a store are so as statements
pub exprs_within : (store : ExpressionStore) (ids : List ExprId) → AllBelow (length store.exprs) ids → StatementsIn store (expr_statements ids)
exprs_within store [] below = tt
exprs_within store (id ∷ ids) below = (below.0, exprs_within store ids below.1)

module _ (old new : ExpressionStore) (made : ExprId) (here : Origin) where
  -- a block of expressions as statements
  pub behind_as : (ids : List ExprId) (tail : ExprId) (t : Tree) (os : List Origin) → Placed old tail t os →
      Placed new made (Block false (steps_of (name_in old) (tree_at old) (expr_statements ids) (Some tail))) (here ∷ steps_origins (origins_at old) (expr_statements ids) (Some tail)) →
      Placed new made (Block false (statements (trees_at_each old ids) t)) (here ∷ statements_origins (origins_at_each old ids) os)
  behind_as ids tail t os last was =
      placed_as new made _ _ _ _
      (ap (Block false) (expr_steps (name_in old) (tree_at old) ids tail ∙ ap (statements (trees_at_each old ids)) last.stands.tree))
      (ap (λ l. here ∷ l) (expr_origins (origins_at old) ids tail ∙ ap (statements_origins (origins_at_each old ids)) last.comes))
      was

module _ (old : Frame) (store : ExpressionStore) (ss : List Statement) (n : ℕ) (args : List FormatArgument) (pairs : List Pair) where
  -- two `let`s go on to be so
  pub lets_later : (new : ExpressionStore) → Grows store new → AreLets old store ss n args pairs → AreLets old new ss n args pairs
  lets_later new grows was = record {
    tuple = was.tuple;
    array = was.array;
    are = was.are;
    binds_tuple = let_later store new grows was.tuple _ _ _ was.binds_tuple;
    binds_array = let_later store new grows was.array _ _ _ was.binds_array;
  }

  -- with expressions as statements behind them they are in their store
  pub lets_within : (ids : List ExprId) → AreLets old store ss n args pairs → AllBelow (length store.exprs) ids → StatementsIn store (ss ++ expr_statements ids)
  lets_within ids lets below =
      subst (λ l. StatementsIn store (l ++ expr_statements ids)) (sym lets.are)
      (let_within store lets.tuple _ _ _ lets.binds_tuple, (let_within store lets.array _ _ _ lets.binds_array, exprs_within store ids below))

-- a `let` in front of statements
module _ (store : ExpressionStore) (s : Statement) (ss : List Statement) (tail : ExprId) (name : Name) (t : Tree) (os : List Origin) (is : IsLet store s name t os) where
  steps_by_let : steps_of (name_in store) (tree_at store) (s ∷ ss) (Some tail) ≡ Let name t (steps_of (name_in store) (tree_at store) ss (Some tail))
  steps_by_let =
      ap (λ x. steps_of (name_in store) (tree_at store) (x ∷ ss) (Some tail)) is.is
      ∙ ap (λ o. let_step o (tree_at store is.value) (steps_of (name_in store) (tree_at store) ss (Some tail))) is.binds
      ∙ ap (λ x. Let name x (steps_of (name_in store) (tree_at store) ss (Some tail))) is.placed.stands.tree

  -- its origins are in front of theirs
  origins_by_let : steps_origins (origins_at store) (s ∷ ss) (Some tail) ≡ os ++ steps_origins (origins_at store) ss (Some tail)
  origins_by_let = ap (λ x. steps_origins (origins_at store) (x ∷ ss) (Some tail)) is.is ∙ ap (λ l. l ++ steps_origins (origins_at store) ss (Some tail)) is.placed.comes

-- a block of the two `let`s of a call, expressions as statements, and a tail
module _ (old : Frame) (store new : ExpressionStore) (made tail : ExprId) (ss : List Statement) (n : ℕ) (args : List FormatArgument) (pairs : List Pair) (here : Origin) where
  pub lets_as : (ids : List ExprId) (bytes : List ℕ) (os : List Origin) → AreLets old store ss n args pairs → Placed store tail (new_code old.items bytes (Path (name.Fresh n))) os →
      Placed new made (Block false (steps_of (name_in store) (tree_at store) (ss ++ expr_statements ids) (Some tail))) (here ∷ steps_origins (origins_at store) (ss ++ expr_statements ids) (Some tail)) →
      Placed new made (Block false (let_steps old.items n (trees_of_args old args) pairs bytes (trees_at_each store ids)))
      (here ∷ (tuple_origins (origins_of_args old args) ++ (array_origins old.file old.items (syntaxes_of args) pairs ++ statements_origins (origins_at_each store ids) os)))
  lets_as ids bytes os lets last was =
      let row : ss ++ expr_statements ids ≡ lets.tuple ∷ lets.array ∷ expr_statements ids = ap (λ l. l ++ expr_statements ids) lets.are in
      placed_as new made _ _ _ _
      (ap (Block false) (ap (λ l. steps_of (name_in store) (tree_at store) l (Some tail)) row
      ∙ steps_by_let store lets.tuple (lets.array ∷ expr_statements ids) tail _ _ _ lets.binds_tuple
      ∙ ap (Let (name.Fresh n) (Tuple (references (trees_of_args old args)))) (steps_by_let store lets.array (expr_statements ids) tail _ _ _ lets.binds_array
      ∙ ap (Let (name.Fresh n) (Array (elements old.items n pairs))) (expr_steps (name_in store) (tree_at store) ids tail ∙ ap (statements (trees_at_each store ids)) last.stands.tree))))
      (ap (λ l. here ∷ l) (ap (λ l. steps_origins (origins_at store) l (Some tail)) row
      ∙ origins_by_let store lets.tuple (lets.array ∷ expr_statements ids) tail _ _ _ lets.binds_tuple
      ∙ ap (λ l. tuple_origins (origins_of_args old args) ++ l) (origins_by_let store lets.array (expr_statements ids) tail _ _ _ lets.binds_array
      ∙ ap (λ l. array_origins old.file old.items (syntaxes_of args) pairs ++ l) (expr_origins (origins_at store) ids tail ∙ ap (statements_origins (origins_at_each store ids)) last.comes))))
      was

-- the statements so far go on by the next expression of a list
pub statements_next : (ss before front : List Statement) (ids : List ExprId) (i : ℕ) (d : ExprId) → i < length ids → before ≡ front ++ expr_statements (take i ids) →
    ss ≡ before ++ statement.Expr (get_or ids i d) ∷ [] → ss ≡ front ++ expr_statements (take (i + 1) ids)
statements_next ss before front ids i d lt so_far is =
    let next : expr_statements (take (i + 1) ids) ≡ expr_statements (take i ids) ++ statement.Expr (get_or ids i d) ∷ [] =
    ap expr_statements (take_more ids i d lt) ∙ statements_more (take i ids) (get_or ids i d) in
    is ∙ ap (λ l. l ++ statement.Expr (get_or ids i d) ∷ []) so_far ∙ append_assoc front (expr_statements (take i ids)) (statement.Expr (get_or ids i d) ∷ []) ∙ ap (λ l. front ++ l) (sym next)

-- behind expressions, of which there are some, stands the block of them
pub behind_some : (old new : ExpressionStore) (made : ExprId) (here : Origin) (ids : List ExprId) (t : Tree) (os : List Origin) → nat_eq (length ids) 0 ≡ false →
    Placed new made (Block false (statements (trees_at_each old ids) t)) (here ∷ statements_origins (origins_at_each old ids) os) →
    Placed new made (behind_statements (trees_at_each old ids) t) (behind_origins here (origins_at_each old ids) os)
behind_some old new made here [] t os some was = absurd (true≢false some)
behind_some old new made here (id ∷ ids) t os some was = was
