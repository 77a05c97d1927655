-- Ids that are in a store without dangling ids stand for whole trees, and stay there.
use Rattle.std.proofs.Common.{◌≡◌, ℕ, zero, suc, ◌<◌, ◌≤◌, List, [], ◌∷◌, ◌++◌, length, slice_get, slice_index_or, Option, Some, None, option_map, IsTrue, refl, sym, ap, ◌∙◌, subst, arith, length-append}
use Rattle.std.proofs.lemmas.Option.{slice_get_within, none-some}
use Rattle.std.proofs.lemmas.Bool.{and_from}
use Rattle.la_arena.specs.Idx.{number_of}
use Rattle.sym_core.specs.declared.name.Name.{Name}
use Rattle.hir_store.specs.declared.ids.ExprId.{ExprId}
use Rattle.hir_store.specs.declared.ids.PatId.{PatId}
use Rattle.hir_store.specs.declared.expr.Expr.{Expr}
use Rattle.hir_store.specs.declared.expr.Expr.TheVariants as expr
use Rattle.hir_store.specs.declared.expr.Literal.{Literal}
use Rattle.hir_store.specs.declared.expr.Literal.TheVariants as literal
use Rattle.hir_store.specs.declared.expr.Statement.{Statement}
use Rattle.hir_store.specs.declared.expr.Statement.TheVariants as statement
use Rattle.hir_store.specs.declared.asm.AsmOperand.{AsmOperand}
use Rattle.hir_store.specs.declared.pat.Pat.{Pat}
use Rattle.hir_store.specs.declared.pat.Pat.TheVariants.{Bind}
use Rattle.hir_store.specs.declared.pat.Binding.{Binding}
use Rattle.hir_store.specs.declared.store.ExpressionStore.{ExpressionStore}
use Rattle.hir_store.specs.Tree.{Tree, Trees, Steps, Operands, Empty, More, NoOperand, Operand, is_whole, all_whole, steps_whole, operands_whole}
use Rattle.hir_store.specs.Unfolding.{place_of, bound_name, name_in, trees_of, let_step, steps_of, operand_exprs, operands_of, literal_tree, tree_at, tree_over}
use Rattle.hir_store.specs.PartsBelow.{AllBelow, TailBelow, OperandsBelow}
use Rattle.hir_store.specs.Store.{Grows, AllStand, NoDanglingIds, BindsWithin}
use Rattle.hir_store.specs.Makes.{OperandsMake}
use Rattle.hir_store.proofs.Grown.{longer}
use Rattle.hir_build.specs.Origins.{Origin}
use Rattle.hir_build.specs.Placed.{AllPlaced, OperandsPlaced, IsLet, StatementIn, StatementsIn, PartsIn}

-- a value at a place of a list, where the list is long enough
record Has {A : Type 0} (xs : List A) (k : ℕ) : Type 0 where
  value : A
  there : slice_get xs k ≡ Some value

has : {A : Type 0} (xs : List A) (k : ℕ) → k < length xs → Has xs k
has [] k lt = absurd (omega (arith, lt))
has (x ∷ xs) zero lt = record { value = x; there = refl }
has (x ∷ xs) (suc k) lt = let h = has xs k (omega (arith, lt)) in record { value = h.value; there = h.there }

whole_literal : (l : Literal) → IsTrue (is_whole (literal_tree l))
whole_literal (literal.String text) = refl
whole_literal (literal.ByteString bytes) = refl

-- a name that a pattern binds
record Binds (store : ExpressionStore) (pat : PatId) : Type 0 where
  name : Name
  binds : name_in store pat ≡ Some name

module _ (store : ExpressionStore) (sound : NoDanglingIds store) where
  -- a pattern of the store binds a name
  pat_binds : (pat : PatId) → number_of pat.raw < length store.pats → Binds store pat
  pat_binds pat lt = decide (has store.pats (number_of pat.raw) lt) where
    named : (p : Pat) → slice_get store.pats (number_of pat.raw) ≡ Some p → BindsWithin store p → Binds store pat
    named (Bind id) is within =
        let b = has store.bindings (number_of id.raw) within in
        record { name = b.value.name; binds = ap (bound_name store.bindings) is ∙ ap (option_map (λ (x : Binding). x.name)) b.there }

    decide : Has store.pats (number_of pat.raw) → Binds store pat
    decide h = named h.value h.there (sound.patterns (number_of pat.raw) h.value h.there)

  whole_row : (ids : List ExprId) → AllBelow (length store.exprs) ids → IsTrue (all_whole (trees_of (tree_at store) ids))
  whole_row [] below = refl
  whole_row (id ∷ ids) below = and_from (is_whole (tree_at store id)) (all_whole (trees_of (tree_at store) ids)) (sound.whole id below.0) (whole_row ids below.1)

  let_whole : (named : Option Name) (name : Name) (t : Tree) (steps : Steps) → named ≡ Some name → IsTrue (is_whole t) → IsTrue (steps_whole steps) → IsTrue (steps_whole (let_step named t steps))
  let_whole None name t steps is one rest = absurd (none-some name is)
  let_whole (Some n) name t steps is one rest = and_from (is_whole t) (steps_whole steps) one rest

  whole_steps : (ss : List Statement) (last : Option ExprId) → StatementsIn store ss → TailBelow (length store.exprs) last → IsTrue (steps_whole (steps_of (name_in store) (tree_at store) ss last))
  whole_steps [] None within below = refl
  whole_steps [] (Some tail) within below = sound.whole tail below
  whole_steps (statement.Let pat id ∷ ss) last within below =
      let b = pat_binds pat within.0.0 in
      let_whole (name_in store pat) b.name (tree_at store id) (steps_of (name_in store) (tree_at store) ss last) b.binds (sound.whole id within.0.1) (whole_steps ss last within.1 below)
  whole_steps (statement.Expr id ∷ ss) last within below = and_from (is_whole (tree_at store id)) (steps_whole (steps_of (name_in store) (tree_at store) ss last)) (sound.whole id within.0)
      (whole_steps ss last within.1 below)

  whole_operands : (operands : List (Option Name × AsmOperand)) → OperandsBelow (length store.exprs) operands → IsTrue (operands_whole (operands_of (tree_at store) operands))
  whole_operands [] below = refl
  whole_operands ((name, operand) ∷ operands) below =
      and_from (all_whole (trees_of (tree_at store) (operand_exprs operand))) (operands_whole (operands_of (tree_at store) operands)) (whole_row (operand_exprs operand) below.0) (whole_operands operands below.1)

  -- an expression whose parts are in the store makes a whole tree
  pub whole_over : (e : Expr) → PartsIn store e → IsTrue (is_whole (tree_over store e))
  whole_over expr.Missing within = refl
  whole_over (expr.Leaf n) within = refl
  whole_over (expr.Path name) within = refl
  whole_over (expr.LangPath item function) within = refl
  whole_over (expr.Literal l) within = whole_literal l
  whole_over (expr.Ref id) within = sound.whole id within
  whole_over (expr.Tuple ids) within = whole_row ids within
  whole_over (expr.Field id name) within = sound.whole id within
  whole_over (expr.Array ids) within = whole_row ids within
  whole_over (expr.Call callee args) within = and_from (is_whole (tree_at store callee)) (all_whole (trees_of (tree_at store) args)) (sound.whole callee within.0) (whole_row args within.1)
  whole_over (expr.Block last is_unsafe ss) within = whole_steps ss last within.0 within.1
  whole_over (expr.InlineAsm assembly) within = whole_operands assembly.operands within

-- Rows

pub below_later : (limit later : ℕ) (ids : List ExprId) → limit ≤ later → AllBelow limit ids → AllBelow later ids
below_later limit later [] le below = tt
below_later limit later (id ∷ ids) le below = (omega (arith, le, below.0), below_later limit later ids le below.1)

-- an index of a row
pub below_at : (limit : ℕ) (ids : List ExprId) (i : ℕ) (none : ExprId) → i < length ids → AllBelow limit ids → place_of (slice_index_or ids i none) < limit
below_at limit [] i none lt below = absurd (omega (arith, lt))
below_at limit (id ∷ ids) zero none lt below = below.0
below_at limit (id ∷ ids) (suc i) none lt below = below_at limit ids i none (omega (arith, lt)) below.1

stand_below : (store : ExpressionStore) (ids : List ExprId) (ts : Trees) → AllStand store ids ts → AllBelow (length store.exprs) ids
stand_below store [] ts all = tt
stand_below store (id ∷ ids) (More t ts) all = (all.0.within, stand_below store ids ts all.1)
stand_below store (id ∷ ids) Empty all = absurd all

-- a row that is placed is in the store
pub placed_below : (store : ExpressionStore) (ids : List ExprId) (ts : Trees) (os : List Origin) → AllPlaced store ids ts os → AllBelow (length store.exprs) ids
placed_below store ids ts os was = stand_below store ids ts was.stand

-- operands that are placed are in the store
pub operands_in : (store : ExpressionStore) (operands : List (Option Name × AsmOperand)) (made : Operands) (os : List Origin) → OperandsPlaced store operands made os →
    OperandsBelow (length store.exprs) operands
operands_in store operands made os was = make_below operands made was.make where
  make_below : (operands : List (Option Name × AsmOperand)) (made : Operands) → OperandsMake store operands made → OperandsBelow (length store.exprs) operands
  make_below [] made make = tt
  make_below ((name, operand) ∷ operands) (Operand other shape ts made) make = (stand_below store (operand_exprs operand) ts make.2, make_below operands made make.3)
  make_below (one ∷ operands) NoOperand make = absurd make

-- Statements

more_pats : (old new : ExpressionStore) → Grows old new → length old.pats ≤ length new.pats
more_pats old new grows = omega (arith, ap length grows.pats.1, length-append old.pats grows.pats.0)

pub statement_later : (old new : ExpressionStore) (s : Statement) → Grows old new → StatementIn old s → StatementIn new s
statement_later old new (statement.Let pat id) grows within = (omega (arith, more_pats old new grows, within.0), omega (arith, longer old new grows, within.1))
statement_later old new (statement.Expr id) grows within = omega (arith, longer old new grows, within)

pub statements_later : (old new : ExpressionStore) (ss : List Statement) → Grows old new → StatementsIn old ss → StatementsIn new ss
statements_later old new [] grows within = tt
statements_later old new (s ∷ ss) grows within = (statement_later old new s grows within.0, statements_later old new ss grows within.1)

-- one more statement behind
pub statements_on : (store : ExpressionStore) (ss : List Statement) (s : Statement) → StatementsIn store ss → StatementIn store s → StatementsIn store (ss ++ s ∷ [])
statements_on store [] s within one = (one, tt)
statements_on store (x ∷ ss) s within one = (within.0, statements_on store ss s within.1 one)

-- a `let` that binds a name to a value that is placed is in the store
pub let_within : (store : ExpressionStore) (s : Statement) (name : Name) (t : Tree) (os : List Origin) → IsLet store s name t os → StatementIn store s
let_within store s name t os was = subst (StatementIn store) (sym was.is) (pat_within (slice_get store.pats (number_of was.pat.raw)) refl was.binds, was.placed.stands.within) where
  pat_within : (there : Option Pat) → slice_get store.pats (number_of was.pat.raw) ≡ there → bound_name store.bindings there ≡ Some name → number_of was.pat.raw < length store.pats
  pat_within None is binds = absurd (none-some name binds)
  pat_within (Some p) is binds = slice_get_within store.pats (number_of was.pat.raw) p is
