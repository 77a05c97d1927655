-- The evaluation of a tree: its events in order and its value, or nothing where it is stuck.
use Rattle.std.specs.Prelude.{ℕ, ◌+◌, Bool, true, false, cond, List, [], ◌∷◌, ◌++◌, length, nat_eq, Option, Some, None, option_map}
use Rattle.std.specs.Cmp.Lexicographic.{pointwise}
use Rattle.sym_core.specs.declared.name.Name.{Name}
use Rattle.sym_core.specs.declared.name.Name.TheVariants as name
use Rattle.hir_store.specs.declared.lang_item.LangItem.TheVariants.{FormatArguments, FormatArgument}
use Rattle.hir_store.specs.declared.lang_item.LangFn.{LangFn}
use Rattle.hir_store.specs.declared.lang_item.LangFn.TheVariants.{New, FromStr}
use Rattle.hir_store.specs.Tree.{Tree, Trees, Steps, Bad, Missing, Leaf, Path, LangPath, Text, Bytes, Ref, Tuple, Field, Array, Call, Block, InlineAsm, End, Tail, Let, Nameless, Do}
use Rattle.hir_store.specs.Tree as tree
use Rattle.code_meaning.specs.Value.{Event, LeafEvent, NameEvent, Value, Values, At, TextValue, BytesValue, RefValue, TupleValue, ListValue, Made, Arguments, FromText, Empty, More, use_of, value_at}

-- what the names bound so far stand for, the innermost first
abbrev pub Environment : Type 0
Environment = List (Name × Value)

abbrev pub is_same_name : Name → Name → Bool
is_same_name (name.Text s) (name.Text t) = pointwise nat_eq s t
is_same_name (name.TupleField m) (name.TupleField n) = nat_eq m n
is_same_name (name.Fresh m) (name.Fresh n) = nat_eq m n
is_same_name _ _ = false

-- the innermost binding of a name
abbrev pub bound_value : Environment → Name → Option Value
bound_value [] n = None
bound_value (bound ∷ outer) n = cond (is_same_name bound.0 n) (Some bound.1) (bound_value outer n)

-- the outcome of evaluation: events and what they lead to, or nothing where it is stuck
abbrev pub Run : Type 0 → Type 0
Run A = Option (List Event × A)

module _ {A : Type 0} where
  -- events in front of those of an outcome
  abbrev pub behind : List Event → Run A → Run A
  behind events None = None
  behind events (Some run) = Some (events ++ run.0, run.1)

module _ {A B : Type 0} where
  -- one evaluation, from the event of number k on, and behind it another
  abbrev pub then_run : Run A → ℕ → (A → ℕ → Run B) → Run B
  then_run None k go = None
  then_run (Some run) k go = behind run.0 (go run.1 (k + length run.0))

-- a name of the surroundings is read, and a name that no source spells must be bound
abbrev pub surrounding : Name → ℕ → Run Value
surrounding (name.Text text) k = Some (NameEvent text ∷ [], At k)
surrounding (name.TupleField n) k = None
surrounding (name.Fresh n) k = None

abbrev pub path_run : Option Value → Name → ℕ → Run Value
path_run (Some v) n k = Some ([], v)
path_run None n k = surrounding n k

-- a value is a tuple, and the field one of its elements
abbrev pub field_of : Value → Name → Option Value
field_of (TupleValue vs) (name.TupleField place) = value_at vs place
field_of _ _ = None

-- whether each value is an argument for a template
abbrev pub is_made : Value → Bool
is_made (Made by v) = true
is_made _ = false

abbrev pub all_made : Values → Bool
all_made Empty = true
all_made (More v vs) = cond (is_made v) (all_made vs) false

-- what `Arguments::new` gives: template bytes, and a reference to a list of arguments
abbrev pub new_arguments : Values → Option Value
new_arguments (More (BytesValue bytes) (More (RefValue (ListValue vs)) Empty)) = cond (all_made vs) (Some (Arguments bytes vs)) None
new_arguments _ = None

-- what `Arguments::from_str` gives: a text
abbrev pub text_arguments : Values → Option Value
text_arguments (More (TextValue text) Empty) = Some (FromText text)
text_arguments _ = None

-- what a function of `Argument` gives: a reference
abbrev pub made_argument : LangFn → Values → Option Value
made_argument f (More (RefValue v) Empty) = option_map (λ by. Made by v) (use_of f)
made_argument f _ = None

-- a callee applied to the values of its arguments
abbrev pub applied : Tree → Values → Option Value
applied (LangPath FormatArguments New) vs = new_arguments vs
applied (LangPath FormatArguments FromStr) vs = text_arguments vs
applied (LangPath FormatArgument f) vs = made_argument f vs
applied _ vs = None

module _ {A : Type 0} where
  -- a value without an event
  abbrev pub quiet : Option A → Run A
  quiet None = None
  quiet (Some v) = Some ([], v)

-- the children of a tree are evaluated from left to right, the statements of a block in order; a `let` binds its name until
-- the block ends and hides an earlier one; whatever is not listed is stuck
abbrev mutual
  pub eval : Tree → Environment → ℕ → Run Value
  eval Bad env k = None
  eval Missing env k = None
  eval (Leaf n) env k = Some (LeafEvent n ∷ [], At k)
  eval (Path n) env k = path_run (bound_value env n) n k
  eval (LangPath item function) env k = None
  eval (Text bytes) env k = Some ([], TextValue bytes)
  eval (Bytes bytes) env k = Some ([], BytesValue bytes)
  eval (Ref t) env k = then_run (eval t env k) k (λ v k1. Some ([], RefValue v))
  eval (Tuple ts) env k = then_run (eval_all ts env k) k (λ vs k1. Some ([], TupleValue vs))
  eval (Field t n) env k = then_run (eval t env k) k (λ v k1. quiet (field_of v n))
  eval (Array ts) env k = then_run (eval_all ts env k) k (λ vs k1. Some ([], ListValue vs))
  eval (Call callee ts) env k = then_run (eval_all ts env k) k (λ vs k1. quiet (applied callee vs))
  eval (Block is_unsafe steps) env k = eval_steps steps env k
  eval (InlineAsm kind options operands) env k = None

  pub eval_all : Trees → Environment → ℕ → Run Values
  eval_all tree.Empty env k = Some ([], Empty)
  eval_all (tree.More t ts) env k = then_run (eval t env k) k (λ v k1. then_run (eval_all ts env k1) k1 (λ vs k2. Some ([], More v vs)))

  pub eval_steps : Steps → Environment → ℕ → Run Value
  eval_steps End env k = None
  eval_steps (Tail t) env k = eval t env k
  eval_steps (Let n t steps) env k = then_run (eval t env k) k (λ v k1. eval_steps steps ((n, v) ∷ env) k1)
  eval_steps (Nameless t steps) env k = None
  eval_steps (Do t steps) env k = then_run (eval t env k) k (λ v k1. eval_steps steps env k1)

-- the evaluation of finished code: without bindings, from the first event on
abbrev pub evaluation_of : Tree → Run Value
evaluation_of t = eval t [] 0
