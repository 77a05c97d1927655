-- The code of a format call runs through: each argument once, in order, then the orphans.
use Rattle.std.specs.Prelude.{◌≡◌, ℕ, zero, suc, ◌+◌, ◌<◌, true, false, IsTrue, List, [], ◌∷◌, ◌++◌, length, Some, None, map, refl}
use Rattle.std.proofs.Common.{ap, ◌∙◌, eq-eqb, append-nil, arith}
use Rattle.sym_core.specs.declared.name.Name.TheVariants as name
use Rattle.hir_store.specs.declared.lang_item.LangItems.{LangItems}
use Rattle.hir_store.specs.Tree.{Tree, Path, Array, Block, Empty}
use Rattle.code_meaning.specs.Write.{Display, Debug, LowerExp, UpperExp, Octal, Pointer, Binary, LowerHex, UpperHex}
use Rattle.code_meaning.specs.Value.{Use, By, AsCount, Value, Values, At, RefValue, TupleValue, ListValue, Made, Arguments, FromText, use_of, value_at}
use Rattle.code_meaning.specs.Value as value
use Rattle.code_meaning.specs.Evaluation.{Environment, bound_value, eval, eval_all, eval_steps, evaluation_of, all_made}
use Rattle.template_bytes.specs.Canonical.{Reference}
use Rattle.template_bytes.specs.Pairs.{Pair}
use Rattle.format_code.specs.Code.{Argument, LeafArgument, NameArgument, event_of, argument_tree, function_of, field_number, references, element, elements, statements, behind_statements, new_code, from_str_code, let_steps, values_of, IsWithin, AreWithin}
use Rattle.format_code.specs.Laws.{AreThere, RunsOnce, TextRuns}

-- each use has the function that makes an argument for it
function_is : (usage : Use) → use_of (function_of usage) ≡ Some usage
function_is (By Display) = refl
function_is (By Debug) = refl
function_is (By LowerExp) = refl
function_is (By UpperExp) = refl
function_is (By Octal) = refl
function_is (By Pointer) = refl
function_is (By Binary) = refl
function_is (By LowerHex) = refl
function_is (By UpperHex) = refl
function_is AsCount = refl

-- no name that a source spells is bound
abbrev BindsNoText : Environment → Type 0
BindsNoText env = (text : List ℕ) → bound_value env (name.Text text) ≡ None

-- references to the values of the events from number k on
abbrev references_from : ℕ → List Argument → Values
references_from k [] = value.Empty
references_from k (arg ∷ args) = value.More (RefValue (At k)) (references_from (k + 1) args)

-- at each place stands the reference to its value
reference_at : (args : List Argument) (place k : ℕ) → place < length args → value_at (references_from k args) place ≡ Some (RefValue (At (k + place)))
reference_at [] place k lt = absurd (omega (arith, lt))
reference_at (arg ∷ args) zero k lt = ap (λ i. Some (RefValue (At i))) (omega arith)
reference_at (arg ∷ args) (suc place) k lt = reference_at args place (k + 1) (omega (arith, lt)) ∙ ap (λ i. Some (RefValue (At i))) (omega arith)

module _ (env : Environment) (free : BindsNoText env) where
  -- an argument is one event, and its value is that of the event
  argument_runs : (arg : Argument) (k : ℕ) → eval (argument_tree arg) env k ≡ Some (event_of arg ∷ [], At k)
  argument_runs (LeafArgument n) k = refl
  argument_runs (NameArgument text) k = rw (free text) refl

  -- so are references to arguments
  references_run : (args : List Argument) (k : ℕ) → eval_all (references (map argument_tree args)) env k ≡ Some (map event_of args, references_from k args)
  references_run [] k = refl
  references_run (arg ∷ args) k = rw (argument_runs arg k, references_run args (k + 1), append-nil) refl

  -- a tail that runs without an event runs behind statements too
  statements_run : (args : List Argument) (tail : Tree) (v : Value) → ((k : ℕ) → eval tail env k ≡ Some ([], v)) → (k : ℕ)
      → eval_steps (statements (map argument_tree args) tail) env k ≡ Some (map event_of args, v)
  statements_run [] tail v runs k = runs k
  statements_run (arg ∷ args) tail v runs k = rw (argument_runs arg k, statements_run args tail v runs (k + 1)) refl

-- the name of the tuple is bound to the references
module _ (items : LangItems) (there : AreThere items) (n : ℕ) (args : List Argument) (env : Environment)
    (bound : bound_value env (name.Fresh n) ≡ Some (TupleValue (references_from 0 args))) where
  -- an element is the value of its argument, made for its use
  element_runs : (argument : Reference) (usage : Use) → IsWithin (length args) argument → (k : ℕ)
      → eval (element items n (record { argument = argument; usage = usage })) env k ≡ Some ([], Made usage (At (field_number argument)))
  element_runs None usage within k = absurd within
  element_runs (Some place) usage within k = rw (there.argument, bound, reference_at args place 0 within, function_is usage) (ap (λ i. Some ([], Made usage (At i))) (omega arith))

  -- the elements are the values of their pairs
  elements_run : (pairs : List Pair) → AreWithin (length args) pairs → (k : ℕ) → eval_all (elements items n pairs) env k ≡ Some ([], values_of pairs)
  elements_run [] are k = refl
  elements_run (pair ∷ pairs) are k = rw (element_runs pair.argument pair.usage are.0 k, elements_run pairs are.1 (k + 0)) refl

-- the values of pairs are arguments for a template
values_made : (pairs : List Pair) → all_made (values_of pairs) ≡ true
values_made [] = refl
values_made (pair ∷ pairs) = values_made pairs

-- a template over a list that runs to the values of pairs
new_runs : (items : LangItems) → IsTrue items.format_arguments → (env : Environment) (bytes : List ℕ) (list : Tree) (pairs : List Pair)
    → ((k : ℕ) → eval list env k ≡ Some ([], ListValue (values_of pairs))) → (k : ℕ)
    → eval (new_code items bytes list) env k ≡ Some ([], Arguments bytes (values_of pairs))
new_runs items there env bytes list pairs runs k = rw (there, runs (k + 0), values_made pairs) refl

-- the value of the name that was bound last
last_bound : (n : ℕ) (v : Value) (env : Environment) → bound_value ((name.Fresh n, v) ∷ env) (name.Fresh n) ≡ Some v
last_bound n v env = rw (eq-eqb n n refl) refl

-- a tail that runs without an event, behind arguments
behind_runs : (args : List Argument) (tail : Tree) (v : Value) → ((k : ℕ) → eval tail [] k ≡ Some ([], v))
    → evaluation_of (behind_statements (map argument_tree args) tail) ≡ Some (map event_of args, v)
behind_runs [] tail v runs = runs 0
behind_runs (arg ∷ args) tail v runs = statements_run [] (λ text. refl) (arg ∷ args) tail v runs 0

-- both lets, and behind them the statements with the template as tail
lets_run : (items : LangItems) → AreThere items → (n : ℕ) (args : List Argument) (pairs : List Pair) → AreWithin (length args) pairs → (bytes : List ℕ) (orphans : List Argument)
    → evaluation_of (Block false (let_steps items n (map argument_tree args) pairs bytes (map argument_tree orphans)))
    ≡ Some (map event_of args ++ map event_of orphans, Arguments bytes (values_of pairs))
lets_run items there n args pairs are bytes orphans =
    let tuple = TupleValue (references_from 0 args) in
    let list = ListValue (values_of pairs) in
    let one : Environment = (name.Fresh n, tuple) ∷ [] in
    let two : Environment = (name.Fresh n, list) ∷ one in
    let elements_are = elements_run items there n args one (last_bound n tuple []) pairs are in
    let tail = new_runs items there.arguments two bytes (Path (name.Fresh n)) pairs (λ k. rw (last_bound n list one) refl) in
    let rest = statements_run two (λ text. refl) orphans (new_code items bytes (Path (name.Fresh n))) (Arguments bytes (values_of pairs)) tail in
    rw (references_run [] (λ text. refl) args 0, elements_are, rest, append-nil) refl

-- without arguments there is no pair
pub runs_once : RunsOnce
runs_once items there n [] [] are bytes orphans =
    behind_runs orphans (new_code items bytes (Array Empty)) (Arguments bytes value.Empty) (new_runs items there.arguments [] bytes (Array Empty) [] (λ k. refl))
runs_once items there n [] (pair ∷ pairs) are bytes orphans = absurd (none_within pair.argument are.0)
  where
    none_within : (argument : Reference) → IsWithin 0 argument → ⊥
    none_within None within = within
    none_within (Some place) within = omega (arith, within)
runs_once items there n (arg ∷ args) pairs are bytes orphans = lets_run items there n (arg ∷ args) pairs are bytes orphans

-- the call behind the statements
pub text_runs : TextRuns
text_runs items there args text = behind_runs args (from_str_code items text) (FromText text) (λ k. rw there refl)
