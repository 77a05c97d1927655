-- What is proved of the code of a format call.
use Rattle.std.specs.Prelude.{◌≡◌, ℕ, false, IsTrue, List, ◌++◌, length, Some, map}
use Rattle.hir_store.specs.declared.lang_item.LangItems.{LangItems}
use Rattle.hir_store.specs.Tree.{Tree, trees, is_whole, all_whole}
use Rattle.code_meaning.specs.Write.{Write}
use Rattle.code_meaning.specs.Value.{Event, Value, At, Arguments, FromText}
use Rattle.code_meaning.specs.Evaluation.{evaluation_of}
use Rattle.code_meaning.specs.Meaning.{Writes, writes_in, meaning}
use Rattle.template_bytes.specs.Canonical.{Reference}
use Rattle.template_bytes.specs.Pairs.{Pair, pairs_of, items_among}
use Rattle.template_bytes.specs.Spelling.{IsCanonical}
use Rattle.format_code.specs.Code.{Argument, event_of, argument_tree, with_arguments, text_code, has_placeholder, text_of, format_code, events_of, values_of, AreWithin, AreBelow, write_with}

-- both language items are there
pub record AreThere (items : LangItems) : Type 0 where
  pub arguments : IsTrue items.format_arguments
  pub argument : IsTrue items.format_argument

-- code evaluates each argument once, in order, then each orphan, and gives the template with one value for each pair
abbrev pub RunsOnce : Type 0
RunsOnce = (items : LangItems) → AreThere items → (n : ℕ) (args : List Argument) (pairs : List Pair) → AreWithin (length args) pairs → (bytes : List ℕ) (orphans : List Argument)
    → evaluation_of (with_arguments items n (map argument_tree args) pairs bytes (map argument_tree orphans))
    ≡ Some (map event_of args ++ map event_of orphans, Arguments bytes (values_of pairs))

-- code without a placeholder evaluates each argument once, in order, and gives the text
abbrev pub TextRuns : Type 0
TextRuns = (items : LangItems) → IsTrue items.format_arguments → (args : List Argument) (text : List ℕ)
    → evaluation_of (text_code items (map argument_tree args) text) ≡ Some (map event_of args, FromText text)

-- over the values of their pairs, the items of resolved pieces write what the pieces write
abbrev pub ReadsBack : Type 0
ReadsBack = (writes : List (Write ℕ))
    → writes_in (values_of (pairs_of (map (write_with Some) writes))) (items_among (pairs_of (map (write_with Some) writes)) (map (write_with Some) writes))
    ≡ Some (map (write_with At) writes)

-- the canonical bytes of resolved pieces mean, over the values of their pairs, what the pieces write
abbrev pub MeansWrites : Type 0
MeansWrites = (writes : List (Write ℕ)) (bytes : List ℕ) → IsCanonical bytes (map (write_with Some) writes)
    → meaning (Arguments bytes (values_of (pairs_of (map (write_with Some) writes)))) ≡ Some (map (write_with At) writes)

-- the text of pieces without a placeholder means what the pieces write
abbrev pub TextMeans : Type 0
TextMeans = (writes : List (Write ℕ)) → has_placeholder (map (write_with Some) writes) ≡ false
    → meaning (FromText (text_of (map (write_with Some) writes))) ≡ Some (map (write_with At) writes)

-- where writes refer to this many arguments, so do the pairs of their pieces
abbrev pub PairsWithin : Type 0
PairsWithin = (count : ℕ) (writes : List (Write ℕ)) → AreBelow count writes → AreWithin count (pairs_of (map (write_with Some) writes))

-- code evaluates to a value that means these writes
pub record Evaluates (code : Tree) (events : List Event) (writes : Writes) : Type 0 where
  pub value : Value
  pub runs : evaluation_of code ≡ Some (events, value)
  pub means : meaning value ≡ Some writes

-- the code of a format call whose references are all resolved evaluates its arguments and its orphans, and means its writes;
-- bytes matter only where there is a placeholder
abbrev pub FormatRuns : Type 0
FormatRuns = (items : LangItems) → AreThere items → (n : ℕ) (args : List Argument) (writes : List (Write ℕ)) → AreBelow (length args) writes
    → (bytes : List ℕ) → (IsTrue (has_placeholder (map (write_with Some) writes)) → IsCanonical bytes (map (write_with Some) writes)) → (orphans : List Argument)
    → Evaluates (format_code items n (map argument_tree args) bytes (map (write_with Some) writes) (map argument_tree orphans))
    (events_of args (map (write_with Some) writes) orphans) (map (write_with At) writes)

-- code is whole where its arguments and its orphans are
abbrev pub StaysWhole : Type 0
StaysWhole = (items : LangItems) (n : ℕ) (args : List Tree) (bytes : List ℕ) (pieces : List (Write Reference)) (orphans : List Tree)
    → IsTrue (all_whole (trees args)) → IsTrue (all_whole (trees orphans)) → IsTrue (is_whole (format_code items n args bytes pieces orphans))
