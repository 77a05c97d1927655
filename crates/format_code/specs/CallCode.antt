-- The code of a format call: the tree that it is, whatever the call, and what it gives where the call is complete, or well formed.
use Rattle.std.specs.Prelude.{◌≡◌, ◌⊎◌, ℕ, IsTrue, List, [], ◌++◌, map, Option, Some, None}
use Rattle.syn_trees.specs.declared.format_call.FormatCall.{FormatCall}
use Rattle.syn_trees.specs.declared.format_call.FormatArgSyntax.{FormatArgSyntax}
use Rattle.syn_trees.specs.declared.format_call.LeafSyntax.{LeafSyntax}
use Rattle.hir_store.specs.Tree.{Tree, Missing, Leaf, Path}
use Rattle.fmt_parse.specs.declared.piece.Piece.{Piece}
use Rattle.code_meaning.specs.Write.{Write}
use Rattle.code_meaning.specs.Value.{Event, At}
use Rattle.template_bytes.specs.Spelling.{IsCanonical}
use Rattle.format_code.specs.Code.{LeafArgument, has_placeholder, format_code, events_of, event_of, write_with}
use Rattle.format_code.specs.Laws.{Evaluates}
use Rattle.format_code.specs.FormatCall.{Surroundings, HasPieces, HasNoPieces, captured_in, pieces_in, AllThere, leaves_of, arguments_in, events_in, unused_in, IsComplete, IsWellFormed}

-- the tree of a written argument
abbrev pub leaf_tree : Option LeafSyntax → Tree
leaf_tree None = Missing
leaf_tree (Some leaf) = Leaf leaf.leaf

abbrev pub written_tree : FormatArgSyntax → Tree
written_tree arg = leaf_tree arg.expr

-- the trees of a call's arguments: those that are written, in order, then a path for each name that its text captures
abbrev pub argument_trees : FormatCall → List ℕ → List Piece → List Tree
argument_trees call text pieces = map written_tree call.args ++ map Path (captured_in call text pieces)

-- the trees of the written arguments that the text does not refer to
abbrev pub unused_trees : FormatCall → List ℕ → List Piece → List Tree
unused_trees call text pieces = map written_tree (unused_in call text pieces)

-- the tree is the code of a call whose text has these pieces, where the fresh name has this number
pub record IsTreeOf (around : Surroundings) (call : FormatCall) (n : ℕ) (text : List ℕ) (pieces : List Piece) (tree : Tree) : Type 0 where
  pub has : HasPieces around call text pieces
  pub bytes : List ℕ
  pub canonical : IsTrue (has_placeholder (pieces_in call text pieces)) → IsCanonical bytes (pieces_in call text pieces)
  pub is : tree ≡ format_code around.items n (argument_trees call text pieces) bytes (pieces_in call text pieces) (unused_trees call text pieces)

-- the tree is the code of a call without pieces: all that is written, and an empty text
pub record IsTreeOfNone (around : Surroundings) (call : FormatCall) (n : ℕ) (tree : Tree) : Type 0 where
  pub none : HasNoPieces around call
  pub is : tree ≡ format_code around.items n (map written_tree call.args) [] [] []

-- the tree is the code of a call
abbrev pub IsCallTree : Surroundings → FormatCall → ℕ → Tree → Type 0
IsCallTree around call n tree = ((text : List ℕ) × (pieces : List Piece) × IsTreeOf around call n text pieces tree) ⊎ IsTreeOfNone around call n tree

-- the events of a complete call: its arguments in order, and behind them, where there is a placeholder, the written ones that its text does not refer to
abbrev pub complete_events : FormatCall → List ℕ → List Piece → List Event
complete_events call text pieces = events_of (arguments_in call text pieces) (pieces_in call text pieces) (map LeafArgument (leaves_of (unused_in call text pieces)))

-- the code of a complete call is evaluated so, and means what its text asks for
abbrev pub CompleteRuns : Type 0
CompleteRuns = (around : Surroundings) (call : FormatCall) (n : ℕ) (tree : Tree) (text : List ℕ) (pieces : List Piece) (writes : List (Write ℕ))
    → IsCallTree around call n tree → IsComplete around call text pieces writes → Evaluates tree (complete_events call text pieces) (map (write_with At) writes)

-- the code of a well formed call evaluates its arguments once each, in order, and means exactly what its text asks for
abbrev pub WellFormedRuns : Type 0
WellFormedRuns = (around : Surroundings) (call : FormatCall) (n : ℕ) (tree : Tree) (text : List ℕ) (pieces : List Piece) (writes : List (Write ℕ))
    → IsCallTree around call n tree → IsWellFormed around call text pieces writes → Evaluates tree (events_in call text pieces) (map (write_with At) writes)

-- the code of a call without pieces evaluates its arguments, where all are there, and means no writes
abbrev pub EmptyRuns : Type 0
EmptyRuns = (around : Surroundings) (call : FormatCall) (n : ℕ) (tree : Tree) → IsCallTree around call n tree → HasNoPieces around call → AllThere call.args → IsTrue around.items.format_arguments
    → Evaluates tree (map event_of (map LeafArgument (leaves_of call.args))) []
