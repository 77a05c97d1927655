-- What `parse` makes of a literal, and what it tells where it gives up.
use Rattle.std.specs.Prelude.{◌≡◌, ◌⊎◌, ℕ, Bool, true, List, [], map, Option, Some, None}
use Rattle.std.specs.Map.{keys_of}
use Rattle.sym_core.specs.declared.files.AstPtr.{AstPtr}
use Rattle.syn_trees.specs.Literal.{HasValue, IsUnescaped, IsBetweenQuotes}
use Rattle.fmt_parse.specs.declared.piece.Piece.{Piece}
use Rattle.fmt_parse.specs.Pieces.{ArePieces}
use Rattle.hir_fmt.specs.declared.format_args.FormatArguments.{FormatArguments}
use Rattle.hir_fmt.specs.declared.format_args.FormatArgs.{FormatArgs}
use Rattle.hir_fmt.specs.References.{Source, references_of}
use Rattle.hir_fmt.specs.Referred.{finder, orphans_of}
use Rattle.hir_fmt.specs.Template.{template_of}
use Rattle.hir_fmt.specs.Log.{Entry, Logs}
use Rattle.hir_fmt.specs.Walk.{told, told_by, with_made, Halts}

-- the literal has this value, and the value has these pieces
pub record IsFormat (token text : List ℕ) (pieces : List Piece) : Type 0 where
  pub value : HasValue token text
  pub are : ArePieces text pieces

-- the literal has no value, or one without pieces
abbrev pub IsNoFormat : List ℕ → Type 0
IsNoFormat token = (text : List ℕ) (pieces : List Piece) → IsFormat token text pieces → ⊥

-- spans are given exactly where the literal is direct, and its value is what stands between its quotes; they are shifted by what stands in front of that
abbrev pub HasShift : List ℕ → Bool → Option ℕ → Type 0
HasShift token direct None = direct ≡ true → IsUnescaped token → ⊥
HasShift token direct (Some by) = (direct ≡ true) × IsUnescaped token × ((end : ℕ) × IsBetweenQuotes token by end)

-- the text of the literal, its pieces, and by how much its ranges are shifted
pub record IsTextOf (token : List ℕ) (direct : Bool) (source : Source) (pieces : List Piece) : Type 0 where
  pub format : IsFormat token source.text pieces
  pub shift : HasShift token direct source.shift

-- the template, the arguments and the orphans of a text of these pieces; all that there is to tell was told
pub record IsMade (direct : Bool) (ptr : AstPtr) (source : Source) (pieces : List Piece) (args : FormatArguments) (log new_log : Option (List Entry)) (made : FormatArgs) : Type 0 where
  pub entries : List Entry
  pub told : map told_by entries ≡ told direct (keys_of args.names) (references_of source pieces)
  pub logged : Logs log entries new_log
  pub template : made.template ≡ template_of source pieces (finder direct args (references_of source pieces))
  pub arguments : made.arguments ≡ with_made ptr args entries
  pub orphans : made.orphans ≡ orphans_of direct args (references_of source pieces)

-- this was made of the literal's text
pub record MakesTemplate (token : List ℕ) (direct : Bool) (ptr : AstPtr) (args : FormatArguments) (log new_log : Option (List Entry)) (made : FormatArgs) : Type 0 where
  pub source : Source
  pub pieces : List Piece
  pub is : IsTextOf token direct source pieces
  pub made_is : IsMade direct ptr source pieces args log new_log made

-- an empty template, the arguments as they were, and no orphans; nothing was told
pub record MakesNothing (token : List ℕ) (args : FormatArguments) (log new_log : Option (List Entry)) (made : FormatArgs) : Type 0 where
  pub none : IsNoFormat token
  pub template : made.template ≡ []
  pub arguments : made.arguments ≡ args
  pub orphans : made.orphans ≡ []
  pub kept : new_log ≡ log

abbrev pub Makes : List ℕ → Bool → AstPtr → FormatArguments → Option (List Entry) → Option (List Entry) → FormatArgs → Type 0
Makes token direct ptr args log new_log made = MakesTemplate token direct ptr args log new_log made ⊎ MakesNothing token args log new_log made

-- a front of what there is to tell was told
pub record TellsFront (token : List ℕ) (direct : Bool) (args : FormatArguments) (log new_log : Option (List Entry)) : Type 0 where
  pub source : Source
  pub pieces : List Piece
  pub is : IsTextOf token direct source pieces
  pub front : Halts direct (references_of source pieces) args log new_log

abbrev pub GivesUp : List ℕ → Bool → FormatArguments → Option (List Entry) → Option (List Entry) → Type 0
GivesUp token direct args log new_log = (new_log ≡ log) ⊎ TellsFront token direct args log new_log
