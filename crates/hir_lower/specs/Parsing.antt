-- Parsing the text of a format call, and placing the expressions of the names that it captures.
use Rattle.std.specs.Prelude.{◌≡◌, ◌⊎◌, ℕ, Bool, List, [], length, Some}
use Rattle.std.specs.Map.{keys_of}
use Rattle.fmt_parse.specs.declared.piece.Piece.{Piece}
use Rattle.hir_store.specs.declared.store.ExpressionStore.{ExpressionStore}
use Rattle.hir_build.specs.Frame.{Frame}
use Rattle.hir_build.specs.Building.{Builds, Outgrows}
use Rattle.hir_fmt.specs.declared.format_args.FormatArguments.{FormatArguments}
use Rattle.hir_fmt.specs.References.{Source, references_of}
use Rattle.hir_fmt.specs.Referred.{captured}
use Rattle.hir_fmt.specs.Log.{Entry}
use Rattle.hir_fmt.specs.Parsed.{IsTextOf, Makes}
use Rattle.hir_lower.specs.declared.captures.Template.{Template}
use Rattle.hir_lower.specs.declared.captures.Parsed.{Parsed}
use Rattle.hir_lower.specs.Captures.{usages_of, Places}

-- the template, the arguments and the orphans of a text, its uses of names, and the expressions of those that it captures
pub record IsParsed (template : Template) (args : FormatArguments) (old : Frame) (parsed : Parsed) (new : Frame) : Type 0 where
  pub entries : List Entry
  pub makes : Makes template.literal.now template.is_direct template.ptr args (Some []) (Some entries) parsed.fmt
  pub usages : parsed.usages ≡ usages_of entries
  pub places : Places template.ptr old entries new

-- how many names a text of these pieces captures
abbrev pub captured_count : Bool → FormatArguments → Source → List Piece → ℕ
captured_count direct args source pieces = length (captured direct (keys_of args.names) (references_of source pieces))

-- the text captures this many names
pub record CapturesAll (template : Template) (args : FormatArguments) (count : ℕ) : Type 0 where
  pub source : Source
  pub pieces : List Piece
  pub is : IsTextOf template.literal.now template.is_direct source pieces
  pub all : count ≡ captured_count template.is_direct args source pieces

-- as many as the text captures, or none
abbrev pub CapturesSome : Template → FormatArguments → ℕ → Type 0
CapturesSome template args count = (count ≡ 0) ⊎ CapturesAll template args count

-- the store grew by no more expressions
pub record BuildsCaptures (template : Template) (args : FormatArguments) (old new : Frame) : Type 0 where
  pub count : ℕ
  pub some : CapturesSome template args count
  pub builds : Builds old new count 0

-- the expressions of as many names do not fit
pub record OutgrowsCaptures (template : Template) (args : FormatArguments) (store : ExpressionStore) : Type 0 where
  pub count : ℕ
  pub some : CapturesSome template args count
  pub outgrows : Outgrows store count 0
