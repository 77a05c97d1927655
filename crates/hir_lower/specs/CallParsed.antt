-- What is made of the text of a call, in the call's surroundings.
use Rattle.std.specs.Prelude.{◌≡◌, ◌⊎◌, ℕ, ◌+◌, ◌≤◌, Bool, List, [], length, Option, Some, option_map, IfSome}
use Rattle.std.specs.Borrow.{Bor}
use Rattle.syn_trees.specs.declared.format_call.FormatCall.{FormatCall}
use Rattle.fmt_parse.specs.declared.piece.Piece.{Piece}
use Rattle.hir_store.specs.declared.store.ExpressionStore.{ExpressionStore}
use Rattle.hir_build.specs.Building.{Builds, Outgrows}
use Rattle.hir_build.specs.Frame.{Frame}
use Rattle.hir_fmt.specs.declared.format_args.FormatArguments.{FormatArguments}
use Rattle.hir_fmt.specs.References.{Source}
use Rattle.hir_fmt.specs.Log.{Entry}
use Rattle.hir_fmt.specs.Parsed.{IsTextOf, IsMade}
use Rattle.format_code.specs.FormatCall.{Surroundings, token_in, is_direct_if, HasNoPieces}
use Rattle.hir_lower.specs.declared.captures.Parsed.{Parsed}
use Rattle.hir_lower.specs.Captures.{usages_of, AreMade}

-- the literal that the template of a call reaches, and whether the template is that literal itself
pub record IsReached (around : Surroundings) (call : FormatCall) (reached : Option (Bor (List ℕ) × Bool)) : Type 0 where
  pub literal : option_map (λ found. found.0.now) reached ≡ token_in around call
  pub direct : IfSome reached (λ found. found.1 ≡ is_direct_if call.template)

-- the text of a call was parsed to its pieces, and the expressions of the names that it captures are placed
pub record ParsesPieces (around : Surroundings) (call : FormatCall) (args : FormatArguments) (frame : Frame) (parsed : Parsed) : Type 0 where
  pub token : List ℕ
  pub reached : token_in around call ≡ Some token
  pub source : Source
  pub pieces : List Piece
  pub is : IsTextOf token (is_direct_if call.template) source pieces
  pub log : Option (List Entry)
  pub made : IsMade (is_direct_if call.template) call.template_ptr source pieces args (Some []) log parsed.fmt
  pub from : ℕ
  pub there : AreMade frame call.template_ptr from made.entries
  pub usages : parsed.usages ≡ usages_of made.entries

-- a call without pieces: no template, and the arguments as they are
pub record ParsesNone (around : Surroundings) (call : FormatCall) (args : FormatArguments) (parsed : Parsed) : Type 0 where
  pub none : HasNoPieces around call
  pub template : parsed.fmt.template ≡ []
  pub arguments : parsed.fmt.arguments ≡ args
  pub orphans : parsed.fmt.orphans ≡ []
  pub usages : parsed.usages ≡ []

abbrev pub Parses : Surroundings → FormatCall → FormatArguments → Frame → Parsed → Type 0
Parses around call args frame parsed = ParsesPieces around call args frame parsed ⊎ ParsesNone around call args parsed

-- the store grew by so many expressions that, with so many more, they are no more than the most
pub record GrowsWithin (old new : Frame) (more most : ℕ) : Type 0 where
  pub count : ℕ
  pub builds : Builds old new count 0
  pub fits : more + count ≤ most

-- so many expressions don't fit that, with so many more, are no more than the most
pub record OutgrowsWithin (store : ExpressionStore) (more most : ℕ) : Type 0 where
  pub count : ℕ
  pub outgrows : Outgrows store count 0
  pub fits : more + count ≤ most

-- the store grew
abbrev pub GrowsSome : Frame → Frame → ℕ → Type 0
GrowsSome old new lets = (count : ℕ) × Builds old new count lets

-- the expressions of captured names were placed, one for each argument more
pub record PlacesArguments (old new : Frame) (args : FormatArguments) (parsed : Parsed) : Type 0 where
  pub count : ℕ
  pub builds : Builds old new count 0
  pub sum : length args.arguments + count ≡ length parsed.fmt.arguments.arguments
