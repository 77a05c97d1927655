-- A format call in its surroundings: the literal that its template reaches, its arguments, and what the references of its text refer to.
use Rattle.std.specs.Prelude.{◌≡◌, ℕ, ◌+◌, Bool, false, if◌then◌else◌, List, [], ◌∷◌, ◌++◌, length, map, Option, Some, None, IsSome}
use Rattle.std.specs.Option.{option_and_then}
use Rattle.std.specs.List.{AllByRecursion}
use Rattle.std.specs.Map.{keys_of}
use Rattle.either.specs.declared.Either.{Either}
use Rattle.sym_core.specs.declared.files.HirFileId.{HirFileId}
use Rattle.sym_core.specs.declared.files.MacroCallId.{MacroCallId}
use Rattle.sym_core.specs.declared.name.Name.{Name}
use Rattle.sym_core.specs.declared.name.Name.TheVariants.{Text}
use Rattle.syn_trees.specs.declared.format_call.MacroCallSrc.{MacroCallSrc}
use Rattle.syn_trees.specs.declared.format_call.Template.{Template}
use Rattle.syn_trees.specs.declared.format_call.FormatCall.{FormatCall}
use Rattle.syn_trees.specs.declared.format_call.FormatArgSyntax.{FormatArgSyntax}
use Rattle.syn_trees.specs.declared.format_call.LeafSyntax.{LeafSyntax}
use Rattle.hir_expander.specs.Reached.{literal_of, is_direct}
use Rattle.hir_store.specs.declared.lang_item.LangItems.{LangItems}
use Rattle.hir_fmt.specs.References.{Source, references_of}
use Rattle.hir_fmt.specs.Referred.{captured, placed, refers, places_found, is_one_of}
use Rattle.hir_fmt.specs.Template.{template_of}
use Rattle.hir_fmt.specs.Parsed.{IsFormat}
use Rattle.fmt_parse.specs.declared.piece.Piece.{Piece}
use Rattle.code_meaning.specs.Write.{Write}
use Rattle.code_meaning.specs.Value.{Event}
use Rattle.template_bytes.specs.Canonical.{canonical_pieces}
use Rattle.template_bytes.specs.Canonical as canonical
use Rattle.format_code.specs.Laws.{AreThere}
use Rattle.format_code.specs.Code.{Argument, LeafArgument, NameArgument, event_of, write_with}

-- where calls stand: what macro calls lead to, the file, how deep expansions may lie, and which language items there are
pub record Surroundings : Type 0 where
  pub resolved : HirFileId → MacroCallSrc → Option MacroCallId
  pub expanded : MacroCallId → Option Template
  pub file : HirFileId
  pub limit : ℕ
  pub items : LangItems

-- the token of the literal that the template of a call reaches
abbrev pub token_in : Surroundings → FormatCall → Option (List ℕ)
token_in around call = option_and_then (literal_of around.resolved around.expanded around.limit around.file) call.template

-- the template is a literal itself
abbrev pub is_direct_if : Option Template → Bool
is_direct_if None = false
is_direct_if (Some template) = is_direct template

-- the text of a call, with its pieces: its template reaches a literal, which has this value, and the value has these pieces
pub record HasPieces (around : Surroundings) (call : FormatCall) (text : List ℕ) (pieces : List Piece) : Type 0 where
  pub token : List ℕ
  pub reached : token_in around call ≡ Some token
  pub format : IsFormat token text pieces

-- a call whose template reaches no literal, or one that has no value, or whose value is no format text
abbrev pub HasNoPieces : Surroundings → FormatCall → Type 0
HasNoPieces around call = (text : List ℕ) (pieces : List Piece) → HasPieces around call text pieces → ⊥

-- the name of a written argument with its place, where it bears one
abbrev pub name_at : Option (List ℕ) → ℕ → List (Name × ℕ)
name_at None at = []
name_at (Some name) at = (Text name, at) ∷ []

-- the names that written arguments bear, with their places, the first of which is this one
abbrev pub names_from : ℕ → List FormatArgSyntax → List (Name × ℕ)
names_from at [] = []
names_from at (arg ∷ args) = name_at arg.name at ++ names_from (at + 1) args

-- a text whose ranges are not spans of a token
abbrev pub plain : List ℕ → Source
plain text = record { text = text; shift = None }

-- the names that the text of a call captures: in a literal itself those that no written argument bears
abbrev pub captured_in : FormatCall → List ℕ → List Piece → List Name
captured_in call text pieces = captured (is_direct_if call.template) (keys_of (names_from 0 call.args)) (references_of (plain text) pieces)

-- the place of the argument that a reference of a call refers to: a number those that are written, a name the first of that name
abbrev pub place_in : FormatCall → List ℕ → List Piece → Either ℕ Name → Option ℕ
place_in call text pieces = refers (length call.args) (names_from 0 call.args ++ placed (length call.args) (captured_in call text pieces))

-- what the text of a call asks for: bytes, and placeholders with the places of the arguments that they refer to
abbrev pub pieces_in : FormatCall → List ℕ → List Piece → List (Write canonical.Reference)
pieces_in call text pieces = canonical_pieces (template_of (plain text) pieces (place_in call text pieces))

-- every written argument has an expression
abbrev pub AllThere : List FormatArgSyntax → Type 0
AllThere args = AllByRecursion (λ (arg : FormatArgSyntax). IsSome arg.expr) args

-- the number of an expression, where it is there, in front of others
abbrev pub with_leaf : Option LeafSyntax → List ℕ → List ℕ
with_leaf None leaves = leaves
with_leaf (Some leaf) leaves = leaf.leaf ∷ leaves

-- the numbers of the expressions that are there, in order
abbrev pub leaves_of : List FormatArgSyntax → List ℕ
leaves_of [] = []
leaves_of (arg ∷ args) = with_leaf arg.expr (leaves_of args)

-- a name as an argument
abbrev pub name_argument : Name → Argument
name_argument (Text text) = NameArgument text
name_argument _ = NameArgument []

-- the arguments of a call: those that are written, in order, then the names that its text captures
abbrev pub arguments_in : FormatCall → List ℕ → List Piece → List Argument
arguments_in call text pieces = map LeafArgument (leaves_of call.args) ++ map name_argument (captured_in call text pieces)

-- each of them is evaluated
abbrev pub events_in : FormatCall → List ℕ → List Piece → List Event
events_in call text pieces = map event_of (arguments_in call text pieces)

-- the places of the arguments that the text of a call refers to
abbrev pub places_in : FormatCall → List ℕ → List Piece → List ℕ
places_in call text pieces = places_found (place_in call text pieces) (references_of (plain text) pieces)

-- the written arguments, of which the first is at this place, that are at none of these places
abbrev pub not_at : List ℕ → ℕ → List FormatArgSyntax → List FormatArgSyntax
not_at places at [] = []
not_at places at (arg ∷ args) = if is_one_of places at then not_at places (at + 1) args else (arg ∷ not_at places (at + 1) args)

-- the written arguments that the text of a call does not refer to
abbrev pub unused_in : FormatCall → List ℕ → List Piece → List FormatArgSyntax
unused_in call text pieces = not_at (places_in call text pieces) 0 call.args

-- a call is complete: its text has pieces, all references are resolved, every written argument has an expression, and both language items
-- are there; the text then asks for these writes, with the place of an argument in place of its value
pub record IsComplete (around : Surroundings) (call : FormatCall) (text : List ℕ) (pieces : List Piece) (writes : List (Write ℕ)) : Type 0 where
  pub has : HasPieces around call text pieces
  pub resolved : pieces_in call text pieces ≡ map (write_with Some) writes
  pub there : AllThere call.args
  pub items : AreThere around.items

-- a call is well formed: it is complete, and its text refers to every written argument
pub record IsWellFormed (around : Surroundings) (call : FormatCall) (text : List ℕ) (pieces : List Piece) (writes : List (Write ℕ)) : Type 0 where
  pub complete : IsComplete around call text pieces writes
  pub used : unused_in call text pieces ≡ []
