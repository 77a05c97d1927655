-- What the code of a format call is in a store: its tree, where each of its expressions comes from, and what it captures.
use Rattle.std.specs.Prelude.{◌≡◌, ◌⊎◌, ℕ, ◌<◌, List, [], ◌∷◌, ◌++◌, length, map, Option, Some, None}
use Rattle.std.specs.Map.{keys_of}
use Rattle.sym_core.specs.declared.files.AstPtr.{AstPtr}
use Rattle.sym_core.specs.declared.files.HirFileId.{HirFileId}
use Rattle.sym_core.specs.declared.name.Name.{Name}
use Rattle.sym_core.specs.declared.text_range.TextRange.{TextRange}
use Rattle.syn_trees.specs.declared.format_call.FormatCall.{FormatCall}
use Rattle.fmt_parse.specs.declared.piece.Piece.{Piece}
use Rattle.hir_store.specs.declared.ids.ExprId.{ExprId}
use Rattle.hir_store.specs.declared.store.ExpressionStore.{ExpressionStore}
use Rattle.hir_store.specs.Unfolding.{place_of, tree_at}
use Rattle.hir_store.specs.Entries.{entry_at}
use Rattle.hir_build.specs.Origins.{Origin, origins_at}
use Rattle.hir_build.specs.Captures.{capture_origin}
use Rattle.hir_fmt.specs.References.{Source, references_of}
use Rattle.hir_fmt.specs.Walk.{Told, Used, Asked, told}
use Rattle.hir_fmt.specs.Parsed.{IsTextOf}
use Rattle.format_code.specs.FormatCall.{Surroundings, token_in, is_direct_if, HasNoPieces, names_from, captured_in, pieces_in, unused_in}
use Rattle.format_code.specs.CallCode.{IsCallTree}
use Rattle.hir_lower.specs.FormatOrigins.{format_origins}
use Rattle.hir_lower.specs.Captures.{source_in}
use Rattle.hir_lower.specs.Written.{written_syntax, written_origins}

-- what the text of a call tells of names: each use of one that an argument bears, and each that it captures
abbrev pub told_in : FormatCall → Source → List Piece → List Told
told_in call source pieces = told (is_direct_if call.template) (keys_of (names_from 0 call.args)) (references_of source pieces)

-- the paths of captured names come from where the text names them first, where it has spans
abbrev pub asked_origins : HirFileId → AstPtr → List Told → List (List Origin)
asked_origins file template [] = []
asked_origins file template (Used name span ∷ ts) = asked_origins file template ts
asked_origins file template (Asked name span ∷ ts) = (capture_origin file None (source_in template span) ∷ []) ∷ asked_origins file template ts

-- the uses that have a span, in order
abbrev pub usages_told : List Told → List (TextRange × Name)
usages_told [] = []
usages_told (Used name (Some span) ∷ ts) = (span, name) ∷ usages_told ts
usages_told (Used name None ∷ ts) = usages_told ts
usages_told (Asked name span ∷ ts) = usages_told ts

-- where the arguments of a call stand: those that are written where their expressions do, and captured ones at the template
abbrev pub syntaxes_in : FormatCall → List ℕ → List Piece → List (Option AstPtr)
syntaxes_in call text pieces = map written_syntax call.args ++ map (λ (name : Name). Some call.template_ptr) (captured_in call text pieces)

-- the origins of the code of a call
abbrev pub origins_in : Surroundings → FormatCall → Source → List Piece → List Origin
origins_in around call source pieces =
    format_origins around.file around.items call.ptr (syntaxes_in call source.text pieces)
    (map (written_origins around.file) call.args ++ asked_origins around.file call.template_ptr (told_in call source pieces))
    (map (written_origins around.file) (unused_in call source.text pieces))
    (pieces_in call source.text pieces)

-- the origins of the code are those of a call whose text has these pieces, and so are its captures
pub record ComesFrom (around : Surroundings) (call : FormatCall) (source : Source) (pieces : List Piece) (store : ExpressionStore) (id : ExprId) : Type 0 where
  pub token : List ℕ
  pub reached : token_in around call ≡ Some token
  pub is : IsTextOf token (is_direct_if call.template) source pieces
  pub origins : origins_at store id ≡ origins_in around call source pieces
  pub captures : entry_at store.format_args_to_captures (place_of id) ≡ Some (usages_told (told_in call source pieces))

-- the origins of the code are those of a call without pieces, which captures nothing
pub record ComesFromNone (around : Surroundings) (call : FormatCall) (store : ExpressionStore) (id : ExprId) : Type 0 where
  pub none : HasNoPieces around call
  pub origins : origins_at store id ≡ format_origins around.file around.items call.ptr (map written_syntax call.args) (map (written_origins around.file) call.args) [] []
  pub captures : entry_at store.format_args_to_captures (place_of id) ≡ Some []

abbrev pub HasSources : Surroundings → FormatCall → ExpressionStore → ExprId → Type 0
HasSources around call store id = ((source : Source) × (pieces : List Piece) × ComesFrom around call source pieces store id) ⊎ ComesFromNone around call store id

-- an index of the store is the code of a call, where the fresh name has this number
pub record IsCallCode (around : Surroundings) (call : FormatCall) (n : ℕ) (store : ExpressionStore) (id : ExprId) : Type 0 where
  pub within : place_of id < length store.exprs
  pub tree : IsCallTree around call n (tree_at store id)
  pub sources : HasSources around call store id
