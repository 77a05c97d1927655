-- What the text of a format call tells of names, as the lowering takes it: uses that have a span, and expressions that are placed for the names that the text captures.
use Rattle.std.specs.Prelude.{◌≡◌, ℕ, ◌+◌, ◌≤◌, min, List, [], ◌∷◌, length, Option, Some, None, option_map, ⊤}
use Rattle.sym_core.specs.declared.files.AstPtr.{AstPtr}
use Rattle.sym_core.specs.declared.name.Name.{Name}
use Rattle.sym_core.specs.declared.text_range.TextRange.{TextRange}
use Rattle.hir_store.specs.declared.ids.ExprId.{ExprId}
use Rattle.hir_store.specs.declared.source.CaptureSource.{CaptureSource}
use Rattle.hir_store.specs.Tree.{Path}
use Rattle.hir_store.specs.Unfolding.{place_of}
use Rattle.hir_build.specs.Frame.{Frame}
use Rattle.hir_build.specs.Placed.{Placed}
use Rattle.hir_build.specs.Captures.{capture_origin}
use Rattle.hir_build.specs.Building.{Builds}
use Rattle.hir_fmt.specs.Log.{Entry, Usage, Made}

-- the uses that have a span, in order
abbrev pub usages_of : List Entry → List (TextRange × Name)
usages_of [] = []
usages_of (Usage name (Some span) ∷ entries) = (span, name) ∷ usages_of entries
usages_of (Usage name None ∷ entries) = usages_of entries
usages_of (Made name span id ∷ entries) = usages_of entries

-- for how many names an expression is made
abbrev pub made_count : List Entry → ℕ
made_count [] = 0
made_count (Usage name span ∷ entries) = made_count entries
made_count (Made name span id ∷ entries) = made_count entries + 1

-- the index behind an index; there is none behind the last
abbrev pub behind : ℕ → ℕ
behind place = min (place + 1) 4_294_967_295

-- expressions are made at one index behind the other, from this one on
abbrev pub AreNumbered : ℕ → List Entry → Type 0
AreNumbered place [] = ⊤
AreNumbered place (Usage name span ∷ entries) = AreNumbered place entries
AreNumbered place (Made name span id ∷ entries) = (place_of id ≡ place) × AreNumbered (behind place) entries

-- the index behind those of the expressions that are made
abbrev pub number_behind : ℕ → List Entry → ℕ
number_behind place [] = place
number_behind place (Usage name span ∷ entries) = number_behind place entries
number_behind place (Made name span id ∷ entries) = number_behind (behind place) entries

-- the index that the next expression gets, if there is one left
abbrev pub next_index : Frame → ℕ
next_index frame = min (length frame.store.exprs) 4_294_967_295

-- a span of a template as a place where it captures a name
abbrev pub source_in : AstPtr → Option TextRange → Option CaptureSource
source_in template span = option_map (λ range. record { template = template; range = range }) span

-- the expression is the path of a name that the template captures, and stands at this place or behind it
pub record IsCapture (frame : Frame) (template : AstPtr) (from : ℕ) (name : Name) (span : Option TextRange) (id : ExprId) : Type 0 where
  pub placed : Placed frame.store id (Path name) (capture_origin frame.file None (source_in template span) ∷ [])
  pub later : from ≤ place_of id

-- the expressions that are made for names are placed
abbrev pub AreMade : Frame → AstPtr → ℕ → List Entry → Type 0
AreMade frame template from [] = ⊤
AreMade frame template from (Usage name span ∷ entries) = AreMade frame template from entries
AreMade frame template from (Made name span id ∷ entries) = IsCapture frame template from name span id × AreMade frame template from entries

-- the expressions that are made for names were placed, one behind the other, and nothing else
pub record Places (template : AstPtr) (old : Frame) (entries : List Entry) (new : Frame) : Type 0 where
  pub made : AreMade new template (length old.store.exprs) entries
  pub next : next_index new ≡ number_behind (next_index old) entries
  pub builds : Builds old new (made_count entries) 0
