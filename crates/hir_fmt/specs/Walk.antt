-- Looking up references, one after the other: what is told, and what was found.
use Rattle.std.specs.Prelude.{◌≡◌, ℕ, Bool, true, false, List, [], ◌∷◌, ◌++◌, length, map, Option, Some}
use Rattle.std.specs.Map.{keys_of}
use Rattle.either.specs.declared.Either.{Either}
use Rattle.either.specs.declared.Either.TheVariants.{Left, Right}
use Rattle.sym_core.specs.declared.files.AstPtr.{AstPtr}
use Rattle.sym_core.specs.declared.name.Name.{Name}
use Rattle.sym_core.specs.declared.text_range.TextRange.{TextRange}
use Rattle.hir_store.specs.declared.ids.ExprId.{ExprId}
use Rattle.hir_fmt.specs.declared.format_args.FormatArgument.{FormatArgument}
use Rattle.hir_fmt.specs.declared.format_args.FormatArguments.{FormatArguments}
use Rattle.hir_fmt.specs.declared.format_args.FormatArgumentKind.TheVariants.{Captured}
use Rattle.hir_fmt.specs.declared.reference.Reference.{Reference}
use Rattle.hir_fmt.specs.Firsts.{first_place}
use Rattle.hir_fmt.specs.Referred.{is_among, new_if, captured, placed, finder}
use Rattle.hir_fmt.specs.Log.{Entry, Usage, Made, Logs}

-- what is told of a name: that it is used, or that an expression is asked for
pub data Told : Type 0 where
  Used : Name → Option TextRange → Told
  Asked : Name → Option TextRange → Told

-- a name that an argument bears is used; a name that none bears is used and asked for in a direct literal, and not told in any other
abbrev pub told_name : Bool → Bool → Name → Option TextRange → List Told
told_name true direct name span = Used name span ∷ []
told_name false true name span = Used name span ∷ Asked name span ∷ []
told_name false false name span = []

abbrev pub told_wanted : Bool → List Name → Either ℕ Name → Option TextRange → List Told
told_wanted direct known (Left n) span = []
told_wanted direct known (Right name) span = told_name (is_among known name) direct name span

-- what is told of references, where arguments bear the known names: of each in its turn, and what it captures is known to those behind it
abbrev pub told : Bool → List Name → List Reference → List Told
told direct known [] = []
told direct known (r ∷ refs) = told_wanted direct known r.wanted r.span ++ told direct (known ++ captured direct known (r ∷ [])) refs

-- what an entry of a log was told by
abbrev pub told_by : Entry → Told
told_by (Usage name span) = Used name span
told_by (Made name span id) = Asked name span

-- the names that were asked for
abbrev pub asked_names : List Told → List Name
asked_names [] = []
asked_names (Used name span ∷ ts) = asked_names ts
asked_names (Asked name span ∷ ts) = name ∷ asked_names ts

-- the argument that captures a name
abbrev pub captured_argument : AstPtr → Name → ExprId → FormatArgument
captured_argument ptr name id = record { kind = Captured name; expr = id; syntax = Some ptr }

-- the arguments that capture names, by the expressions that were made for them
abbrev pub arguments_made : AstPtr → List Entry → List FormatArgument
arguments_made ptr [] = []
arguments_made ptr (Usage name span ∷ entries) = arguments_made ptr entries
arguments_made ptr (Made name span id ∷ entries) = captured_argument ptr name id ∷ arguments_made ptr entries

-- the arguments with those that capture names behind them
abbrev pub with_made : AstPtr → FormatArguments → List Entry → FormatArguments
with_made ptr args entries = record args {
  arguments = args.arguments ++ arguments_made ptr entries;
  names = args.names ++ placed (length args.arguments) (asked_names (map told_by entries));
}

-- these references were looked up, and the answer is the value of what they refer to, whatever references follow
pub record Finds {A : Type 0} (direct : Bool) (ptr : AstPtr) (refs : List Reference) (value : (Either ℕ Name → Option ℕ) → A) (old : FormatArguments) (log : Option (List Entry)) (new : FormatArguments) (new_log : Option (List Entry)) (answer : A) : Type 0 where
  pub entries : List Entry
  pub told : map told_by entries ≡ told direct (keys_of old.names) refs
  pub logged : Logs log entries new_log
  pub arguments : new ≡ with_made ptr old entries
  pub finds : (more : List Reference) → answer ≡ value (finder direct old (refs ++ more))

-- looking these references up was refused: a front of what there was to tell was told
pub record Halts (direct : Bool) (refs : List Reference) (old : FormatArguments) (log new_log : Option (List Entry)) : Type 0 where
  pub entries : List Entry
  pub rest : List Told
  pub cut : told direct (keys_of old.names) refs ≡ map told_by entries ++ rest
  pub logged : Logs log entries new_log

-- what a reference refers to
abbrev pub place_for : Reference → (Either ℕ Name → Option ℕ) → Option ℕ
place_for r find = find r.wanted

-- a name was looked up, and this is its place, whatever names are wanted behind it
pub record Looks (direct : Bool) (ptr : AstPtr) (name : Name) (span : Option TextRange) (old : FormatArguments) (log : Option (List Entry)) (new : FormatArguments) (new_log : Option (List Entry)) (place : Option ℕ) : Type 0 where
  pub entries : List Entry
  pub told : map told_by entries ≡ told_name (is_among (keys_of old.names) name) direct name span
  pub logged : Logs log entries new_log
  pub arguments : new ≡ with_made ptr old entries
  pub finds : (more : List Name) → place ≡ first_place (old.names ++ placed (length old.arguments) (new_if direct (keys_of old.names) (name ∷ more))) name

-- looking a name up was refused: a front of what there was to tell was told
pub record Stops (direct : Bool) (name : Name) (span : Option TextRange) (old : FormatArguments) (log new_log : Option (List Entry)) : Type 0 where
  pub entries : List Entry
  pub rest : List Told
  pub cut : told_name (is_among (keys_of old.names) name) direct name span ≡ map told_by entries ++ rest
  pub logged : Logs log entries new_log

-- an argument was made of a name that none bears, and this is its place
pub record IsCaptured (ptr : AstPtr) (name : Name) (span : Option TextRange) (old : FormatArguments) (log : Option (List Entry)) (new : FormatArguments) (new_log : Option (List Entry)) (at : ℕ) : Type 0 where
  pub id : ExprId
  pub logged : Logs log (Usage name span ∷ Made name span id ∷ []) new_log
  pub arguments : new ≡ with_made ptr old (Usage name span ∷ Made name span id ∷ [])
  pub place : at ≡ length old.arguments

-- making an argument of a name was refused: a front of what there was to tell was told
pub record StopsCapture (name : Name) (span : Option TextRange) (log new_log : Option (List Entry)) : Type 0 where
  pub entries : List Entry
  pub rest : List Told
  pub cut : Used name span ∷ Asked name span ∷ [] ≡ map told_by entries ++ rest
  pub logged : Logs log entries new_log
