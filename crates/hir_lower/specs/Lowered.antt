-- What the outcomes of calls are: each call is off exactly where one of its predicates evaluates to false; else it has code. The evaluation of
-- the code of a well formed call runs through, and its value means what the call's text asks for.
use Rattle.std.specs.Prelude.{◌≡◌, ◌⊎◌, ℕ, ◌+◌, ◌*◌, ◌<◌, ◌≤◌, true, false, cond, suc, IsTrue, List, [], ◌∷◌, length, map, Option}
use Rattle.hir_store.specs.declared.ids.ExprId.{ExprId}
use Rattle.hir_store.specs.declared.store.ExpressionStore.{ExpressionStore}
use Rattle.hir_store.specs.Unfolding.{place_of, tree_at}
use Rattle.code_meaning.specs.Write.{Write}
use Rattle.code_meaning.specs.Value.{At}
use Rattle.ra_cfg.specs.Options.{OptionSet}
use Rattle.ra_cfg.specs.declared.cfg_expr.CfgExpr.{CfgExpr}
use Rattle.ra_cfg.specs.Reading.{is_off}
use Rattle.cfg_dnf.specs.Hints.{Reason, reason}
use Rattle.cfg_dnf.specs.Joined.{joined}
use Rattle.syn_trees.specs.declared.format_call.FormatCall.{FormatCall}
use Rattle.syn_trees.specs.declared.format_call.Template.{Template}
use Rattle.hir_expander.specs.Reached.{literal_of}
use Rattle.hir_asm.specs.Lowered.{IsAsmCode}
use Rattle.hir_asm.specs.Lowered as asm
use Rattle.gated_calls.specs.declared.call.GatedCall.{GatedCall}
use Rattle.gated_calls.specs.declared.call.Call.{Call}
use Rattle.gated_calls.specs.declared.call.Call.TheVariants.{Format, Asm}
use Rattle.fmt_parse.specs.declared.piece.Piece.{Piece}
use Rattle.template_bytes.specs.Pairs.{pairs_of}
use Rattle.format_code.specs.Code.{LeafArgument, event_of, write_with}
use Rattle.format_code.specs.Laws.{Evaluates}
use Rattle.format_code.specs.FormatCall.{Surroundings, HasPieces, HasNoPieces, captured_in, pieces_in, AllThere, leaves_of, events_in, IsComplete, IsWellFormed}
use Rattle.format_code.specs.CallCode.{complete_events}
use Rattle.hir_build.specs.Building.{Builds}
use Rattle.hir_build.specs.Frame.{Frame}
use Rattle.hir_lower.specs.declared.outcome.Outcome.{Outcome}
use Rattle.hir_lower.specs.declared.outcome.Outcome.TheVariants.{Off, Code}
use Rattle.hir_lower.specs.CallCode.{IsCallCode}
use Rattle.hir_lower.specs.CallParsed.{GrowsSome}

-- the code of a `format_args!`: its tree and where it comes from; that of a well formed call evaluates the arguments once each, in order,
-- and means exactly what the call's text asks for; that of a complete call evaluates those that its text does not refer to once more, behind
-- all; that of a call without pieces evaluates the arguments, and writes nothing
pub record IsFormatCode (around : Surroundings) (store : ExpressionStore) (call : FormatCall) (id : ExprId) : Type 0 where
  pub fresh : ℕ
  pub is : IsCallCode around call fresh store id
  pub writes : (text : List ℕ) (pieces : List Piece) (writes : List (Write ℕ)) → IsWellFormed around call text pieces writes → Evaluates (tree_at store id) (events_in call text pieces) (map (write_with At) writes)
  pub complete : (text : List ℕ) (pieces : List Piece) (writes : List (Write ℕ)) → IsComplete around call text pieces writes → Evaluates (tree_at store id) (complete_events call text pieces) (map (write_with At) writes)
  pub empty : HasNoPieces around call → AllThere call.args → IsTrue around.items.format_arguments → Evaluates (tree_at store id) (map event_of (map LeafArgument (leaves_of call.args))) []

-- the literal that a template reaches where calls stand
abbrev pub reaches : Surroundings → Template → Option (List ℕ)
reaches around template = literal_of around.resolved around.expanded around.limit around.file template

-- the code of a call
abbrev pub IsCode : OptionSet → Surroundings → ExpressionStore → Call → ExprId → Type 0
IsCode options around store (Format call) id = IsFormatCode around store call id
IsCode options around store (Asm call) id = IsAsmCode options (reaches around) around.file call store id

-- a call is off: one of its predicates, by itself, evaluates to false; why, and what is told of its predicates taken together
pub record IsOff (options : OptionSet) (call : GatedCall) (why : Option Reason) (dnf : CfgExpr) : Type 0 where
  pub off : is_off options call.cfgs ≡ true
  pub joins : dnf ≡ joined call.cfgs
  pub reason : why ≡ reason options (joined call.cfgs)

-- what becomes of a call under options: off exactly where one of its predicates, each by itself, evaluates to false; else code
abbrev pub IsOutcome : OptionSet → Surroundings → ExpressionStore → GatedCall → Outcome → Type 0
IsOutcome options around store call (Off why dnf) = IsOff options call why dnf
IsOutcome options around store call (Code id) = (is_off options call.cfgs ≡ false) × IsCode options around store call.call id

-- one outcome for each call, in order
abbrev pub AreOutcomes : OptionSet → Surroundings → ExpressionStore → List GatedCall → List Outcome → Type 0
AreOutcomes options around store [] [] = Unit {0}
AreOutcomes options around store [] (outcome ∷ outcomes) = ⊥
AreOutcomes options around store (call ∷ calls) [] = ⊥
AreOutcomes options around store (call ∷ calls) (outcome ∷ outcomes) = IsOutcome options around store call outcome × AreOutcomes options around store calls outcomes

-- the places of the codes rise strictly, and none is below the least
abbrev pub AreRising : ℕ → List Outcome → Type 0
AreRising least [] = Unit {0}
AreRising least (Off why dnf ∷ outcomes) = AreRising least outcomes
AreRising least (Code id ∷ outcomes) = (least ≤ place_of id) × AreRising (suc (place_of id)) outcomes

-- the code of an outcome is at this place or behind it
abbrev pub IsFrom : ℕ → Outcome → Type 0
IsFrom least (Off why dnf) = Unit {0}
IsFrom least (Code id) = least ≤ place_of id

-- the code of an outcome is in the store
abbrev pub IsInStore : ExpressionStore → Outcome → Type 0
IsInStore store (Off why dnf) = Unit {0}
IsInStore store (Code id) = place_of id < length store.exprs

-- each code of the outcomes is in the store
abbrev pub AreInStore : ExpressionStore → List Outcome → Type 0
AreInStore store [] = Unit {0}
AreInStore store (outcome ∷ outcomes) = IsInStore store outcome × AreInStore store outcomes

-- the most expressions that a call of n arguments, captured ones among them, and p pairs places
abbrev pub most_of : ℕ → ℕ → ℕ
most_of n p = 2 * n + 4 * p + 9

-- this is the most that a call places
abbrev pub IsMost : Surroundings → FormatCall → ℕ → Type 0
IsMost around call most =
    ((text : List ℕ) × (pieces : List Piece) × HasPieces around call text pieces × (most ≡ most_of (length call.args + length (captured_in call text pieces)) (length (pairs_of (pieces_in call text pieces)))))
    ⊎ (HasNoPieces around call × (most ≡ most_of (length call.args) 0))

abbrev pub IsMostOf : Surroundings → Call → ℕ → Type 0
IsMostOf around (Format call) most = IsMost around call most
IsMostOf around (Asm call) most = most ≡ asm.most_of call

-- this is the most that a gated call places: nothing where it is off
abbrev pub IsMostGated : OptionSet → Surroundings → GatedCall → ℕ → Type 0
IsMostGated options around call most = ((is_off options call.cfgs ≡ true) × (most ≡ 0)) ⊎ ((is_off options call.cfgs ≡ false) × IsMostOf around call.call most)

-- this is the most that calls place
abbrev pub AreMost : OptionSet → Surroundings → List GatedCall → ℕ → Type 0
AreMost options around [] most = most ≡ 0
AreMost options around (call ∷ calls) most = (one : ℕ) × (rest : ℕ) × IsMostGated options around call one × AreMost options around calls rest × (most ≡ one + rest)

-- the most patterns that a call places, and the most bindings
abbrev pub lets_in : Call → ℕ
lets_in (Format call) = 2
lets_in (Asm call) = 0

-- those that a gated call places: none where it is off
abbrev pub lets_of : OptionSet → GatedCall → ℕ
lets_of options call = cond (is_off options call.cfgs) 0 (lets_in call.call)

-- the most patterns that calls place, and the most bindings
abbrev pub most_lets : OptionSet → List GatedCall → ℕ
most_lets options [] = 0
most_lets options (call ∷ calls) = lets_of options call + most_lets options calls

-- the code of a call was placed: it is in the new store, behind all that was in the old one
pub record PlacesCall (options : OptionSet) (around : Surroundings) (old : Frame) (call : Call) (id : ExprId) (new : Frame) : Type 0 where
  pub code : IsCode options around new.store call id
  pub within : place_of id < length new.store.exprs
  pub later : length old.store.exprs ≤ place_of id
  pub grown : GrowsSome old new (lets_in call)
  pub builds : (most : ℕ) → IsMostOf around call most → Builds old new most (lets_in call)

-- a gated call was lowered: an off call leaves all as it was; the code of any other was placed
abbrev pub LowersCall : OptionSet → Surroundings → GatedCall → Outcome → Frame → Frame → Type 0
LowersCall options around call (Off why dnf) old new = IsOff options call why dnf × (new ≡ old)
LowersCall options around call (Code id) old new = (is_off options call.cfgs ≡ false) × PlacesCall options around old call.call id new

-- calls were lowered one after the other, with one outcome each: every call takes what the calls in front of it left
abbrev pub Lowers : OptionSet → Surroundings → List GatedCall → List Outcome → Frame → Frame → Type 0
Lowers options around [] [] old new = new ≡ old
Lowers options around [] (outcome ∷ outcomes) old new = ⊥
Lowers options around (call ∷ calls) [] old new = ⊥
Lowers options around (call ∷ calls) (outcome ∷ outcomes) old new = (between : Frame) × LowersCall options around call outcome old between × Lowers options around calls outcomes between new
