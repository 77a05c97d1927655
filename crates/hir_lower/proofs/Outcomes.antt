-- Code stays what it is as the store grows; and what calls became, one after the other, is said of the store at the end.
use Rattle.std.specs.Prelude.{◌≡◌, ℕ, ◌+◌, ◌<◌, ◌≤◌, false, suc, List, [], ◌∷◌, ◌++◌, length, IfOk, Result, Ok, Err, refl}
use Rattle.std.proofs.Common.{sym, ◌∙◌, subst, arith, inl, inr}
use Rattle.syn_trees.specs.declared.format_call.FormatCall.{FormatCall}
use Rattle.syn_trees.specs.declared.asm_call.AsmCall.{AsmCall}
use Rattle.hir_asm.specs.Lowered.{IsAsmCode}
use Rattle.hir_asm.specs.Lowered as asm
use Rattle.hir_store.specs.declared.ids.ExprId.{ExprId}
use Rattle.hir_store.specs.declared.store.ExpressionStore.{ExpressionStore}
use Rattle.hir_store.specs.Unfolding.{place_of, tree_at}
use Rattle.ra_cfg.specs.Options.{OptionSet}
use Rattle.ra_cfg.specs.Reading.{is_off}
use Rattle.gated_calls.specs.declared.call.GatedCall.{GatedCall}
use Rattle.gated_calls.specs.declared.call.Call.{Call}
use Rattle.gated_calls.specs.declared.call.Call.TheVariants.{Format, Asm}
use Rattle.format_code.specs.FormatCall.{Surroundings}
use Rattle.format_code.specs.CallCode.{IsCallTree}
use Rattle.format_code.proofs.CallRuns.{complete_runs, well_formed_runs, empty_runs}
use Rattle.hir_build.specs.Frame.{Frame}
use Rattle.hir_build.specs.declared.error.LowerError.{LowerError}
use Rattle.hir_build.specs.Building.{Builds}
use Rattle.hir_build.proofs.Origins.{origins_later}
use Rattle.hir_build.proofs.Builds.{builds_none, builds_then, builds_within}
use Rattle.hir_lower.specs.declared.outcome.Outcome.{Outcome}
use Rattle.hir_lower.specs.declared.outcome.Outcome.TheVariants.{Off, Code}
use Rattle.hir_lower.specs.CallCode.{IsCallCode, HasSources}
use Rattle.hir_lower.specs.CallParsed.{GrowsSome}
use Rattle.hir_lower.specs.Lowered.{IsFormatCode, reaches, IsCode, AreOutcomes, AreRising, AreInStore, IsMost, IsMostOf, IsMostGated, AreMost, lets_in, lets_of, most_lets, PlacesCall, LowersCall, Lowers}
use Rattle.hir_lower.proofs.WrittenLaws.{longer}

-- The code of one call

-- what the code of a call gives
pub format_code_of : (around : Surroundings) (call : FormatCall) (n : ℕ) (store : ExpressionStore) (id : ExprId) → IsCallCode around call n store id → IsFormatCode around store call id
format_code_of around call n store id is = record {
  fresh = n;
  is = is;
  writes = λ text pieces writes formed. well_formed_runs around call n (tree_at store id) text pieces writes is.tree formed;
  complete = λ text pieces writes complete. complete_runs around call n (tree_at store id) text pieces writes is.tree complete;
  empty = λ none there item. empty_runs around call n (tree_at store id) is.tree none there item;
}

module _ {old new : Frame} {most lets : ℕ} (builds : Builds old new most lets) (around : Surroundings) where
  sources_later : (call : FormatCall) (id : ExprId) → place_of id < length old.store.exprs → HasSources around call old.store id → HasSources around call new.store id
  sources_later call id within (inl is) = inl (
    is.0,
    is.1,
    record {
      token = is.2.token;
      reached = is.2.reached;
      is = is.2.is;
      origins = origins_later old.store new.store id builds.grows within ∙ is.2.origins;
      captures = builds.grows.older.captures (place_of id) within ∙ is.2.captures;
    },
  )
  sources_later call id within (inr is) = inr (record {
    none = is.none;
    origins = origins_later old.store new.store id builds.grows within ∙ is.origins;
    captures = builds.grows.older.captures (place_of id) within ∙ is.captures;
  })

  code_later : (options : OptionSet) (call : Call) (id : ExprId) → IsCode options around old.store call id → IsCode options around new.store call id
  code_later options (Asm call) id code = record {
    within = let more = longer builds in omega (arith, code.within);
    tree = builds.trees id code.within ∙ code.tree;
    origins = origins_later old.store new.store id builds.grows code.within ∙ code.origins;
    mapping = code.mapping;
    maps = code.maps;
    entered = builds.grows.older.mappings (place_of id) code.within ∙ code.entered;
  }
  code_later options (Format call) id code = format_code_of around call code.fresh new.store id (record {
    within = let more = longer builds in omega (arith, code.is.within);
    tree = subst (IsCallTree around call code.fresh) (sym (builds.trees id code.is.within)) code.is.tree;
    sources = sources_later call id code.is.within code.is.sources;
  })

-- What calls became

-- a call that is not off binds the names of its kind
on_lets : (options : OptionSet) (call : GatedCall) → is_off options call.cfgs ≡ false → lets_of options call ≡ lets_in call.call
on_lets options call on = rw on refl

-- calls that were lowered make the store grow
pub lowers_grow : (options : OptionSet) (around : Surroundings) (calls : List GatedCall) (outcomes : List Outcome) (old new : Frame) → Lowers options around calls outcomes old new → GrowsSome old new (most_lets options calls)
lowers_grow options around [] [] old new same = (0, subst (λ frame. Builds old frame 0 0) (sym same) (builds_none old))
lowers_grow options around [] (outcome ∷ outcomes) old new were = absurd were
lowers_grow options around (call ∷ calls) [] old new were = absurd were
lowers_grow options around (call ∷ calls) (Off why dnf ∷ outcomes) old new were =
    let rest = lowers_grow options around calls outcomes were.0 new were.2 in
    (rest.0, subst (λ frame. Builds frame new rest.0 (lets_of options call + most_lets options calls)) were.1.1 (builds_within rest.1 (omega arith) (omega arith)))
lowers_grow options around (call ∷ calls) (Code id ∷ outcomes) old new were =
    let rest = lowers_grow options around calls outcomes were.0 new were.2 in
    let lets = on_lets options call were.1.0 in
    (were.1.1.grown.0 + rest.0, builds_within (builds_then were.1.1.grown.1 rest.1) (omega arith) (omega (arith, lets)))

pub outcomes_are : (options : OptionSet) (around : Surroundings) (calls : List GatedCall) (outcomes : List Outcome) (old new : Frame) → Lowers options around calls outcomes old new → AreOutcomes options around new.store calls outcomes
outcomes_are options around [] [] old new were = tt
outcomes_are options around [] (outcome ∷ outcomes) old new were = were
outcomes_are options around (call ∷ calls) [] old new were = were
outcomes_are options around (call ∷ calls) (Off why dnf ∷ outcomes) old new were = (were.1.0, outcomes_are options around calls outcomes were.0 new were.2)
outcomes_are options around (call ∷ calls) (Code id ∷ outcomes) old new were =
    let grown = lowers_grow options around calls outcomes were.0 new were.2 in
    ((were.1.0, code_later grown.1 around options call.call id were.1.1.code), outcomes_are options around calls outcomes were.0 new were.2)

rising_lower : (least more : ℕ) (outcomes : List Outcome) → least ≤ more → AreRising more outcomes → AreRising least outcomes
rising_lower least more [] le are = tt
rising_lower least more (Off why dnf ∷ outcomes) le are = rising_lower least more outcomes le are
rising_lower least more (Code id ∷ outcomes) le are = (omega (arith, le, are.0), are.1)

pub rising_are : (options : OptionSet) (around : Surroundings) (calls : List GatedCall) (outcomes : List Outcome) (old new : Frame) → Lowers options around calls outcomes old new → AreRising (length old.store.exprs) outcomes
rising_are options around [] [] old new were = tt
rising_are options around [] (outcome ∷ outcomes) old new were = absurd were
rising_are options around (call ∷ calls) [] old new were = absurd were
rising_are options around (call ∷ calls) (Off why dnf ∷ outcomes) old new were =
    subst (λ (frame : Frame). AreRising (length frame.store.exprs) outcomes) were.1.1 (rising_are options around calls outcomes were.0 new were.2)
rising_are options around (call ∷ calls) (Code id ∷ outcomes) old new were =
    (were.1.1.later, rising_lower (suc (place_of id)) (length were.0.store.exprs) outcomes (omega (arith, were.1.1.within)) (rising_are options around calls outcomes were.0 new were.2))

pub in_store_are : (options : OptionSet) (around : Surroundings) (calls : List GatedCall) (outcomes : List Outcome) (old new : Frame) → Lowers options around calls outcomes old new → AreInStore new.store outcomes
in_store_are options around [] [] old new were = tt
in_store_are options around [] (outcome ∷ outcomes) old new were = absurd were
in_store_are options around (call ∷ calls) [] old new were = absurd were
in_store_are options around (call ∷ calls) (Off why dnf ∷ outcomes) old new were = (tt, in_store_are options around calls outcomes were.0 new were.2)
in_store_are options around (call ∷ calls) (Code id ∷ outcomes) old new were =
    let grown = lowers_grow options around calls outcomes were.0 new were.2 in
    let more = longer grown.1 in
    (omega (arith, were.1.1.within, more), in_store_are options around calls outcomes were.0 new were.2)

-- a call more that was lowered from what the calls in front of it left
pub lowers_on : (options : OptionSet) (around : Surroundings) (old mid new : Frame) (calls : List GatedCall) (outcomes : List Outcome) (call : GatedCall) (outcome : Outcome) → Lowers options around calls outcomes old mid → LowersCall options around call outcome mid new
    → Lowers options around (calls ++ call ∷ []) (outcomes ++ outcome ∷ []) old new
lowers_on options around old mid new [] [] call outcome same last = (new, subst (λ frame. LowersCall options around call outcome frame new) same last, refl)
lowers_on options around old mid new [] (other ∷ outcomes) call outcome were last = absurd were
lowers_on options around old mid new (other ∷ calls) [] call outcome were last = absurd were
lowers_on options around old mid new (other ∷ calls) (next ∷ outcomes) call outcome were last = (were.0, were.1, lowers_on options around were.0 mid new calls outcomes call outcome were.2 last)

-- Sizes

-- the most of calls in front of others, and of these
pub most_both : (options : OptionSet) (around : Surroundings) (xs ys : List GatedCall) (most : ℕ) → AreMost options around (xs ++ ys) most → (front : ℕ) × (rest : ℕ) × AreMost options around xs front × AreMost options around ys rest × (most ≡ front + rest)
most_both options around [] ys most are = (0, most, refl, are, omega arith)
most_both options around (call ∷ xs) ys most are =
    let more = most_both options around xs ys are.1 are.3 in
    (are.0 + more.0, more.1, (are.0, more.0, are.2, more.2, refl), more.3, sum are.0 are.1 more.0 more.1 most are.4 more.4)
  where
    sum : (one rest front behind all : ℕ) → all ≡ one + rest → rest ≡ front + behind → all ≡ (one + front) + behind
    sum one rest front behind all e f = omega arith

pub lets_both : (options : OptionSet) (xs ys : List GatedCall) → most_lets options (xs ++ ys) ≡ most_lets options xs + most_lets options ys
lets_both options [] ys = omega arith
lets_both options (call ∷ xs) ys = let more = lets_both options xs ys in omega (arith, more)

-- The steps of one call

-- the code of a format call that was placed
pub placed_call : (options : OptionSet) (around : Surroundings) (old new : Frame) (format : FormatCall) (result : Result ExprId LowerError) → ((most : ℕ) → IsMost around format most → Builds old new most 2) → GrowsSome old new 2
    → IfOk result (λ made. IsCallCode around format old.fresh new.store made) → IfOk result (λ made. length old.store.exprs ≤ place_of made) → IfOk result (λ made. PlacesCall options around old (Format format) made new)
placed_call options around old new format (Ok id) builds grown code later = record { code = format_code_of around format old.fresh new.store id code; within = code.within; later = later; grown = grown; builds = builds }
placed_call options around old new format (Err error) builds grown code later = tt

-- the code of a call of inline assembly that was placed
pub placed_asm : (options : OptionSet) (around : Surroundings) (old new : Frame) (call : AsmCall) (result : Result ExprId LowerError) → Builds old new (asm.most_of call) 0
    → IfOk result (λ made. IsAsmCode options (reaches around) around.file call new.store made) → IfOk result (λ made. length old.store.exprs ≤ place_of made) → IfOk result (λ made. PlacesCall options around old (Asm call) made new)
placed_asm options around old new call (Ok id) builds code later = record {
  code = code;
  within = code.within;
  later = later;
  grown = (asm.most_of call, builds);
  builds = λ most is. subst (λ n. Builds old new n 0) (sym is) builds;
}
placed_asm options around old new call (Err error) builds code later = tt

module _ (around : Surroundings) (most : ℕ) where
  most_lets_in : (call : Call) → IsMostOf around call most → lets_in call ≤ most
  most_lets_in (Format call) (inl is) = omega (arith, is.3)
  most_lets_in (Format call) (inr is) = omega (arith, is.1)
  most_lets_in (Asm call) is = omega arith

  lets_least : (options : OptionSet) (call : GatedCall) → IsMostGated options around call most → lets_of options call ≤ most
  lets_least options call (inl off) = let none : lets_of options call ≡ 0 = rw off.0 refl in omega (arith, none)
  lets_least options call (inr on) = let lets = on_lets options call on.0 in let least = most_lets_in call.call on.1 in omega (arith, lets, least)

-- calls place no more patterns than expressions
pub lets_fewer : (options : OptionSet) (around : Surroundings) (calls : List GatedCall) (most : ℕ) → AreMost options around calls most → most_lets options calls ≤ most
lets_fewer options around [] most are = omega arith
lets_fewer options around (call ∷ calls) most are =
    let one = lets_least around are.0 options call are.2 in
    let rest = lets_fewer options around calls are.1 are.3 in
    omega (arith, are.4, one, rest)
