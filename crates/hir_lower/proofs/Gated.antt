-- Calls lowered one after the other: what one turn adds to those in front of it, and where the first that is refused leaves all.
use Rattle.std.specs.Prelude.{◌≡◌, ℕ, ◌+◌, ◌<◌, false, List, [], ◌∷◌, ◌++◌, length, get_or, take, drop, Option, refl}
use Rattle.std.proofs.Common.{sym, ◌∙◌, ap, subst, arith}
use Rattle.std.proofs.lemmas.List.{take-append-drop, take_more}
use Rattle.sym_core.specs.declared.files.HirFileId.{HirFileId}
use Rattle.sym_core.specs.declared.files.MacroCallId.{MacroCallId}
use Rattle.syn_trees.specs.declared.format_call.MacroCallSrc.{MacroCallSrc}
use Rattle.syn_trees.specs.declared.format_call.Template.{Template}
use Rattle.ra_cfg.specs.Options.{OptionSet}
use Rattle.gated_calls.specs.declared.call.GatedCall.{GatedCall}
use Rattle.hir_expander.specs.Machine.{Machine, is_macro}
use Rattle.format_code.specs.FormatCall.{Surroundings}
use Rattle.hir_build.specs.Frame.{Frame}
use Rattle.hir_build.specs.Building.{Builds, Outgrows}
use Rattle.hir_build.proofs.Builds.{builds_then, builds_within, outgrows_later}
use Rattle.hir_lower.specs.declared.outcome.Outcome.{Outcome}
use Rattle.hir_lower.specs.Collector.{IsAtRest, around, collector_of}
use Rattle.hir_lower.specs.CallParsed.{GrowsSome}
use Rattle.hir_lower.specs.Lowered.{IsMostGated, AreMost, lets_of, most_lets, LowersCall, Lowers}
use Rattle.hir_lower.proofs.Outcomes.{lowers_grow, lowers_on, most_both, lets_both}

-- Surroundings

-- a builder and an expander that differ in the store alone stand in the same surroundings
same_around : (resolved : HirFileId → MacroCallSrc → Option MacroCallId) (expanded : MacroCallId → Option Template) (old new : Frame) (before after : Machine) → new.file ≡ old.file → new.items ≡ old.items → after ≡ before
    → around resolved expanded (collector_of new after) ≡ around resolved expanded (collector_of old before)
same_around resolved expanded old new before after file items machine = rw (file, items, machine) refl

module _ (options : OptionSet) (resolved : HirFileId → MacroCallSrc → Option MacroCallId) (expanded : MacroCallId → Option Template) (old mid : Frame) (before after : Machine) (front : List GatedCall) (outcomes : List Outcome)
    (lowers : Lowers options (around resolved expanded (collector_of old before)) front outcomes old mid) (same : after ≡ before) where
  grown : GrowsSome old mid (most_lets options front)
  grown = lowers_grow options _ front outcomes old mid lowers

  -- the surroundings of the next call are those of the first
  pub around_then : around resolved expanded (collector_of mid after) ≡ around resolved expanded (collector_of old before)
  around_then = same_around resolved expanded old mid before after grown.1.file grown.1.items same

  -- and all is at rest, as it was
  pub rest_then : IsAtRest old before → IsAtRest mid after
  rest_then rest = record {
    file = ap (λ (machine : Machine). machine.current.file_id) same ∙ rest.file ∙ sym grown.1.file;
    outside = subst (λ file. is_macro file ≡ false) (sym grown.1.file) rest.outside;
    depth = ap (λ (machine : Machine). machine.depth) same ∙ rest.depth;
  }

-- One turn

module _ (calls : List GatedCall) (i : ℕ) (call : GatedCall) (lt : i < length calls) (is : call ≡ get_or calls i call) where
  -- the calls so far and one more
  pub next_call : take (i + 1) calls ≡ take i calls ++ call ∷ []
  next_call = take_more calls i call lt ∙ ap (λ (x : GatedCall). take i calls ++ x ∷ []) (sym is)

  lets_next : (options : OptionSet) → most_lets options (take (i + 1) calls) ≡ most_lets options (take i calls) + lets_of options call
  lets_next options = ap (most_lets options) next_call ∙ lets_both options (take i calls) (call ∷ []) ∙ ap (λ n. most_lets options (take i calls) + n) (none_more (lets_of options call))
    where
      none_more : (n : ℕ) → n + 0 ≡ n
      none_more n = omega arith

  module _ (options : OptionSet) (around : Surroundings) {old mid : Frame} (within : (most : ℕ) → AreMost options around (take i calls) most → Builds old mid most (most_lets options (take i calls))) where
    -- the most of the calls so far, of the next one, and of the rest
    most_next : (most : ℕ) → AreMost options around (take (i + 1) calls) most → (front : ℕ) × (one : ℕ) × AreMost options around (take i calls) front × IsMostGated options around call one × (most ≡ front + one)
    most_next most are =
        let both = most_both options around (take i calls) (call ∷ []) most (subst (λ xs. AreMost options around xs most) next_call are) in
        (both.0, both.3.0, both.2, both.3.2, omega (arith, both.4, both.3.3, both.3.4))

    module _ {new : Frame} (step : (one : ℕ) → IsMostGated options around call one → Builds mid new one (lets_of options call)) where
      pub within_next : (most : ℕ) → AreMost options around (take (i + 1) calls) most → Builds old new most (most_lets options (take (i + 1) calls))
      within_next most are =
          let parts = most_next most are in
          builds_within (builds_then (within parts.0 parts.2) (step parts.1 parts.3)) (omega (arith, parts.4)) (omega (arith, lets_next options))

      -- the calls so far are no more than all
      pub within_all : (most : ℕ) → AreMost options around calls most → Builds old new most (most_lets options calls)
      within_all most are =
          let whole = take-append-drop (i + 1) calls in
          let both = most_both options around (take (i + 1) calls) (drop (i + 1) calls) most (subst (λ xs. AreMost options around xs most) (sym whole) are) in
          let lets = ap (most_lets options) (sym whole) ∙ lets_both options (take (i + 1) calls) (drop (i + 1) calls) in
          builds_within (within_next both.0 both.2) (omega (arith, both.4)) (omega (arith, lets))

    pub full_all : ((one : ℕ) → IsMostGated options around call one → Outgrows mid.store one (lets_of options call)) → (most : ℕ) → AreMost options around calls most → Outgrows old.store most (most_lets options calls)
    full_all full most are =
        let whole = take-append-drop (i + 1) calls in
        let both = most_both options around (take (i + 1) calls) (drop (i + 1) calls) most (subst (λ xs. AreMost options around xs most) (sym whole) are) in
        let lets = ap (most_lets options) (sym whole) ∙ lets_both options (take (i + 1) calls) (drop (i + 1) calls) in
        let parts = most_next both.0 both.2 in
        outgrows_later parts.1 (lets_of options call) most (most_lets options calls) (within parts.0 parts.2) (full parts.1 parts.3) (omega (arith, parts.4, both.4)) (omega (arith, lets, lets_next options))

  module _ (options : OptionSet) (around : Surroundings) (old mid new : Frame) (outcomes : List Outcome) (lowers : Lowers options around (take i calls) outcomes old mid) where
    pub lowers_next : (outcome : Outcome) → LowersCall options around call outcome mid new → Lowers options around (take (i + 1) calls) (outcomes ++ outcome ∷ []) old new
    lowers_next outcome last = subst (λ xs. Lowers options around xs (outcomes ++ outcome ∷ []) old new) (sym next_call) (lowers_on options around old mid new (take i calls) outcomes call outcome lowers last)

    -- the store grew by no more than there is to all
    pub some_next : GrowsSome mid new (lets_of options call) → GrowsSome old new (most_lets options calls)
    some_next last =
        let first = lowers_grow options around (take i calls) outcomes old mid lowers in
        let whole = ap (most_lets options) (sym (take-append-drop (i + 1) calls)) ∙ lets_both options (take (i + 1) calls) (drop (i + 1) calls) in
        let next = lets_next options in
        (first.0 + last.0, builds_within (builds_then first.1 last.1) (omega arith) (omega (arith, whole, next)))
