-- A call of which nothing is entered reaches nothing.
use Rattle.std.proofs.Common.{◌≡◌, ℕ, zero, suc, ◌+◌, ◌-◌, ◌≤◌, Bool, true, false, cond, nat_eq, nat_lt, List, Option, Some, None, refl, subst, arith}
use Rattle.std.proofs.lemmas.Bool.Decides.{nat_tests}
use Rattle.sym_core.specs.declared.files.HirFileId.{HirFileId}
use Rattle.sym_core.specs.declared.files.MacroCallId.{MacroCallId}
use Rattle.syn_trees.specs.declared.format_call.MacroCallSrc.{MacroCallSrc}
use Rattle.syn_trees.specs.declared.format_call.Template.{Template}
use Rattle.syn_trees.specs.declared.format_call.Template.TheVariants as template
use Rattle.hir_expander.specs.declared.macros.FileMaps.{FileMaps}
use Rattle.hir_expander.specs.declared.expand_result.ExpandResult.{ExpandResult}
use Rattle.hir_expander.specs.Answers.{AnswersId, GivesValue}
use Rattle.hir_expander.specs.Machine.{Machine, max_recursion_limit, overflow, Step, Idle, Pathless, Unresolved, TooDeep, Inside, after, step_along, step_of}
use Rattle.hir_expander.specs.Reached.{from_expansion, reached}

-- an expander that is at no overflow
pub record IsBelow (machine : Machine) : Type 0 where
  pub limit : machine.limit ≤ max_recursion_limit
  pub depth : machine.depth ≤ machine.limit + 1

-- a step leaves the limit as it is
pub limit_stays : (mapped : HirFileId → FileMaps) (machine : Machine) (step : Step) → (after mapped machine step).limit ≡ machine.limit
limit_stays mapped machine Idle = refl
limit_stays mapped machine Pathless = refl
limit_stays mapped machine Unresolved = refl
limit_stays mapped machine TooDeep = refl
limit_stays mapped machine (Inside id) = refl

below_overflow : (machine : Machine) → IsBelow machine → nat_eq machine.depth overflow ≡ false
below_overflow machine below = let limit : machine.limit ≤ max_recursion_limit = below.limit in let depth : machine.depth ≤ machine.limit + 1 = below.depth in grind (arith, nat_tests)

module _ (resolved : HirFileId → MacroCallSrc → Option MacroCallId) (expanded : MacroCallId → Option Template) where
  -- without an expansion left nothing is reached
  none_left : (id : MacroCallId) (inner : Option Template) → from_expansion resolved expanded (λ file inner. None) id inner ≡ None
  none_left id None = refl
  none_left id (Some inner) = refl

  -- a call that leads nowhere, or to an id with no expansion left, reaches nothing
  no_path : (left : ℕ) (file : HirFileId) (call : MacroCallSrc) → call.path ≡ None → reached resolved expanded left file (template.Macro call) ≡ None
  no_path zero file call is = rw is refl
  no_path (suc left) file call is = rw is refl

  not_found : (left : ℕ) (file : HirFileId) (call : MacroCallSrc) (path : List ℕ) → call.path ≡ Some path → resolved file call ≡ None → reached resolved expanded left file (template.Macro call) ≡ None
  not_found zero file call path is none = rw none (rw is refl)
  not_found (suc left) file call path is none = rw none (rw is refl)

  too_deep : (left : ℕ) (file : HirFileId) (call : MacroCallSrc) (path : List ℕ) (id : MacroCallId) → call.path ≡ Some path → resolved file call ≡ Some id → left ≡ 0 →
      reached resolved expanded left file (template.Macro call) ≡ None
  too_deep zero file call path id is found none = rw found (rw is (none_left id (expanded id)))
  too_deep (suc left) file call path id is found none = absurd (cc)

  pub nothing_entered : (machine : Machine) (call : MacroCallSrc) (entry : ExpandResult) → IsBelow machine →
      AnswersId expanded machine (step_of machine call (resolved machine.current.file_id call)) entry → entry.value ≡ None →
      reached resolved expanded (machine.limit + 1 - machine.depth) machine.current.file_id (template.Macro call) ≡ None
  nothing_entered machine call entry below answer none =
      at call.path (resolved machine.current.file_id call) refl refl
      (subst (λ test. AnswersId expanded machine (cond test Idle (step_along machine call.path (resolved machine.current.file_id call))) entry) (below_overflow machine below) answer)
    where
      deep : nat_lt machine.limit machine.depth ≡ true → machine.limit + 1 - machine.depth ≡ 0
      deep test = grind (arith, nat_tests)

      inside : (path : List ℕ) (id : MacroCallId) (test : Bool) → nat_lt machine.limit machine.depth ≡ test → call.path ≡ Some path → resolved machine.current.file_id call ≡ Some id →
          AnswersId expanded machine (cond test TooDeep (Inside id)) entry → reached resolved expanded (machine.limit + 1 - machine.depth) machine.current.file_id (template.Macro call) ≡ None
      inside path id true test is found told = too_deep _ machine.current.file_id call path id is found (deep test)
      inside path id false test is found told = absurd (subst (GivesValue machine.current (expanded id)) none told.0)

      at : (path : Option (List ℕ)) (found : Option MacroCallId) → call.path ≡ path → resolved machine.current.file_id call ≡ found →
          AnswersId expanded machine (step_along machine path found) entry → reached resolved expanded (machine.limit + 1 - machine.depth) machine.current.file_id (template.Macro call) ≡ None
      at None found is is_found told = no_path _ machine.current.file_id call is
      at (Some path) None is is_found told = not_found _ machine.current.file_id call path is is_found
      at (Some path) (Some id) is is_found told = inside path id (nat_lt machine.limit machine.depth) refl is is_found
          (subst (λ test. AnswersId expanded machine (cond test Idle (cond (nat_lt machine.limit machine.depth) TooDeep (Inside id))) entry) (below_overflow machine below) told)
