-- The expander as a machine: the file that is read, how many expansions deep it lies, and how deep it may. What it does with a call is the
-- first of five cases that holds.
use Rattle.std.specs.Prelude.{◌≡◌, ℕ, ◌+◌, ◌-◌, ◌≤◌, ◌⊎◌, Bool, true, false, cond, nat_eq, nat_lt, List, Option, Some, None}
use Rattle.sym_core.specs.declared.files.HirFileId.{HirFileId}
use Rattle.sym_core.specs.declared.files.HirFileId.TheVariants.{File, Macro}
use Rattle.sym_core.specs.declared.files.MacroCallId.{MacroCallId}
use Rattle.syn_trees.specs.declared.format_call.MacroCallSrc.{MacroCallSrc}
use Rattle.hir_expander.specs.declared.macros.FileMaps.{FileMaps}
use Rattle.hir_expander.specs.CurrentFile.{CurrentFile}

-- the state of an expander
pub record Machine : Type 0 where
  pub current : CurrentFile
  pub depth : ℕ
  pub limit : ℕ

-- the greatest recursion limit
abbrev pub max_recursion_limit : ℕ
max_recursion_limit = 4294967293

-- the depth that stands for an overflow
abbrev pub overflow : ℕ
overflow = 4294967295

-- an expander lies at most one deeper than its limit, or is at an overflow
abbrev pub IsMachine : ℕ → ℕ → Type 0
IsMachine depth limit = (limit ≤ max_recursion_limit) × ((depth ≤ limit + 1) ⊎ (depth ≡ overflow))

-- whether a file is what a macro call expands to
abbrev pub is_macro : HirFileId → Bool
is_macro (File _) = false
is_macro (Macro _) = true

-- an expander that stands in a file
abbrev pub begun : HirFileId → FileMaps → ℕ → ℕ → Machine
begun file maps depth limit = record { current = record { file_id = file; maps = maps }; depth = depth; limit = limit }

-- what is done with a call: nothing at an overflow; a call without a path and one that leads to no macro are told; one that lies too deep
-- makes an overflow; else an expansion is entered
pub data Step : Type 0 where
  Idle : Step
  Pathless : Step
  Unresolved : Step
  TooDeep : Step
  Inside : MacroCallId → Step

-- what is done with an id
abbrev pub step_into : Machine → MacroCallId → Step
step_into machine id = cond (nat_eq machine.depth overflow) Idle (cond (nat_lt machine.limit machine.depth) TooDeep (Inside id))

-- what is done with a path, where it leads to this id or to none
abbrev pub step_along : Machine → Option (List ℕ) → Option MacroCallId → Step
step_along machine None found = Pathless
step_along machine (Some path) None = Unresolved
step_along machine (Some path) (Some id) = step_into machine id

-- what is done with a call, where its path leads to this id or to none
abbrev pub step_of : Machine → MacroCallSrc → Option MacroCallId → Step
step_of machine call found = cond (nat_eq machine.depth overflow) Idle (step_along machine call.path found)

-- the expander at an overflow
abbrev pub overflown : Machine → Machine
overflown machine = record { current = machine.current; depth = overflow; limit = machine.limit }

-- the expander in the expansion of this id, which has these maps
abbrev pub entered : Machine → MacroCallId → FileMaps → Machine
entered machine id maps = record { current = record { file_id = Macro id; maps = maps }; depth = machine.depth + 1; limit = machine.limit }

-- the expander behind a step
abbrev pub after : (HirFileId → FileMaps) → Machine → Step → Machine
after mapped machine Idle = machine
after mapped machine Pathless = machine
after mapped machine Unresolved = machine
after mapped machine TooDeep = overflown machine
after mapped machine (Inside id) = entered machine id (mapped (Macro id))

-- the depth behind an exit to a file that a macro made, or not: one less; an overflow ends outside of all macros
abbrev pub depth_behind : Bool → ℕ → ℕ
depth_behind inside depth = cond (nat_eq depth overflow) (cond inside overflow 0) (depth - 1)

-- the expander behind the exit to this file
abbrev pub exited : Machine → CurrentFile → Machine
exited machine left = record { current = left; depth = depth_behind (is_macro left.file_id) machine.depth; limit = machine.limit }
