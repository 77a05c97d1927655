-- Entries and exits that stand within one another: each entry has what happens before its mark is given back, and what follows.
use Rattle.std.specs.Prelude.{◌≡◌, ◌≤◌, Bool, true, false, ◌||◌}
use Rattle.sym_core.specs.declared.files.MacroCallId.{MacroCallId}
use Rattle.hir_expander.specs.declared.macros.FileMaps.{FileMaps}
use Rattle.hir_expander.specs.Machine.{Machine, max_recursion_limit, Step, Idle, Pathless, Unresolved, TooDeep, Inside, step_into, overflown, entered, exited}

-- nothing more; or the entry of an expansion with these maps, what happens inside of it, and what follows its exit
pub data Nest : Type 0 where
  Done : Nest
  Entry : MacroCallId → FileMaps → Nest → Nest → Nest

-- the expander behind an entry and its exit: a mark is given back exactly where one was given
abbrev pub behind_step : FileMaps → (Machine → Machine) → Machine → Step → Machine
behind_step maps inside machine Idle = machine
behind_step maps inside machine Pathless = machine
behind_step maps inside machine Unresolved = machine
behind_step maps inside machine TooDeep = overflown machine
behind_step maps inside machine (Inside id) = exited (inside (entered machine id maps)) machine.current

-- the expander behind all of them
abbrev pub runs : Nest → Machine → Machine
runs Done machine = machine
runs (Entry id maps inner rest) machine = runs rest (behind_step maps (runs inner) machine (step_into machine id))

-- whether an overflow comes at a step, or inside of it
abbrev pub step_overflows : FileMaps → (Machine → Bool) → Machine → Step → Bool
step_overflows maps inside machine Idle = false
step_overflows maps inside machine Pathless = false
step_overflows maps inside machine Unresolved = false
step_overflows maps inside machine TooDeep = true
step_overflows maps inside machine (Inside id) = inside (entered machine id maps)

-- whether an overflow comes at one of them
abbrev pub overflows : Nest → Machine → Bool
overflows Done machine = false
overflows (Entry id maps inner rest) machine =
    step_overflows maps (overflows inner) machine (step_into machine id) || overflows rest (behind_step maps (runs inner) machine (step_into machine id))

-- an expansion can be entered
pub record IsEntered (machine : Machine) (id : MacroCallId) : Type 0 where
  pub limit : machine.limit ≤ max_recursion_limit
  pub step : step_into machine id ≡ Inside id

-- the expander behind an outermost pair of entry and exit, with these between
abbrev pub outermost : MacroCallId → FileMaps → Nest → Machine → Machine
outermost id maps inner machine = exited (runs inner (entered machine id maps)) machine.current

-- whether an overflow comes inside the pair
abbrev pub overflows_inside : MacroCallId → FileMaps → Nest → Machine → Bool
overflows_inside id maps inner machine = overflows inner (entered machine id maps)
