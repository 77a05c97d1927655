-- What is entered and left inside of a macro's file leaves the expander as it was, or at an overflow.
use Rattle.std.proofs.Common.{◌≡◌, ℕ, ◌+◌, ◌≤◌, Bool, true, false, cond, nat_eq, nat_lt, ◌||◌, refl, ap, ◌∙◌, arith}
use Rattle.std.proofs.lemmas.Bool.Decides.{nat_tests}
use Rattle.sym_core.specs.declared.files.MacroCallId.{MacroCallId}
use Rattle.hir_expander.specs.declared.macros.FileMaps.{FileMaps}
use Rattle.hir_expander.specs.Machine.{Machine, max_recursion_limit, overflow, Step, Idle, TooDeep, Inside, step_into, overflown, entered, exited, depth_behind, is_macro}
use Rattle.hir_expander.specs.Nested.{Nest, Done, Entry, behind_step, runs, step_overflows, overflows, IsEntered, outermost, overflows_inside}

-- the expander stands in a macro's file, at no overflow
record IsInside (machine : Machine) : Type 0 where
  limit : machine.limit ≤ max_recursion_limit
  depth : machine.depth ≤ machine.limit + 1
  file : is_macro machine.current.file_id ≡ true

-- as it was, or at an overflow
abbrev kept : Bool → Machine → Machine
kept came machine = cond came (overflown machine) machine

no_overflow : (depth limit : ℕ) → limit ≤ max_recursion_limit → depth ≤ limit + 1 → nat_eq depth overflow ≡ false
no_overflow depth limit small within = grind (arith, nat_tests)

-- at an overflow nothing is entered
lasts : (nest : Nest) (machine : Machine) → runs nest (overflown machine) ≡ overflown machine
lasts Done machine = refl
lasts (Entry id maps inner rest) machine = lasts rest machine

step_is : (machine : Machine) (id : MacroCallId) → IsInside machine → step_into machine id ≡ cond (nat_lt machine.limit machine.depth) TooDeep (Inside id)
step_is machine id inside = rw (no_overflow machine.depth machine.limit inside.limit inside.depth) refl

-- the exit of an expansion in which no overflow came
left_again : (machine : Machine) (id : MacroCallId) (maps : FileMaps) → machine.limit ≤ max_recursion_limit → machine.depth ≤ machine.limit → exited (entered machine id maps) machine.current ≡ machine
left_again machine id maps small within = ap (λ depth. record { current = machine.current; depth = depth; limit = machine.limit }) back
  where
    back : depth_behind (is_macro machine.current.file_id) (machine.depth + 1) ≡ machine.depth
    back = let test : nat_eq (machine.depth + 1) overflow ≡ false = grind (arith, nat_tests) in rw test (omega arith)

-- the exit of an expansion in which an overflow came, to a macro's file
left_over : (machine : Machine) (id : MacroCallId) (maps : FileMaps) → is_macro machine.current.file_id ≡ true → exited (overflown (entered machine id maps)) machine.current ≡ overflown machine
left_over machine id maps file = rw file refl

-- the exit of an expansion in which an overflow came or not
left : (machine : Machine) (id : MacroCallId) (maps : FileMaps) (came : Bool) → IsInside machine → machine.depth ≤ machine.limit → exited (kept came (entered machine id maps)) machine.current ≡ kept came machine
left machine id maps true inside within = left_over machine id maps inside.file
left machine id maps false inside within = left_again machine id maps inside.limit within

deeper : (machine : Machine) (id : MacroCallId) (maps : FileMaps) → IsInside machine → machine.depth ≤ machine.limit → IsInside (entered machine id maps)
deeper machine id maps inside within = record { limit = inside.limit; depth = omega arith; file = refl }

-- one entry, its exit and what follows
one_more : (maps : FileMaps) (id : MacroCallId) (inner rest : Nest) (machine : Machine) (step : Step) → step_into machine id ≡ step →
    runs rest (behind_step maps (runs inner) machine step) ≡ kept (step_overflows maps (overflows inner) machine step || overflows rest (behind_step maps (runs inner) machine step)) machine →
    runs (Entry id maps inner rest) machine ≡ kept (overflows (Entry id maps inner rest) machine) machine
one_more maps id inner rest machine step is h = rw is h

-- what follows an entry in which an overflow came or not
follows : (came : Bool) (rest : Nest) (machine next : Machine) → next ≡ kept came machine → runs rest machine ≡ kept (overflows rest machine) machine →
    runs rest next ≡ kept (came || overflows rest next) machine
follows true rest machine next is h = rw is (lasts rest machine)
follows false rest machine next is h = rw is h

-- inside of a macro's file the expander is as before, or at an overflow
inside_kept : (nest : Nest) (machine : Machine) → IsInside machine → runs nest machine ≡ kept (overflows nest machine) machine
inside_kept Done machine inside = refl
inside_kept (Entry id maps inner rest) machine inside = at (nat_lt machine.limit machine.depth) refl (inside_kept inner (entered machine id maps)) (inside_kept rest machine inside)
  where
    at : (deep : Bool) → nat_lt machine.limit machine.depth ≡ deep
        → (IsInside (entered machine id maps) → runs inner (entered machine id maps) ≡ kept (overflows inner (entered machine id maps)) (entered machine id maps))
        → runs rest machine ≡ kept (overflows rest machine) machine
        → runs (Entry id maps inner rest) machine ≡ kept (overflows (Entry id maps inner rest) machine) machine
    at true deep below on = one_more maps id inner rest machine TooDeep (step_is machine id inside ∙ rw deep refl) (lasts rest machine)
    at false deep below on =
        let within : machine.depth ≤ machine.limit = grind (arith, nat_tests) in
        let is : runs inner (entered machine id maps) ≡ kept (overflows inner (entered machine id maps)) (entered machine id maps) = below (deeper machine id maps inside within) in
        let back : exited (runs inner (entered machine id maps)) machine.current ≡ kept (overflows inner (entered machine id maps)) machine
        = ap (λ behind. exited behind machine.current) is ∙ left machine id maps (overflows inner (entered machine id maps)) inside within in
        one_more maps id inner rest machine (Inside id) (step_is machine id inside ∙ rw deep refl) (follows (overflows inner (entered machine id maps)) rest machine (exited (runs inner (entered machine id maps)) machine.current) back on)

-- an expansion that can be entered lies no deeper than the limit
not_deep : (machine : Machine) (id : MacroCallId) → IsEntered machine id → machine.depth ≤ machine.limit
not_deep machine id can = by (nat_eq machine.depth overflow) (nat_lt machine.limit machine.depth) refl can.step
  where
    by : (at_end deep : Bool) → nat_lt machine.limit machine.depth ≡ deep → cond at_end Idle (cond deep TooDeep (Inside id)) ≡ Inside id → machine.depth ≤ machine.limit
    by true deep is e = absurd (cc)
    by false true is e = absurd (cc)
    by false false is e = grind (arith, nat_tests)

-- an outermost pair
pub restored : (machine : Machine) (id : MacroCallId) (maps : FileMaps) (inner : Nest) → IsEntered machine id →
    outermost id maps inner machine ≡ exited (kept (overflows_inside id maps inner machine) (entered machine id maps)) machine.current
restored machine id maps inner can = ap (λ behind. exited behind machine.current) (inside_kept inner (entered machine id maps) (record { limit = can.limit; depth = let within : machine.depth ≤ machine.limit = not_deep machine id can in omega arith; file = refl }))

pub restored_whole : (machine : Machine) (id : MacroCallId) (maps : FileMaps) (inner : Nest) → IsEntered machine id → overflows_inside id maps inner machine ≡ false →
    outermost id maps inner machine ≡ machine
restored_whole machine id maps inner can none = restored machine id maps inner can ∙ rw none (left_again machine id maps can.limit (not_deep machine id can))

-- the depth behind an outermost pair in which an overflow came
pub restored_depth : (machine : Machine) (id : MacroCallId) (maps : FileMaps) (inner : Nest) → IsEntered machine id → overflows_inside id maps inner machine ≡ true →
    (outermost id maps inner machine).depth ≡ cond (is_macro machine.current.file_id) overflow 0
restored_depth machine id maps inner can came = ap (λ behind. behind.depth) (restored machine id maps inner can) ∙ rw came refl
