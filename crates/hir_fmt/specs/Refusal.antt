-- Why a walk over references was refused.
use Rattle.std.specs.Prelude.{ℕ}
use Rattle.causes.specs.Causes.{Rose}
use Rattle.hir_fmt.specs.declared.captures.ParseError.{ParseError}
use Rattle.hir_fmt.specs.declared.captures.ParseError.TheVariants.{Memory, Captures}

-- a refusal of the captures comes where their count of refusals rose, or stands at its last value, and they allow it
abbrev pub HasRefusal : {R : Type 0} → ℕ → ℕ → (R → Type 0) → ParseError R → Type 0
HasRefusal before now allows (Memory _) = Unit {0}
HasRefusal before now allows (Captures refused) = Rose before now × allows refused
