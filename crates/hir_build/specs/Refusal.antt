-- Building is refused for the reason for which an arena refused a value.
use Rattle.la_arena.specs.declared.arena.ArenaError.{ArenaError}
use Rattle.la_arena.specs.declared.arena.ArenaError.TheVariants as arena
use Rattle.hir_build.specs.declared.error.LowerError.{LowerError}
use Rattle.hir_build.specs.declared.error.LowerError.TheVariants.{ArenaFull, Memory}

-- what an arena's refusal becomes
abbrev pub refusal_of : ArenaError → LowerError
refusal_of arena.Full = ArenaFull
refusal_of (arena.Memory error) = Memory error
