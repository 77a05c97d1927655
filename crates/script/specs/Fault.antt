-- When a script is refused: a fault of its text is told by the line of the first broken item; want of memory says nothing of it.
use Rattle.std.specs.Prelude.{ℕ, List, Result, Ok, Err}
use Rattle.script.specs.declared.script.Script.{Script}
use Rattle.script.specs.declared.script.ScriptError.{ScriptError}
use Rattle.script.specs.declared.script.ScriptError.TheVariants as error
use Rattle.script.specs.Script.{BreaksAt, IsFaultLine}

-- a fault of the bytes as they stand is in the line where they break
abbrev pub BreakIs : Result Script ScriptError → List ℕ → Type 0
BreakIs (Ok script) bytes = Unit {0}
BreakIs (Err (error.Syntax line)) bytes = BreaksAt bytes line
BreakIs (Err (error.Memory refused)) bytes = Unit {0}

-- a fault of a script is in the line where its first broken item begins
abbrev pub FaultIs : Result Script ScriptError → List ℕ → Type 0
FaultIs (Ok script) bytes = Unit {0}
FaultIs (Err (error.Syntax line)) bytes = IsFaultLine bytes line
FaultIs (Err (error.Memory refused)) bytes = Unit {0}
