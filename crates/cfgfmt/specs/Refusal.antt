-- A refusal has a status, a line and a cause.
use Rattle.std.specs.Prelude.{◌≡◌, ℕ, ◌+◌, ◌<◌, ◌≤◌, length, List, ◌++◌, codes, None}
use Rattle.std.specs.Fmt.{decimal}
use Rattle.hir_lower.specs.Lowered.{AreMost}
use Rattle.causes.specs.Causes.{Rose}
use Rattle.streams.specs.Streams.{SourceState}
use Rattle.streams.specs.ReadWrite.{TakesCount}
use Rattle.script.specs.Limit.{max_script_len}
use Rattle.script.specs.declared.script.ScriptError.{ScriptError}
use Rattle.script.specs.declared.script.ScriptError.TheVariants as error
use Rattle.script.specs.Contents.{Contents}
use Rattle.script.specs.Script.{IsScript, IsFaultLine}
use Rattle.cfgfmt.specs.declared.command.Command.{Command}
use Rattle.cfgfmt.specs.declared.command.Command.TheVariants.{Run}
use Rattle.cfgfmt.specs.Command.{command_of, Asks}
use Rattle.cfgfmt.specs.Session.{script_around, Gets}
use Rattle.cfgfmt.specs.declared.refusal.Refusal.{Refusal}
use Rattle.cfgfmt.specs.declared.refusal.Refusal.TheVariants.{Usage, Syntax, Read, Memory, ArenaFull, TooLong}

abbrev pub status_of : Refusal → ℕ
status_of Usage = 2
status_of (Syntax line) = 3
status_of Read = 4
status_of Memory = 6
status_of ArenaFull = 8
status_of TooLong = 9

-- the line that is written in place of the output
abbrev pub line_of : Refusal → List ℕ
line_of Usage = codes "error usage\n"
line_of (Syntax line) = codes "error syntax at line " ++ decimal line ++ codes "\n"
line_of Read = codes "error read\n"
line_of Memory = codes "error memory\n"
line_of ArenaFull = codes "error arena full\n"
line_of TooLong = codes "error too long\n"

-- the bytes are few enough, but no script: the first broken item begins in this line
pub record IsFaulty (bytes : List ℕ) (line : ℕ) : Type 0 where
  pub fits : length bytes ≤ max_script_len
  pub is_line : IsFaultLine bytes line

-- the calls of a script may place more expressions than an arena holds
abbrev pub AreMany : Contents → Type 0
AreMany contents = (most : ℕ) → AreMost contents.options (script_around contents) contents.calls most → 4294967295 < most

-- the bytes are a script whose calls may do so
pub record OutgrowsArena (bytes : List ℕ) : Type 0 where
  pub fits : length bytes ≤ max_script_len
  pub contents : Contents
  pub script : IsScript bytes contents
  pub many : AreMany contents

-- the script's bytes came as the command asks, and this holds of them
pub record HasInput (command : Command) (old new : SourceState) (Holds : List ℕ → Type 0) : Type 0 where
  pub bytes : List ℕ
  pub came : Gets command old new bytes
  pub holds : Holds bytes

-- what was found by a command, or befell it, where a refusal comes; want of memory may come whatever was found
abbrev pub IsFound : SourceState → SourceState → Refusal → Command → Type 0
IsFound old new Usage = λ command. ⊥
IsFound old new (Syntax line) = λ command. HasInput command old new (λ bytes. IsFaulty bytes line)
IsFound old new Read = λ command. (command ≡ Run) × Rose old.faults new.faults
IsFound old new Memory = λ command. new.faults ≡ old.faults
IsFound old new ArenaFull = λ command. HasInput command old new OutgrowsArena
IsFound old new TooLong = λ command. (command ≡ Run) × (TakesCount old new (max_script_len + 1) × (new.faults ≡ old.faults))

-- the words ask for nothing that there is, and the source is as it was
pub record AsksNothing (words : List (List ℕ)) (old new : SourceState) : Type 0 where
  pub none : command_of words ≡ None
  pub unread : new ≡ old

-- why a refusal comes: by the words, and by what was found by their command
abbrev pub IsJustified : List (List ℕ) → SourceState → SourceState → Refusal → Type 0
IsJustified words old new Usage = AsksNothing words old new
IsJustified words old new (Syntax line) = Asks words (IsFound old new (Syntax line))
IsJustified words old new Read = Asks words (IsFound old new Read)
IsJustified words old new Memory = Asks words (IsFound old new Memory)
IsJustified words old new ArenaFull = Asks words (IsFound old new ArenaFull)
IsJustified words old new TooLong = Asks words (IsFound old new TooLong)

-- a refusal to read the bytes of a script: it comes of the bytes alone
abbrev pub IsScriptRefusal : List ℕ → Refusal → Type 0
IsScriptRefusal bytes (Syntax line) = IsFaulty bytes line
IsScriptRefusal bytes Memory = Unit {0}
IsScriptRefusal bytes Usage = ⊥
IsScriptRefusal bytes Read = ⊥
IsScriptRefusal bytes ArenaFull = ⊥
IsScriptRefusal bytes TooLong = ⊥

-- a refusal to lower calls: want of memory, or an arena that can be full
abbrev pub IsLowerRefusal : Type 0 → Refusal → Type 0
IsLowerRefusal many Memory = Unit {0}
IsLowerRefusal many ArenaFull = many
IsLowerRefusal many (Syntax line) = ⊥
IsLowerRefusal many Usage = ⊥
IsLowerRefusal many Read = ⊥
IsLowerRefusal many TooLong = ⊥

-- a refusal to get the bytes of the script that a command asks for: where they are read, a read failed or too many came; or memory was refused
abbrev pub IsInputRefusal : Command → SourceState → SourceState → Refusal → Type 0
IsInputRefusal command old new Read = (command ≡ Run) × Rose old.faults new.faults
IsInputRefusal command old new Memory = new.faults ≡ old.faults
IsInputRefusal command old new TooLong = (command ≡ Run) × (TakesCount old new (max_script_len + 1) × (new.faults ≡ old.faults))
IsInputRefusal command old new Usage = ⊥
IsInputRefusal command old new (Syntax line) = ⊥
IsInputRefusal command old new ArenaFull = ⊥

-- what a script that was not read becomes
abbrev pub refusal_of : ScriptError → Refusal
refusal_of (error.Syntax line) = Syntax line
refusal_of (error.Memory refused) = Memory
