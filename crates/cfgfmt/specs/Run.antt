-- What `run` does: it answers a script with the printed form of its outcomes, or it refuses, and each refusal has its cause.
use Rattle.std.specs.Prelude.{◌≡◌, ◌≤◌, ◌<◌, ◌⊎◌, ◌||◌, ℕ, Bool, List, length, Some, nat_eq}
use Rattle.streams.specs.Streams.{SourceState, SinkState}
use Rattle.streams.specs.ReadWrite.{WritesWhole, WritesFront}
use Rattle.cfgfmt.specs.declared.session.Session.{Session}
use Rattle.cfgfmt.specs.declared.refusal.Refusal.{Refusal}
use Rattle.cfgfmt.specs.declared.refusal.Refusal.TheVariants.{Usage, Syntax, Read, Memory, ArenaFull, TooLong}
use Rattle.cfgfmt.specs.declared.command.Command.{Command}
use Rattle.cfgfmt.specs.declared.command.Command.TheVariants.{Run, Generate}
use Rattle.cfgfmt.specs.Command.{Asks}
use Rattle.cfgfmt.specs.Session.{IsNew, Answers, Gets, output_of, script_around}
use Rattle.cfgfmt.specs.Refusal.{status_of, line_of, IsJustified}
use Rattle.hir_lower.specs.Lowered.{AreMost}
use Rattle.script.specs.Contents.{Contents}
use Rattle.script.specs.Limit.{max_script_len}
use Rattle.script.specs.Script.{IsScript}

-- The headline. The bytes came as the command asks: of a script that is read, they are all that the source had left. They are a script; the
-- session has one outcome for each of its calls, in order; and the sink holds what it held before, followed by what the command prints of the
-- session: of a script that is read, its printed form.
pub record Prints (source source_now : SourceState) (sink sink_now : SinkState) (session : Session) (command : Command) : Type 0 where
  pub bytes : List ℕ
  pub came : Gets command source source_now bytes
  pub answers : Answers bytes session
  pub printed : WritesWhole sink sink_now (output_of command session)

-- the same but for the end: writing failed, and a front of the output was written and not the whole of it
pub record PrintsFront (source source_now : SourceState) (sink sink_now : SinkState) (session : Session) (command : Command) : Type 0 where
  pub bytes : List ℕ
  pub came : Gets command source source_now bytes
  pub answers : Answers bytes session
  pub printed : WritesFront sink sink_now (output_of command session)

-- A refusal came, and it has its cause; it was told in this way, and the session is still new.
pub record Refuses (words : List (List ℕ)) (source source_now : SourceState) (session : Session) (IsTold : Refusal → Type 0) : Type 0 where
  pub refusal : Refusal
  pub cause : IsJustified words source source_now refusal
  pub told : IsTold refusal
  pub still_new : IsNew session

-- the refusal was told by its status, and by its line, which was written whole
pub record TellsWhole (status : ℕ) (sink sink_now : SinkState) (refusal : Refusal) : Type 0 where
  pub is_status : status ≡ status_of refusal
  pub line : WritesWhole sink sink_now (line_of refusal)

-- a front of the line of the refusal was written, and not the whole of it, since writing failed
abbrev pub TellsFront : SinkState → SinkState → Refusal → Type 0
TellsFront sink sink_now refusal = WritesFront sink sink_now (line_of refusal)

-- what is written where writing fails: a front of the output, or of the line of a refusal
abbrev pub WritesPart : List (List ℕ) → SourceState → SourceState → SinkState → SinkState → Session → Type 0
WritesPart words source source_now sink sink_now session =
    Asks words (PrintsFront source source_now sink sink_now session) ⊎ Refuses words source source_now session (TellsFront sink sink_now)

-- the bytes were written whole, and the status is this one; or writing failed, and the status is 5
abbrev pub IsSent : ℕ → ℕ → SinkState → SinkState → List ℕ → Type 0
IsSent status result sink sink_now bytes =
    ((result ≡ status) × WritesWhole sink sink_now bytes) ⊎ ((result ≡ 5) × WritesFront sink sink_now bytes)

-- the line of this refusal was sent, or, for a broken item alone, that of want of memory
abbrev pub IsTold : Refusal → ℕ → SinkState → SinkState → Type 0
IsTold (Syntax line) result sink sink_now =
    IsSent 3 result sink sink_now (line_of (Syntax line)) ⊎ IsSent 6 result sink sink_now (line_of Memory)
IsTold Usage result sink sink_now = IsSent 2 result sink sink_now (line_of Usage)
IsTold Read result sink sink_now = IsSent 4 result sink sink_now (line_of Read)
IsTold Memory result sink sink_now = IsSent 6 result sink sink_now (line_of Memory)
IsTold ArenaFull result sink sink_now = IsSent 8 result sink sink_now (line_of ArenaFull)
IsTold TooLong result sink sink_now = IsSent 9 result sink sink_now (line_of TooLong)

-- what a command is to print: the bytes came as it asks, they are a script, and the session answers it
pub record Makes (source source_now : SourceState) (session : Session) (output : List ℕ) (command : Command) : Type 0 where
  pub bytes : List ℕ
  pub came : Gets command source source_now bytes
  pub answers : Answers bytes session
  pub printed : output ≡ output_of command session

-- the statuses that there are
abbrev pub is_status : ℕ → Bool
is_status n = nat_eq n 0 || (nat_eq n 2 || (nat_eq n 3 || (nat_eq n 4 || (nat_eq n 5 || (nat_eq n 6 || (nat_eq n 8 || nat_eq n 9))))))

-- a sink with this room is too small: no line of a refusal needs 64 bytes, and what a command prints needs more than the room
abbrev pub IsSmall : List (List ℕ) → Session → ℕ → Type 0
IsSmall words session room = (room < 64) ⊎ Asks words (λ command. room < length (output_of command session))

-- what is to be read is known, and a script that is not too long; and its calls fit into a store
pub record IsGoodInput (source : SourceState) : Type 0 where
  pub bytes : List ℕ
  pub known : source.left ≡ Some bytes
  pub fits : length bytes ≤ max_script_len
  pub contents : Contents
  pub script : IsScript bytes contents
  pub most : ℕ
  pub are_most : AreMost contents.options (script_around contents) contents.calls most
  pub room : most ≤ 4294967295

-- what a command needs of the source: where a script is read, that it is good; where one is made, nothing
abbrev pub HasNeeds : SourceState → Command → Type 0
HasNeeds source Run = IsGoodInput source
HasNeeds source (Generate n) = Unit {0}

-- the words ask for something, and it has what it needs
abbrev pub IsGood : List (List ℕ) → SourceState → Type 0
IsGood words source = Asks words (HasNeeds source)

-- the statuses that then come: that of success, that of a sink that fails, that of want of memory, and, where a script is read, that of a
-- source that fails
abbrev pub is_good_status : Command → ℕ → Bool
is_good_status Run status = nat_eq status 0 || (nat_eq status 4 || (nat_eq status 5 || nat_eq status 6))
is_good_status (Generate n) status = nat_eq status 0 || (nat_eq status 5 || nat_eq status 6)
