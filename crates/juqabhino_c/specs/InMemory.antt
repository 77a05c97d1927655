-- What a run over a script in memory answers: a status, and bytes that go with it.
use Rattle.std.specs.Prelude.{◌≡◌, ◌<◌, ◌⊎◌, ℕ, List, length, Some, None}
use Rattle.std.specs.Str.{IsUtf8}
use Rattle.script.specs.Limit.{max_script_len}
use Rattle.script_generator.specs.Generated.{script_of}
use Rattle.cfgfmt.specs.declared.session.Session.{Session}
use Rattle.cfgfmt.specs.declared.command.Command.{Command}
use Rattle.cfgfmt.specs.declared.command.Command.TheVariants.{Run, Generate}
use Rattle.cfgfmt.specs.declared.refusal.Refusal.{Refusal}
use Rattle.cfgfmt.specs.declared.refusal.Refusal.TheVariants.{Usage, Syntax, Read, Memory, ArenaFull, TooLong}
use Rattle.cfgfmt.specs.Command.{command_of, Asks}
use Rattle.cfgfmt.specs.Session.{Answers, output_of}
use Rattle.cfgfmt.specs.Refusal.{IsFaulty, OutgrowsArena, line_of, status_of}
use Rattle.juqabhino_c.specs.Words.{words_of}
use Rattle.juqabhino_c.specs.Handing.{Handed}

-- the script that a command is about: the one that is handed over, or the one that is made for a number
abbrev pub script_for : List ℕ → Command → List ℕ
script_for script Run = script
script_for script (Generate n) = script_of n

-- the bytes are what the command prints of a session that answers its script
pub record IsOutput (script output : List ℕ) (command : Command) : Type 0 where
  pub session : Session
  pub answers : Answers (script_for script command) session
  pub is_printed : output ≡ output_of command session

-- why a run over a script in memory is refused: no read can fail, and want of memory may come whatever the words and the script are
abbrev pub IsCause : List (List ℕ) → List ℕ → Refusal → Type 0
IsCause words script Usage = command_of words ≡ None
IsCause words script (Syntax line) = Asks words (λ command. IsFaulty (script_for script command) line)
IsCause words script Read = ⊥
IsCause words script Memory = Unit {0}
IsCause words script ArenaFull = Asks words (λ command. OutgrowsArena (script_for script command))
IsCause words script TooLong = (command_of words ≡ Some Run) × (max_script_len < length script)

-- the bytes are the line of a refusal that has its cause, and the status is the refusal's
pub record IsRefusal (words : List (List ℕ)) (script : List ℕ) (status : ℕ) (output : List ℕ) : Type 0 where
  pub refusal : Refusal
  pub cause : IsCause words script refusal
  pub is_status : status ≡ status_of refusal
  pub is_line : output ≡ line_of refusal

-- status 0 and the output of the command that the words ask for, or another status with the line of its refusal
abbrev pub IsAnswer : List (List ℕ) → List ℕ → ℕ → List ℕ → Type 0
IsAnswer words script status output = ((status ≡ 0) × Asks words (IsOutput script output)) ⊎ IsRefusal words script status output

-- the line of wrong words, with its status
pub record IsUsage (status : ℕ) (output : List ℕ) : Type 0 where
  pub is_status : status ≡ 2
  pub is_line : output ≡ line_of Usage

-- The headline for bytes in memory. Words and script have an answer, and words that are no text are wrong words. The answer's length is told;
-- where the room holds it, the room begins with it, is as it was behind it, and the status is its own; else the room is as it was, and the
-- status is 5.
pub record Answered (words script room room_now : List ℕ) (told result : ℕ) : Type 0 where
  pub status : ℕ
  pub output : List ℕ
  pub answer : IsUtf8 words → IsAnswer (words_of words) script status output
  pub no_words : (IsUtf8 words → ⊥) → IsUsage status output
  pub is_told : told ≡ length output
  pub handed : Handed output status room room_now result
