-- What the words of the program ask for.
use Rattle.std.specs.Prelude.{◌≡◌, ℕ, nat_le, if◌then◌else◌, List, [], ◌∷◌, length, codes, Option, Some, None}
use Rattle.std.specs.Option.{option_map}
use Rattle.std.specs.Str.{bytes_eq}
use Rattle.script_tokens.specs.Numbers.{number_of}
use Rattle.cfgfmt.specs.declared.command.Command.{Command}
use Rattle.cfgfmt.specs.declared.command.Command.TheVariants.{Run, Generate}

-- the number that 1 to 10 decimal digits write, where it is at most 4,294,967,295
abbrev pub short_number : List ℕ → Option ℕ
short_number digits = if nat_le (length digits) 10 then number_of digits else None

-- what one word asks for: `run` asks for a script that is read
abbrev pub command_of_word : List ℕ → Option Command
command_of_word word = if bytes_eq word (codes "run") then Some Run else None

-- what a word and a number ask for: `gen` asks for the script that is made for the number
abbrev pub command_with : List ℕ → List ℕ → Option Command
command_with word number = if bytes_eq word (codes "gen") then option_map Generate (short_number number) else None

-- what words ask for; without any, it is a script that is read
abbrev pub command_of : List (List ℕ) → Option Command
command_of [] = Some Run
command_of (word ∷ []) = command_of_word word
command_of (word ∷ number ∷ []) = command_with word number
command_of (word ∷ number ∷ next ∷ words) = None

-- the words ask for something, and this holds of it
pub record Asks (words : List (List ℕ)) (Holds : Command → Type 0) : Type 0 where
  pub command : Command
  pub asked : command_of words ≡ Some command
  pub holds : Holds command
