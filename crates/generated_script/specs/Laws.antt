-- What holds of all scripts that are made.
use Rattle.std.specs.Prelude.{ℕ, ◌≤◌}
use Rattle.ra_cfg.specs.Options.{OptionSet}
use Rattle.format_code.specs.FormatCall.{Surroundings}
use Rattle.hir_lower.specs.Lowered.{AreMost}
use Rattle.script_generator.specs.Generated.{script_of}
use Rattle.script.specs.Script.{IsScript}
use Rattle.generated_script.specs.Made.{calls_of, made_contents}

-- the script of each number is one, and says what it is to say
abbrev pub MadeAreScripts : Type 0
MadeAreScripts = (n : ℕ) → IsScript (script_of n) (made_contents n)

-- whatever the options are, and wherever its calls stand, they place at most ten million expressions, which an arena holds
abbrev pub MadePlaceFew : Type 0
MadePlaceFew = (n : ℕ) (options : OptionSet) (around : Surroundings) (most : ℕ) → AreMost options around (calls_of n) most → most ≤ 10000000
