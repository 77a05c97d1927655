-- The greatest length of a script.
use Rattle.std.specs.Prelude.{ℕ}

-- in bytes; the code has it as `MAX_SCRIPT_LEN`
abbrev pub max_script_len : ℕ
max_script_len = 16777216
