-- Recursion limits.
use Rattle.std.specs.Prelude.{ℕ}

-- the greatest that a script can set
abbrev pub max_limit : ℕ
max_limit = 1024

-- that of a script that sets none
abbrev pub usual_limit : ℕ
usual_limit = 128
