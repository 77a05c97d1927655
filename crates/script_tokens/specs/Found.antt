-- What the code's readers find, as a word by cases on their results.
use Rattle.std.specs.Prelude.{◌≡◌, ◌≤◌, List, length, Option, Some, None, Result, Ok, Err}
use Rattle.text_cut.specs.declared.cursor.Cursor.{Cursor}
use Rattle.script_tokens.specs.Tokens.{Tok}
use Rattle.script_tokens.specs.Ahead.{ahead, end}

-- this value was read here, and behind it the same line goes on
pub record Stands {V : Type 0} (read : List Tok → Option (V × List Tok)) (here : Cursor) (v : V) (after : Cursor) : Type 0 where
  pub is : read (ahead here) ≡ Some (v, ahead after)
  pub same_line : end after ≡ end here
  pub fewer : length (ahead after) ≤ length (ahead here)

-- what the reader finds here, by what the code's value stands for
abbrev pub Found : {C V : Type 0} → (C → V) → (List Tok → Option (V × List Tok)) → Cursor → Option (C × Cursor) → Type 0
Found view read here None = read (ahead here) ≡ None
Found view read here (Some r) = Stands read here (view r.0) r.1

-- the same, unless memory runs out
abbrev pub Read : {C V E : Type 0} → (C → V) → (List Tok → Option (V × List Tok)) → Cursor → Result (Option (C × Cursor)) E → Type 0
Read view read here (Ok found) = Found view read here found
Read view read here (Err error) = Unit {0}

-- nothing but the place behind it
abbrev pub Passes : (List Tok → Option (Unit {0} × List Tok)) → Cursor → Option Cursor → Type 0
Passes read here None = read (ahead here) ≡ None
Passes read here (Some after) = Stands read here tt after
