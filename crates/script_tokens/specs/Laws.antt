-- What holds of all lines of scripts.
use Rattle.std.specs.Prelude.{◌≡◌, ℕ, ◌+◌, List, ◌++◌, Some}
use Rattle.text_cut.specs.Runs.{size}
use Rattle.text_cut.specs.Place.{Place, place, Took}
use Rattle.script_tokens.specs.Tokens.{Tok}
use Rattle.script_tokens.specs.Ahead.{toks_at, end_at}
use Rattle.script_tokens.specs.Lines.{IsLine, past_line}

-- the tokens of a line are those that are found, whatever follows it, and behind them its end; where tokens are found in front of the
-- end of a line, that line stands; and a text is at most one list of tokens
pub record ReadsLines : Type 0 where
  pub found : (text : List ℕ) (toks : List Tok) (rest : List ℕ) (at : ℕ) → IsLine text toks → toks_at (place at (text ++ rest)) ≡ toks
  pub ends : (text : List ℕ) (toks : List Tok) (rest : List ℕ) (at : ℕ) → IsLine text toks → past_line (end_at (place at (text ++ rest))) ≡ Some (place (at + size text) rest)
  pub is : (here e : Place) → past_line (end_at here) ≡ Some e → (text : List ℕ) × Took here e text × IsLine text (toks_at here)
  pub one : (text : List ℕ) (toks others : List Tok) → IsLine text toks → IsLine text others → toks ≡ others
