-- What holds of all scripts.
use Rattle.std.specs.Prelude.{◌≡◌, ℕ, List}
use Rattle.script.specs.Contents.{Contents}
use Rattle.script.specs.Script.{IsScript, IsFaultLine}

-- bytes are a script that says one thing at most, have at most one fault line, and never both
pub record HasOneReading : Type 0 where
  pub one : (bytes : List ℕ) (contents other : Contents) → IsScript bytes contents → IsScript bytes other → contents ≡ other
  pub line : (bytes : List ℕ) (line other : ℕ) → IsFaultLine bytes line → IsFaultLine bytes other → line ≡ other
  pub never_both : (bytes : List ℕ) (contents : Contents) (line : ℕ) → IsScript bytes contents → IsFaultLine bytes line → ⊥
