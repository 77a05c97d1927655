-- As many values as stand at the front of a list of tokens.
use Rattle.std.specs.Prelude.{◌≡◌, ℕ, ◌≤◌, zero, suc, List, [], ◌∷◌, ◌++◌, length, Option, Some, None}
use Rattle.script_tokens.specs.Tokens.{Tok}

-- a value and what is read behind it, or nothing at this place
abbrev pub then_many : {V : Type 0} → Option (V × List Tok) → (List Tok → List V × List Tok) → List Tok → List V × List Tok
then_many None more toks = ([], toks)
then_many (Some r) more toks = (r.0 ∷ (more r.1).0, (more r.1).1)

-- as many values as stand there, in so many steps at most
abbrev pub many_within : {V : Type 0} → (List Tok → Option (V × List Tok)) → ℕ → List Tok → List V × List Tok
many_within read zero toks = ([], toks)
many_within read (suc most) toks = then_many (read toks) (many_within read most) toks

-- as many values as stand there: there are no more than tokens
abbrev pub many : {V : Type 0} → (List Tok → Option (V × List Tok)) → List Tok → List V × List Tok
many read toks = many_within read (length toks) toks

-- what a loop keeps that reads value by value: these were read from the start on, up to these tokens
pub record ManySoFar {V : Type 0} (read : List Tok → Option (V × List Tok)) (start : List Tok) (values : List V) (toks : List Tok) : Type 0 where
  pub most : ℕ
  pub enough : length toks ≤ most
  pub same : many read start ≡ (values ++ (many_within read most toks).0, (many_within read most toks).1)
