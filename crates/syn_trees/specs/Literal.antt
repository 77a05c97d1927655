-- What a string literal stands for, and where its quotes are; tokens and values are bytes.
use Rattle.std.specs.Prelude.{◌≡◌, ℕ, ◌+◌, ◌≤◌, ◌⊎◌, true, not, nat_eq, List, length}
use Rattle.std.specs.Str.{chars, encode_utf8_all}
use Rattle.text_cut.specs.Runs.{starts, size, AllPass}
use Rattle.syn_trees.specs.StringToken.{Quoting, Plain, Raw, IsQuoted, IsStringToken}
use Rattle.syn_trees.specs.Escape.{HasUnits, meant_of}

-- the bytes are a string token whose length has 32 bits
pub record IsLiteral (token : List ℕ) : Type 0 where
  pub is : IsStringToken (chars token)
  pub short : length token ≤ 4_294_967_295

-- what stands between the quotes has this value
abbrev pub ValueOf : Quoting → List ℕ → List ℕ → Type 0
ValueOf Plain inside value = (units : List _) × HasUnits inside units × (value ≡ encode_utf8_all (meant_of units))
ValueOf (Raw marks) inside value = value ≡ encode_utf8_all inside

-- the token has this value
pub record HasValue (token value : List ℕ) : Type 0 where
  pub quoting : Quoting
  pub inside : List ℕ
  pub quoted : IsQuoted quoting (chars token) inside
  pub is : ValueOf quoting inside value

-- the token has no value
abbrev pub HasNoValue : List ℕ → Type 0
HasNoValue token = (value : List ℕ) → HasValue token value → ⊥

-- how many bytes stand in front of the text between the quotes
abbrev pub opening : Quoting → ℕ
opening Plain = 1
opening (Raw marks) = marks + 2

-- the range, in bytes, of the text between the quotes
pub record IsBetweenQuotes (token : List ℕ) (start end : ℕ) : Type 0 where
  pub quoting : Quoting
  pub inside : List ℕ
  pub quoted : IsQuoted quoting (chars token) inside
  pub starts : start ≡ opening quoting
  pub ends : end ≡ start + size inside

-- the value takes no more bytes than what stands between the quotes of the token
abbrev pub FitsBetweenQuotes : List ℕ → List ℕ → Type 0
FitsBetweenQuotes token value = (start end : ℕ) → IsBetweenQuotes token start end → start + length value ≤ end

-- the token is raw, or has no `\`
abbrev pub IsUnescaped : List ℕ → Type 0
IsUnescaped token = (starts (λ c. nat_eq c 114) (chars token) ≡ true) ⊎ AllPass (λ c. not (nat_eq c 92)) (chars token)
