-- What holds of all string tokens.
use Rattle.std.specs.Prelude.{◌≡◌, ℕ, ◌+◌, ◌≤◌, ◌<◌, List, ◌++◌, length, slice_range, Some}
use Rattle.std.specs.Str.{IsUtf8}
use Rattle.text_cut.specs.Runs.{size}
use Rattle.text_cut.specs.Place.{Place, place, Took}
use Rattle.text_cut.specs.Part.{IsPart}
use Rattle.syn_trees.specs.StringToken.{IsStringToken}
use Rattle.syn_trees.specs.Literal.{HasValue, IsBetweenQuotes, FitsBetweenQuotes, IsUnescaped}
use Rattle.syn_trees.specs.ReadString.{token_end, value_of}

-- `token_end` finds a token where one stands, whatever follows it, and finds only tokens
pub record ReadsTokens : Type 0 where
  pub found : (token rest : List ℕ) (at : ℕ) → IsStringToken token → token_end (place at (token ++ rest)) ≡ Some (place (at + size token) rest)
  pub is : (p e : Place) → token_end p ≡ Some e → (token : List ℕ) × IsStringToken token × Took p e token

-- a token has at most one value, and `value_of` is it
pub record HasOneValue : Type 0 where
  pub one : (token value other : List ℕ) → HasValue token value → HasValue token other → value ≡ other
  pub found : (token value : List ℕ) → HasValue token value → value_of token ≡ Some value
  pub is : (token value : List ℕ) → value_of token ≡ Some value → HasValue token value

-- what stands between the quotes of a token is a part of it, in front of its last byte; no value takes more bytes than that part, and none
-- more than the token without a quote at each end
pub record ValuesFit : Type 0 where
  pub part : (token : List ℕ) (start end : ℕ) → IsUtf8 token → IsBetweenQuotes token start end → IsPart token start end × (end < length token)
  pub between : (token value : List ℕ) → HasValue token value → FitsBetweenQuotes token value
  pub short : (token value : List ℕ) → IsUtf8 token → HasValue token value → length value + 2 ≤ length token

-- the value of a token that is raw, or has no `\`, is the text between its quotes
pub record ValuesAsWritten : Type 0 where
  pub same : (token value : List ℕ) (start end : ℕ) → IsUtf8 token → IsUnescaped token → IsBetweenQuotes token start end → HasValue token value → value ≡ slice_range token start end
