-- A string token is plain, with escapes, or raw (the Rust Reference, "String literals" and "Raw string literals").
use Rattle.std.specs.Prelude.{◌≡◌, ℕ, ◌≤◌, Bool, true, ◌||◌, not, nat_eq, ◌⊎◌, List, [], ◌∷◌, ◌++◌, length, replicate}

-- a character other than `"` and `\`
abbrev pub is_ordinary : ℕ → Bool
is_ordinary c = not (nat_eq c 34 || nat_eq c 92)

-- what stands between plain quotes: characters other than `"` and `\`, and `\` with any character behind it
abbrev pub IsInside : List ℕ → Type 0
IsInside [] = Unit {0}
IsInside (c ∷ []) = is_ordinary c ≡ true
IsInside (c ∷ d ∷ cs) = ((is_ordinary c ≡ true) × IsInside (d ∷ cs)) ⊎ ((c ≡ 92) × IsInside cs)

-- a plain token: `"`, what stands between, `"`
pub record IsPlain (token inside : List ℕ) : Type 0 where
  pub whole : token ≡ 34 ∷ (inside ++ 34 ∷ [])
  pub are : IsInside inside

-- what ends a raw token: `"` and so many `#`
abbrev pub raw_end : ℕ → List ℕ
raw_end marks = 34 ∷ replicate marks 35

-- the text begins as a raw token does behind its `r`: so many `#`, 255 at most, and `"`
pub record OpensRaw (text : List ℕ) : Type 0 where
  pub marks : ℕ
  pub more : List ℕ
  pub few : marks ≤ 255
  pub is : text ≡ replicate marks 35 ++ 34 ∷ more

-- a raw token: `r`, so many `#` (255 at most), `"`, any characters, and the first end behind them
pub record IsRaw (marks : ℕ) (token inside : List ℕ) : Type 0 where
  pub few : marks ≤ 255
  pub whole : token ≡ 114 ∷ (replicate marks 35 ++ (34 ∷ (inside ++ raw_end marks)))
  pub first : (front rest : List ℕ) → inside ++ raw_end marks ≡ front ++ (raw_end marks ++ rest) → length inside ≤ length front

-- how a token is quoted: plainly, or raw with so many `#`
pub data Quoting : Type 0 where
  Plain : Quoting
  Raw : ℕ → Quoting

-- the token is quoted so, and this stands between its quotes
abbrev pub IsQuoted : Quoting → List ℕ → List ℕ → Type 0
IsQuoted Plain token inside = IsPlain token inside
IsQuoted (Raw marks) token inside = IsRaw marks token inside

-- the characters are a string token
pub record IsStringToken (token : List ℕ) : Type 0 where
  pub quoting : Quoting
  pub inside : List ℕ
  pub quoted : IsQuoted quoting token inside
