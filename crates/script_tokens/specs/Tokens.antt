-- The tokens of a script's lines: words, numerals, string tokens, marks, and brackets.
use Rattle.std.specs.Prelude.{◌≡◌, ℕ, Bool, true, false, ◌==◌, ◌||◌, ◌&&◌, not, if◌then◌else◌, List, [], ◌∷◌, ◌++◌}
use Rattle.std.specs.Char.{is_ascii_digit, is_ascii_punctuation}
use Rattle.std.specs.Str.{encode_utf8_all}
use Rattle.text_cut.specs.Runs.{starts, is_blank, AllPass, IsLongest}
use Rattle.text_cut.specs.Reading.{Spelled}
use Rattle.syn_trees.specs.declared.token_tree.Spacing.{Spacing}
use Rattle.syn_trees.specs.declared.token_tree.Spacing.TheVariants.{Alone, Joint}
use Rattle.syn_trees.specs.ReadQuoted.{Str}
use Rattle.syn_trees.specs.StringToken.{OpensRaw, Quoting, IsQuoted}
use Rattle.script_tokens.specs.declared.token.Bracket.{Bracket}
use Rattle.script_tokens.specs.declared.token.Bracket.TheVariants.{Round, Square, Curly}
use Rattle.script_tokens.specs.Words.{continues_word, IsWord}

-- what a token is, with its bytes: a word, a numeral, a string token, a mark and whether a mark follows it directly, a bracket
pub data Kind : Type 0 where
  Word : List ℕ → Kind
  Numeral : List ℕ → Kind
  Text : Str → Kind
  Mark : ℕ → Spacing → Kind
  Open : Bracket → Kind
  Close : Bracket → Kind

-- a token, and whether blanks stand in front of it
pub record Tok : Type 0 where
  pub spaced : Bool
  pub kind : Kind

-- the character that opens a group
abbrev pub opening : Bracket → ℕ
opening Round = 40
opening Square = 91
opening Curly = 123

-- the character that closes a group
abbrev pub closing : Bracket → ℕ
closing Round = 41
closing Square = 93
closing Curly = 125

-- a character that opens or closes a group
abbrev pub is_bracket : ℕ → Bool
is_bracket c = ((c == 40) || (c == 41)) || (((c == 91) || (c == 93)) || ((c == 123) || (c == 125)))

-- a punctuation character of ASCII other than `_`, `"` and the brackets
abbrev pub is_mark : ℕ → Bool
is_mark c = is_ascii_punctuation c && not (((c == 95) || (c == 34)) || is_bracket c)

-- whether a mark follows directly
abbrev pub spacing : List ℕ → Spacing
spacing rest = if starts is_mark rest then Joint else Alone

-- a word as long as it goes on; an `r` in front of the start of a raw string is none
pub record IsWholeWord (text rest : List ℕ) : Type 0 where
  pub word : IsWord text
  pub ends : starts continues_word rest ≡ false
  pub no_raw : text ≡ 114 ∷ [] → OpensRaw rest → ⊥

-- a digit, and the characters behind it as long as they go on a word
pub record IsNumeral (text rest : List ℕ) : Type 0 where
  pub digit : ℕ
  pub more : List ℕ
  pub whole : text ≡ digit ∷ more
  pub is_digit : is_ascii_digit digit ≡ true
  pub longest : IsLongest continues_word more rest

-- a string token, and what stands between its quotes as written
pub record IsString (text inside : List ℕ) : Type 0 where
  pub quoting : Quoting
  pub quoted : IsQuoted quoting text inside

-- how a text without blanks in front is a token, where this rest follows
pub data Spelling (text rest : List ℕ) : Type 0 where
  AsWord : IsWholeWord text rest → Spelling text rest
  AsNumeral : IsNumeral text rest → Spelling text rest
  AsText : (inside : List ℕ) → IsString text inside → Spelling text rest
  AsMark : (c : ℕ) → text ≡ c ∷ [] → is_mark c ≡ true → Spelling text rest
  Opening : (k : Bracket) → text ≡ opening k ∷ [] → Spelling text rest
  Closing : (k : Bracket) → text ≡ closing k ∷ [] → Spelling text rest

-- a string token and what stands between its quotes, as bytes
abbrev pub str_from : List ℕ → List ℕ → Str
str_from text inside = record { text = encode_utf8_all text; inside = encode_utf8_all inside }

-- what a text that is spelled so stands for
abbrev pub kind_by : {text rest : List ℕ} → Spelling text rest → Kind
kind_by {text} (AsWord is) = Word (encode_utf8_all text)
kind_by {text} (AsNumeral is) = Numeral (encode_utf8_all text)
kind_by {text} (AsText inside is) = Text (str_from text inside)
kind_by {text} {rest} (AsMark c is mark) = Mark c (spacing rest)
kind_by (Opening k is) = Open k
kind_by (Closing k is) = Close k

-- whether there are some characters
abbrev pub are_some : List ℕ → Bool
are_some [] = false
are_some (c ∷ cs) = true

-- blanks, and a token behind them
pub record IsTok (front : List (Spelled Tok)) (text : List ℕ) (tok : Tok) (rest : List ℕ) : Type 0 where
  pub blanks : List ℕ
  pub bare : List ℕ
  pub whole : text ≡ blanks ++ bare
  pub are_blanks : AllPass is_blank blanks
  pub spelling : Spelling bare rest
  pub spaced : tok.spaced ≡ are_some blanks
  pub kind : tok.kind ≡ kind_by spelling
