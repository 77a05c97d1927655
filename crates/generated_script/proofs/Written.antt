-- Lines of ASCII, as they are written: token by token, with at most one space in front of each.
use Rattle.std.proofs.Common.{ℕ, Bool, true, false, ◌&&◌, ◌||◌, not, cond, List, [], ◌∷◌, ◌++◌}
use Rattle.std.specs.Char.{is_ascii, is_ascii_lowercase}
use Rattle.std.specs.Str.{bytes_eq}
use Rattle.text_cut.specs.Reading.{Spelled, texts, items}
use Rattle.syn_trees.specs.declared.token_tree.Spacing.TheVariants.{Alone, Joint}
use Rattle.syn_trees.specs.StringToken.{is_ordinary}
use Rattle.script_tokens.specs.declared.token.Bracket.{Bracket}
use Rattle.script_tokens.specs.Tokens.{Kind, Word, Numeral, Text, Mark, Open, Close, Tok, opening, closing, is_mark}
use Rattle.script_tokens.specs.Numbers.{all_digits}
use Rattle.generated_script.specs.Made.{quoted}

-- what a token is written as: a word, digits, a plain string by what stands in it, a mark, a bracket
pub data Sign : Type 0 where
  Name : List ℕ → Sign
  Digits : List ℕ → Sign
  Quoted : List ℕ → Sign
  Point : ℕ → Sign
  Opens : Bracket → Sign
  Closes : Bracket → Sign

-- a token that is written, and whether a space stands in front of it
pub record Written : Type 0 where
  pub spaced : Bool
  pub sign : Sign

-- the characters of a token
abbrev pub signed : Sign → List ℕ
signed (Name word) = word
signed (Digits digits) = digits
signed (Quoted inside) = quoted inside
signed (Point c) = c ∷ []
signed (Opens bracket) = opening bracket ∷ []
signed (Closes bracket) = closing bracket ∷ []

-- a space, or nothing
abbrev pub space : Bool → List ℕ
space true = 32 ∷ []
space false = []

-- whether characters that go on a word begin the token
abbrev pub is_wordy : Sign → Bool
is_wordy (Name word) = true
is_wordy (Digits digits) = true
is_wordy other = false

-- whether it is a mark
abbrev pub is_point : Sign → Bool
is_point (Point c) = true
is_point other = false

-- whether the first of these tokens has no space in front of it and passes a test
abbrev pub next_is : (Sign → Bool) → List Written → Bool
next_is test [] = false
next_is test (w ∷ ws) = cond w.spaced false (test w.sign)

-- what the token is, where a mark follows it directly or not
abbrev pub kind : Sign → Bool → Kind
kind (Name word) joint = Word word
kind (Digits digits) joint = Numeral digits
kind (Quoted inside) joint = Text (record { text = quoted inside; inside = inside })
kind (Point c) joint = Mark c (cond joint Joint Alone)
kind (Opens bracket) joint = Open bracket
kind (Closes bracket) joint = Close bracket

-- the tokens that are written, with their characters
abbrev pub spelled_of : List Written → List (Spelled Tok)
spelled_of [] = []
spelled_of (w ∷ ws) = record { text = space w.spaced ++ signed w.sign; item = record { spaced = w.spaced; kind = kind w.sign (next_is is_point ws) } } ∷ spelled_of ws

-- the tokens
abbrev pub toks_of : List Written → List Tok
toks_of ws = items (spelled_of ws)

-- the line that they are: their characters and a line feed
abbrev pub line_of : List Written → List ℕ
line_of ws = texts (spelled_of ws) ++ 10 ∷ []

-- every character passes
abbrev pub all_pass : (ℕ → Bool) → List ℕ → Bool
all_pass p [] = true
all_pass p (c ∷ cs) = p c && all_pass p cs

-- whether there are some characters
abbrev pub are_some : List ℕ → Bool
are_some [] = false
are_some (c ∷ cs) = true

-- a character of a string that is written as it stands
abbrev pub is_plain : ℕ → Bool
is_plain c = is_ascii c && is_ordinary c

-- whether the token is that, where characters that go on a word follow it or not: a word has small letters and is not `r`
abbrev pub is_sound : Sign → Bool → Bool
is_sound (Name word) goes_on = (are_some word && all_pass is_ascii_lowercase word) && not (bytes_eq word (114 ∷ []) || goes_on)
is_sound (Digits digits) goes_on = (are_some digits && all_digits digits) && not goes_on
is_sound (Quoted inside) goes_on = all_pass is_plain inside
is_sound (Point c) goes_on = is_mark c
is_sound (Opens bracket) goes_on = true
is_sound (Closes bracket) goes_on = true

-- whether each of the tokens is
abbrev pub are_sound : List Written → Bool
are_sound [] = true
are_sound (w ∷ ws) = is_sound w.sign (next_is is_wordy ws) && are_sound ws
