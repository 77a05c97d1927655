-- Tokens as functions of the characters at a place, in the code's own steps.
use Rattle.std.specs.Prelude.{ℕ, Bool, ◌==◌, nat_lt, if◌then◌else◌, List, Option, Some, None, is_some, option_map}
use Rattle.std.specs.Option.{option_or, option_and_then}
use Rattle.std.specs.Char.{is_ascii_digit}
use Rattle.std.specs.Str.{encode_utf8_all}
use Rattle.text_cut.specs.Runs.{starts, front, is_blank}
use Rattle.text_cut.specs.Place.{Place, past, first}
use Rattle.syn_trees.specs.ReadString.{raw_start}
use Rattle.syn_trees.specs.ReadQuoted.{Str, str_at}
use Rattle.script_tokens.specs.declared.token.Bracket.TheVariants.{Round, Square, Curly}
use Rattle.script_tokens.specs.Words.{begins_word, continues_word}
use Rattle.script_tokens.specs.Tokens.{Kind, Word, Numeral, Text, Mark, Open, Close, Tok, is_mark, spacing}

-- bytes and the place behind them, as a token
abbrev pub as_word : List ℕ × Place → Kind × Place
as_word r = (Word r.0, r.1)

abbrev pub as_numeral : List ℕ × Place → Kind × Place
as_numeral r = (Numeral r.0, r.1)

abbrev pub as_text : Str × Place → Kind × Place
as_text r = (Text r.0, r.1)

-- the bytes of the characters that go on a word, where the first of them passes a test, and the place behind them
abbrev pub word_by : (ℕ → Bool) → Place → Option (List ℕ × Place)
word_by begins p = if starts begins p.left then Some (encode_utf8_all (front continues_word p.left), past continues_word p) else None

-- the word that stands at a place
abbrev pub word_at : Place → Option (List ℕ × Place)
word_at p = word_by begins_word p

-- the numeral that stands at a place
abbrev pub numeral_at : Place → Option (List ℕ × Place)
numeral_at p = word_by is_ascii_digit p

-- whether a raw string's start stands at a place
abbrev pub opens_raw : Place → Bool
opens_raw p = is_some (raw_start p)

-- the bracket that a character is
abbrev pub bracket_of : ℕ → Option Kind
bracket_of c =
    if c == 40 then Some (Open Round) else
    if c == 41 then Some (Close Round) else
    if c == 91 then Some (Open Square) else
    if c == 93 then Some (Close Square) else
    if c == 123 then Some (Open Curly) else
    if c == 125 then Some (Close Curly) else
    None

-- the mark that a character is in front of this rest
abbrev pub mark_of : ℕ → List ℕ → Option Kind
mark_of c rest = if is_mark c then Some (Mark c (spacing rest)) else None

-- the token of one character, and the place behind it
abbrev pub sign_by : ℕ × Place → Option (Kind × Place)
sign_by r = option_map (λ kind. (kind, r.1)) (option_or (bracket_of r.0) (mark_of r.0 r.1.left))

abbrev pub sign_at : Place → Option (Kind × Place)
sign_at p = option_and_then sign_by (first p)

-- a word, a numeral or a sign
abbrev pub plain_at : Place → Option (Kind × Place)
plain_at p = option_or (option_map as_word (word_at p)) (option_or (option_map as_numeral (numeral_at p)) (sign_at p))

-- the token that stands at a place, and the place behind it
abbrev pub bare_at : Place → Option (Kind × Place)
bare_at p = option_or (option_map as_text (str_at p)) (if opens_raw p then None else plain_at p)

-- a token behind the blanks between two places
abbrev pub spaced_by : Place → Place → Kind × Place → Tok × Place
spaced_by p begin r = (record { spaced = nat_lt p.at begin.at; kind = r.0 }, r.1)

-- the token that stands behind blanks, and the place behind it
abbrev pub tok_at : Place → Option (Tok × Place)
tok_at p = option_map (spaced_by p (past is_blank p)) (bare_at (past is_blank p))
