-- String tokens and their values as functions of the characters at a place.
use Rattle.std.specs.Prelude.{◌≡◌, ℕ, ◌+◌, ◌-◌, Bool, true, false, ◌&&◌, nat_eq, nat_le, if◌then◌else◌, List, [], ◌∷◌, length, take, Option, Some, None, option_map, option_and_then}
use Rattle.std.specs.Char.{len_utf8}
use Rattle.std.specs.Str.{chars, encode_utf8_all}
use Rattle.std.specs.Str.Parse.{digits_value}
use lib.Utf8.{scalar}
use Rattle.text_cut.specs.Runs.{starts, front, size}
use Rattle.text_cut.specs.Place.{Place, place, past, first, Took}
use Rattle.text_cut.specs.Rules.{past_word, word_in}
use Rattle.text_cut.specs.Whole.{read_whole}
use Rattle.text_cut.specs.Seen.{seen}
use Rattle.syn_trees.specs.declared.quoted.Quoted.{Quoted}
use Rattle.syn_trees.specs.StringToken.{raw_end, Quoting, Plain, Raw, IsQuoted}
use Rattle.syn_trees.specs.Literal.{opening}
use Rattle.syn_trees.specs.Escape.{is_hex, is_hex_or_underscore, is_space, letter, digits_of, meant_of}

-- a string token that was found: the number of its `#` where it is raw, the places behind the quotes that begin it, in front of those
-- that end it, and behind it
pub record Found : Type 0 where
  pub marks : Option ℕ
  pub from : Place
  pub to : Place
  pub end : Place

-- the characters that end a token
abbrev pub closing : Quoting → List ℕ
closing Plain = 34 ∷ []
closing (Raw marks) = raw_end marks

-- the number of a token's `#`, where it is raw
abbrev pub marks_of : Quoting → Option ℕ
marks_of Plain = None
marks_of (Raw marks) = Some marks

-- what was found, as places
abbrev pub found_of : Quoted → Found
found_of quoted = record { marks = quoted.marks; from = seen quoted.from; to = seen quoted.to; end = seen quoted.end }

-- where a plain token ends: in front of its last `"` and behind it; the character at the place is behind a `\` or not
abbrev pub plain_in : Bool → ℕ → List ℕ → Option (Place × Place)
plain_in escaped at [] = None
plain_in true at (c ∷ cs) = plain_in false (at + len_utf8 c) cs
plain_in false at (c ∷ cs) = if nat_eq c 34 then Some (place at (c ∷ cs), place (at + len_utf8 c) cs) else plain_in (nat_eq c 92) (at + len_utf8 c) cs

-- an end that stands here, or the one that is found behind
abbrev pub or_behind : Place → Option Place → Option (Place × Place) → Option (Place × Place)
or_behind here (Some end) behind = Some (here, end)
or_behind here None behind = behind

-- where a raw token ends: in front of its end and behind it
abbrev pub raw_in : ℕ → ℕ → List ℕ → Option (Place × Place)
raw_in marks at [] = None
raw_in marks at (c ∷ cs) = or_behind (place at (c ∷ cs)) (word_in (raw_end marks) at (c ∷ cs)) (raw_in marks (at + len_utf8 c) cs)

-- a token with its end
abbrev pub found_between : Option ℕ → Place → Option (Place × Place) → Option Found
found_between marks from None = None
found_between marks from (Some ends) = Some (record { marks = marks; from = from; to = ends.0; end = ends.1 })

-- the plain token behind whose first quote this place is
abbrev pub plain_behind : Place → Option Found
plain_behind from = found_between None from (plain_in false from.at from.left)

-- the raw token with so many `#`, behind whose first quote this place is
abbrev pub raw_behind : ℕ → Place → Option Found
raw_behind marks from = found_between (Some marks) from (raw_in marks from.at from.left)

-- the raw token with a start of so many `#`, of which this place is the end
abbrev pub raw_from : ℕ × Place → Option Found
raw_from start = raw_behind start.0 start.1

-- how many `#` stand between these places, and the place behind the quote behind them
abbrev pub start_between : Place → Place → Option (ℕ × Place)
start_between behind_r behind_marks =
    if nat_le (behind_marks.at - behind_r.at) 255
    then option_map (λ from. (behind_marks.at - behind_r.at, from)) (past_word (34 ∷ []) behind_marks)
    else None

-- a raw token's start behind its `r`
abbrev pub start_at : Place → Option (ℕ × Place)
start_at p = start_between p (past (λ c. nat_eq c 35) p)

-- a raw token's start: how many `#` it has, and the place behind its quote
abbrev pub raw_start : Place → Option (ℕ × Place)
raw_start p = option_and_then start_at (past_word (114 ∷ []) p)

-- the first answer, or else the other
abbrev pub found_or : Option Place → (Place → Option Found) → Option Found → Option Found
found_or (Some behind) reader other = reader behind
found_or None reader other = other

-- the string token that stands at a place
abbrev pub token_at : Place → Option Found
token_at p = found_or (past_word (34 ∷ []) p) plain_behind (option_and_then raw_from (raw_start p))

-- the characters between two places
abbrev pub between : Place → Place → List ℕ
between p e = take (length p.left - length e.left) p.left

-- the place behind the string token that stands at a place
abbrev pub token_end : Place → Option Place
token_end p = option_map (λ found. found.end) (token_at p)

-- a character and the place behind it, as a unit
abbrev pub as_unit : Place → ℕ → Option ℕ × Place
as_unit behind c = (Some c, behind)

-- the character of two hexadecimal digits, at most 7F
abbrev pub ascii_of : ℕ → ℕ → Option ℕ
ascii_of high low =
    if (is_hex high && is_hex low) && nat_le (digits_value 16 (high ∷ low ∷ [])) 127
    then Some (digits_value 16 (high ∷ low ∷ []))
    else None

-- what the two characters behind `\x` stand for
abbrev pub ascii_in : ℕ → List ℕ → Option (Option ℕ × Place)
ascii_in at [] = None
ascii_in at (high ∷ []) = None
ascii_in at (high ∷ low ∷ cs) = option_map (as_unit (place ((at + len_utf8 high) + len_utf8 low) cs)) (ascii_of high low)

-- the number of the digits, of which there are six at most
abbrev pub hex_number : List ℕ → Option ℕ
hex_number digits = if nat_le (length digits) 6 then Some (digits_value 16 digits) else None

-- the character of that number
abbrev pub scalar_of : ℕ → Option ℕ
scalar_of n = if scalar n then Some n else None

-- the character of hexadecimal digits and `_`
abbrev pub unicode_of : List ℕ → Option ℕ
unicode_of text = if starts is_hex text then option_and_then scalar_of (hex_number (digits_of text)) else None

-- what hexadecimal digits and `_` stand for, where `}` stands behind them
abbrev pub unicode_behind : Place → Option (Option ℕ × Place)
unicode_behind p = option_and_then (λ end. option_map (as_unit end) (unicode_of (front is_hex_or_underscore p.left))) (past_word (125 ∷ []) (past is_hex_or_underscore p))

-- what stands behind `\u`
abbrev pub unicode_at : Place → Option (Option ℕ × Place)
unicode_at p = option_and_then unicode_behind (past_word (123 ∷ []) p)

-- what a character behind `\` stands for, with the place behind that character and what stands there
abbrev pub escape_by : ℕ → Place → Option (Option ℕ × Place)
escape_by e behind =
    if nat_eq e 120 then ascii_in behind.at behind.left else
    if nat_eq e 117 then unicode_at behind else
    if nat_eq e 10 then Some (None, past is_space behind) else
    option_map (as_unit behind) (letter e)

-- what an escape stands for, behind its `\`
abbrev pub escape_at : Place → Option (Option ℕ × Place)
escape_at p = option_and_then (λ r. escape_by r.0 r.1) (first p)

-- what a character stands for, or the escape that it begins
abbrev pub unit_by : ℕ → Place → Option (Option ℕ × Place)
unit_by c behind = if nat_eq c 92 then escape_at behind else Some (as_unit behind c)

-- the character or the escape that stands at a place
abbrev pub unit_at : Place → Option (Option ℕ × Place)
unit_at p = option_and_then (λ r. unit_by r.0 r.1) (first p)

-- the bytes of what stands between the quotes of a raw token, or of what is meant there
abbrev pub value_in : Option ℕ → List ℕ → Option (List ℕ)
value_in (Some marks) inside = Some (encode_utf8_all inside)
value_in None inside = option_map (λ units. encode_utf8_all (meant_of units)) (read_whole unit_at inside)

-- whether nothing is left
abbrev pub ends_there : List ℕ → Bool
ends_there [] = true
ends_there (c ∷ left) = false

-- the value of a token that was found, where nothing stands behind it
abbrev pub whole_value : Found → Option (List ℕ)
whole_value found = if ends_there found.end.left then value_in found.marks (between found.from found.to) else None

-- the value of a token, where there is one
abbrev pub value_of : List ℕ → Option (List ℕ)
value_of token = option_and_then whole_value (token_at (place 0 (chars token)))

-- the parts of a literal as they are found: what stands between its quotes, and where
pub record PartsOf (token : List ℕ) (found : Found) : Type 0 where
  pub quoting : Quoting
  pub inside : List ℕ
  pub quoted : IsQuoted quoting (chars token) inside
  pub marks : found.marks ≡ marks_of quoting
  pub starts : found.from.at ≡ opening quoting
  pub ends : found.to.at ≡ opening quoting + size inside
  pub between : Took found.from found.to inside
