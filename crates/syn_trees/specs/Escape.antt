-- What stands between the quotes of a plain token, character by character and escape by escape (the Rust Reference, "String literals":
-- the escapes of quotes, of ASCII, of Unicode, and of string continuation).
use Rattle.std.specs.Prelude.{◌≡◌, ℕ, ◌≤◌, Bool, true, false, ◌||◌, nat_eq, if◌then◌else◌, List, [], ◌∷◌, ◌++◌, length, Option, Some, None}
use Rattle.std.specs.List.{filter}
use Rattle.std.specs.Char.{IsScalar, is_digit}
use Rattle.std.specs.Str.Parse.{digits_value}
use Rattle.text_cut.specs.Runs.{starts, AllPass, IsLongest, is_blank}
use Rattle.text_cut.specs.Reading.{Spelled, IsRead}

abbrev pub is_hex : ℕ → Bool
is_hex c = is_digit c 16

-- a hexadecimal digit or `_`
abbrev pub is_hex_or_underscore : ℕ → Bool
is_hex_or_underscore c = is_digit c 16 || nat_eq c 95

-- a blank or a line feed
abbrev pub is_space : ℕ → Bool
is_space c = is_blank c || nat_eq c 10

-- the character that one of `nrt\0'"` stands for behind `\`
abbrev pub letter : ℕ → Option ℕ
letter e =
    if nat_eq e 110 then Some 10 else
    if nat_eq e 114 then Some 13 else
    if nat_eq e 116 then Some 9 else
    if nat_eq e 92 then Some 92 else
    if nat_eq e 48 then Some 0 else
    if nat_eq e 39 then Some 39 else
    if nat_eq e 34 then Some 34 else None

-- a character other than `\` stands for itself
pub record IsSelf (text : List ℕ) (meant : Option ℕ) : Type 0 where
  pub c : ℕ
  pub whole : text ≡ c ∷ []
  pub other : nat_eq c 92 ≡ false
  pub value : meant ≡ Some c

-- `\` and a letter stand for one character
pub record IsLetter (text : List ℕ) (meant : Option ℕ) : Type 0 where
  pub e : ℕ
  pub c : ℕ
  pub whole : text ≡ 92 ∷ e ∷ []
  pub stands : letter e ≡ Some c
  pub value : meant ≡ Some c

-- `\x` and two hexadecimal digits stand for the character of that number, at most 7F
pub record IsAscii (text : List ℕ) (meant : Option ℕ) : Type 0 where
  pub high : ℕ
  pub low : ℕ
  pub whole : text ≡ 92 ∷ 120 ∷ high ∷ low ∷ []
  pub is_high : is_hex high ≡ true
  pub is_low : is_hex low ≡ true
  pub small : digits_value 16 (high ∷ low ∷ []) ≤ 127
  pub value : meant ≡ Some (digits_value 16 (high ∷ low ∷ []))

-- the digits among hexadecimal digits and `_`
abbrev pub digits_of : List ℕ → List ℕ
digits_of text = filter is_hex text

-- `\u{`, one to six hexadecimal digits with any `_` behind the first, and `}` stand for the character of that number, a Unicode scalar
-- value
pub record IsUnicode (text : List ℕ) (meant : Option ℕ) : Type 0 where
  pub digits : List ℕ
  pub whole : text ≡ 92 ∷ 117 ∷ 123 ∷ (digits ++ 125 ∷ [])
  pub begins : starts is_hex digits ≡ true
  pub are : AllPass is_hex_or_underscore digits
  pub few : length (digits_of digits) ≤ 6
  pub scalar : IsScalar (digits_value 16 (digits_of digits))
  pub value : meant ≡ Some (digits_value 16 (digits_of digits))

-- `\`, a line feed, and all blanks and line feeds behind it stand for nothing
pub record IsContinuation (text : List ℕ) (meant : Option ℕ) (rest : List ℕ) : Type 0 where
  pub spaces : List ℕ
  pub whole : text ≡ 92 ∷ 10 ∷ spaces
  pub longest : IsLongest is_space spaces rest
  pub value : meant ≡ None

-- the spellings of a character, or of nothing; any other `\` has none
pub data IsUnit (text : List ℕ) (meant : Option ℕ) (rest : List ℕ) : Type 0 where
  self : IsSelf text meant → IsUnit text meant rest
  by_letter : IsLetter text meant → IsUnit text meant rest
  ascii : IsAscii text meant → IsUnit text meant rest
  unicode : IsUnicode text meant → IsUnit text meant rest
  continuation : IsContinuation text meant rest → IsUnit text meant rest

abbrev pub unit_rule : List (Spelled (Option ℕ)) → List ℕ → Option ℕ → List ℕ → Type 0
unit_rule front text meant rest = IsUnit text meant rest

-- the characters that are meant
abbrev pub meant_of : List (Option ℕ) → List ℕ
meant_of [] = []
meant_of (None ∷ units) = meant_of units
meant_of (Some c ∷ units) = c ∷ meant_of units

-- what stands between plain quotes is these characters and escapes
abbrev pub HasUnits : List ℕ → List (Option ℕ) → Type 0
HasUnits inside units = IsRead unit_rule inside units
