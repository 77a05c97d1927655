-- Numbers and leaves at the front of a list of tokens.
use Rattle.std.specs.Prelude.{ℕ, Bool, true, ◌&&◌, nat_le, if◌then◌else◌, List, [], ◌∷◌, Option, Some, None}
use Rattle.std.specs.Str.Parse.{digits_value}
use Rattle.std.specs.Char.{is_ascii_digit}
use Rattle.script_tokens.specs.Tokens.{Tok}
use Rattle.script_tokens.specs.Readers.{◌>>=◌, take, numeral_of, mark}

-- every byte is a digit
abbrev pub all_digits : List ℕ → Bool
all_digits [] = true
all_digits (b ∷ bytes) = is_ascii_digit b && all_digits bytes

-- the number that digits write, if it has 32 bits; other bytes write none
abbrev pub number_of : List ℕ → Option ℕ
number_of [] = None
number_of (b ∷ bytes) = if all_digits (b ∷ bytes) && nat_le (digits_value 10 (b ∷ bytes)) 4294967295 then Some (digits_value 10 (b ∷ bytes)) else None

-- a number
abbrev pub number : List Tok → Option (ℕ × List Tok)
number toks = take (λ tok. numeral_of tok.kind >>= number_of) toks

-- the number of a numeral without blanks in front of it
abbrev pub direct_number : List Tok → Option (ℕ × List Tok)
direct_number toks = take (λ tok. if tok.spaced then None else (numeral_of tok.kind >>= number_of)) toks

-- a leaf: `@` and a number directly behind it
abbrev pub leaf : List Tok → Option (ℕ × List Tok)
leaf toks = mark 64 toks >>= λ at. direct_number at.1
