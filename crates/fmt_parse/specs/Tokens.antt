-- Numbers and names in a format text.
use Rattle.std.specs.Prelude.{◌≡◌, ◌+◌, ◌-◌, ◌*◌, ◌≤◌, ℕ, Bool, true, false, ◌==◌, ◌||◌, ◌&&◌, List, [], ◌∷◌}
use Rattle.std.specs.Char.{is_ascii_digit}
use Rattle.unicode_ident.specs.Ident.{is_xid_start, is_xid_continue}
use Rattle.text_cut.specs.Runs.{starts, tail, size, IsLongest}
use Rattle.sym_core.specs.declared.text_range.TextRange.{TextRange}

-- the range of a text that begins at this offset
abbrev pub range : ℕ → List ℕ → TextRange
range at text = record { start = at; end = at + size text }

-- the number that digits write behind those that write n
abbrev pub number_from : ℕ → List ℕ → ℕ
number_from n [] = n
number_from n (c ∷ digits) = number_from (n * 10 + (c - 48)) digits

-- INT: digits, as many as follow, of a number of 16 bits
pub record IsInt (at : ℕ) (text : List ℕ) (n : ℕ) (rest : List ℕ) : Type 0 where
  pub some : starts is_ascii_digit text ≡ true
  pub longest : IsLongest is_ascii_digit text rest
  pub value : n ≡ number_from 0 text
  pub small : n ≤ 65535

-- the text begins with what begins a name: a character that is XID_Start, or `_` with one behind it that is XID_Continue
abbrev pub starts_name : List ℕ → Bool
starts_name [] = false
starts_name (c ∷ cs) = is_xid_start c || ((c == 95) && starts is_xid_continue cs)

-- NAME: it is as long as the characters allow
pub record IsName (text rest : List ℕ) : Type 0 where
  pub begins : starts_name text ≡ true
  pub longest : IsLongest is_xid_continue (tail text) rest

-- the characters that tell what stands at a place
abbrev pub is_open : ℕ → Bool
is_open c = c == 123

abbrev pub is_close : ℕ → Bool
is_close c = c == 125

abbrev pub is_colon : ℕ → Bool
is_colon c = c == 58

abbrev pub is_dollar : ℕ → Bool
is_dollar c = c == 36

abbrev pub is_dot : ℕ → Bool
is_dot c = c == 46

abbrev pub is_star : ℕ → Bool
is_star c = c == 42

abbrev pub is_question : ℕ → Bool
is_question c = c == 63

abbrev pub is_x : ℕ → Bool
is_x c = (c == 120) || (c == 88)

abbrev pub is_align : ℕ → Bool
is_align c = (c == 60) || ((c == 94) || (c == 62))
