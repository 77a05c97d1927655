-- Numbers and names, as functions of a place.
use Rattle.std.specs.Prelude.{ℕ, nat_le, Option, Some, None, if◌then◌else◌, option_map}
use Rattle.std.specs.Char.{is_ascii_digit}
use Rattle.unicode_ident.specs.Ident.{is_xid_continue}
use Rattle.sym_core.specs.declared.text_range.TextRange.{TextRange}
use Rattle.text_cut.specs.Runs.{starts, front}
use Rattle.text_cut.specs.Place.{Place, first, past}
use Rattle.fmt_parse.specs.Tokens.{number_from, starts_name}

-- the range from one place to another
abbrev pub between : Place → Place → TextRange
between p e = record { start = p.at; end = e.at }

-- the number, if it has 16 bits, and the place behind its digits
abbrev pub if_small : ℕ → Place → Option (ℕ × Place)
if_small n e = if nat_le n 65535 then Some (n, e) else None

-- the number that stands here, and the place behind it
unfoldable pub int_at : Place → Option (ℕ × Place)
int_at p = if starts is_ascii_digit p.left then if_small (number_from 0 (front is_ascii_digit p.left)) (past is_ascii_digit p) else None

-- the place behind what goes on a name
abbrev pub past_name : Place → Place
past_name p = past is_xid_continue p

-- the place behind the name that stands here
unfoldable pub name_at : Place → Option Place
name_at p = if starts_name p.left then option_map (λ (r : ℕ × Place). past_name r.1) (first p) else None
