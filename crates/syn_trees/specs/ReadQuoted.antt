-- What stands between the quotes of a string token, as a function of the characters at a place.
use Rattle.std.specs.Prelude.{ℕ, List, Option, option_map}
use Rattle.std.specs.Str.{encode_utf8_all}
use Rattle.text_cut.specs.Place.{Place}
use Rattle.syn_trees.specs.declared.str_token.StrToken.{StrToken}
use Rattle.syn_trees.specs.ReadString.{Found, between, token_at}

-- the bytes of a string token, and of what stands between its quotes
pub record Str : Type 0 where
  pub text : List ℕ
  pub inside : List ℕ

-- the token of the code, as its bytes
abbrev pub str_of : StrToken → Str
str_of token = record { text = token.text.now; inside = token.inside.now }

-- the bytes of a token that was found at a place, and the place behind the token
abbrev pub str_between : Place → Found → Str × Place
str_between p found = (record { text = encode_utf8_all (between p found.end); inside = encode_utf8_all (between found.from found.to) }, found.end)

-- the string token that stands at a place, and the place behind it
abbrev pub str_at : Place → Option (Str × Place)
str_at p = option_map (str_between p) (token_at p)
