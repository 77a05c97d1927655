-- A cursor stands for the list of the tokens that are left of its line.
use Rattle.std.specs.Prelude.{List, [], ◌∷◌, Option, Some, None}
use Rattle.text_cut.specs.Place.{Place}
use Rattle.text_cut.specs.Many.{many_at}
use Rattle.text_cut.specs.Seen.{seen}
use Rattle.text_cut.specs.declared.cursor.Cursor.{Cursor}
use Rattle.syn_trees.specs.ReadQuoted.{str_of}
use Rattle.script_tokens.specs.declared.token.Token.{Token}
use Rattle.script_tokens.specs.declared.token.TokenKind.{TokenKind}
use Rattle.script_tokens.specs.declared.token.TokenKind.TheVariants as code
use Rattle.script_tokens.specs.Tokens.{Kind, Word, Numeral, Text, Mark, Open, Close, Tok}
use Rattle.script_tokens.specs.ReadTokens.{tok_at}

-- what the code's kind stands for
abbrev pub kind_of : TokenKind → Kind
kind_of (code.Word text) = Word text.now
kind_of (code.Numeral text) = Numeral text.now
kind_of (code.Text token) = Text (str_of token)
kind_of (code.Mark c spacing) = Mark c spacing
kind_of (code.Open bracket) = Open bracket
kind_of (code.Close bracket) = Close bracket

-- and the code's token
abbrev pub tok_of : Token → Tok
tok_of token = record { spaced = token.spaced; kind = kind_of token.kind }

-- all tokens from a place on: a line feed is no token, so they are of one line
unfoldable pub toks_at : Place → List Tok
toks_at p = (many_at tok_at p).0

-- the place behind the last of them
unfoldable pub end_at : Place → Place
end_at p = (many_at tok_at p).1

-- the tokens that are left of the cursor's line
abbrev pub ahead : Cursor → List Tok
ahead here = toks_at (seen here)

-- the place behind them
abbrev pub end : Cursor → Place
end here = end_at (seen here)

-- the first of a list, and the others
abbrev pub uncons : {A : Type 0} → List A → Option (A × List A)
uncons [] = None
uncons (a ∷ rest) = Some (a, rest)
