-- Lines of a script: tokens up to a line feed, or nothing but blanks and a comment.
use Rattle.std.specs.Prelude.{◌≡◌, ℕ, ◌==◌, if◌then◌else◌, List, [], ◌∷◌, ◌++◌, Option, None}
use Rattle.text_cut.specs.Runs.{starts, is_blank, AllPass}
use Rattle.text_cut.specs.Place.{Place, past}
use Rattle.text_cut.specs.Rules.{past_word}
use Rattle.text_cut.specs.Reading.{Spelled, texts, items, AreSpelled}
use Rattle.script_tokens.specs.Words.{is_in_line, IsComment}
use Rattle.script_tokens.specs.Tokens.{Tok, IsTok}

-- the text is these tokens, blanks, and a line feed
pub record IsLine (text : List ℕ) (toks : List Tok) : Type 0 where
  pub spelled : List (Spelled Tok)
  pub after : List ℕ
  pub whole : text ≡ texts spelled ++ (after ++ 10 ∷ [])
  pub are_blanks : AllPass is_blank after
  pub are : AreSpelled IsTok [] spelled (after ++ 10 ∷ [])
  pub values : toks ≡ items spelled

-- the text is blanks (spaces, TABs and CRs), nothing or a comment, and a line feed
pub record IsBlankLine (text : List ℕ) : Type 0 where
  pub blanks : List ℕ
  pub comment : List ℕ
  pub whole : text ≡ blanks ++ (comment ++ 10 ∷ [])
  pub are_blanks : AllPass is_blank blanks
  pub is : IsComment comment

-- the text begins with the end of a line: blanks and a line feed
pub record BeginsLineEnd (rest : List ℕ) : Type 0 where
  pub blanks : List ℕ
  pub more : List ℕ
  pub are_blanks : AllPass is_blank blanks
  pub whole : rest ≡ blanks ++ 10 ∷ more

-- the place behind a line feed
abbrev pub past_feed : Place → Option Place
past_feed p = past_word (10 ∷ []) p

-- the place behind blanks and a line feed
abbrev pub past_line : Place → Option Place
past_line p = past_feed (past is_blank p)

-- the place behind a comment, or where there is none, the place itself
abbrev pub past_comment : Place → Place
past_comment p = if starts (λ c. c == 35) p.left then past is_in_line p else p

-- the place behind a line without meaning
abbrev pub past_blank_line : Place → Option Place
past_blank_line p = past_feed (past_comment (past is_blank p))

-- the place behind a line of which these tokens are left, and whose tokens end there
abbrev pub line_ended : List Tok → Place → Option Place
line_ended [] end = past_line end
line_ended (tok ∷ toks) end = None
