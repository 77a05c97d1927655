-- The pieces of a format text (std::fmt, sections "Syntax" and "Escaping"), and of any text that differs from it in what stands behind an argument.
use Rattle.std.specs.Prelude.{◌≡◌, ◌+◌, ◌⊎◌, ℕ, Bool, true, false, ◌||◌, not, List, [], ◌∷◌, ◌++◌, Option, Some, None}
use Rattle.std.specs.Str.{chars}
use Rattle.std.specs.Char.{is_ascii_digit, is_whitespace}
use Rattle.sym_core.specs.declared.text_range.TextRange.{TextRange}
use Rattle.text_cut.specs.Runs.{starts, size, IsLongest}
use Rattle.text_cut.specs.Rules.{Both}
use Rattle.text_cut.specs.Reading.{Spelled, texts, items, IsRead, FaultAt}
use Rattle.fmt_parse.specs.declared.piece.Position.{Position}
use Rattle.fmt_parse.specs.declared.piece.Position.TheVariants as position
use Rattle.fmt_parse.specs.declared.piece.Count.{Count}
use Rattle.fmt_parse.specs.declared.piece.Count.TheVariants as count
use Rattle.fmt_parse.specs.declared.piece.Argument.{Argument}
use Rattle.fmt_parse.specs.declared.piece.Piece.{Piece}
use Rattle.fmt_parse.specs.declared.piece.Piece.TheVariants.{Lit, NextArgument}
use Rattle.fmt_parse.specs.Tokens.{range, IsInt, IsName, starts_name, is_open, is_close}
use Rattle.fmt_parse.specs.Spec.{SpecParts, spec_of, IsFormat}

-- how many arguments a piece takes from those that have no number: one for `*`, and one for a placeholder that names none
abbrev pub stars : Count → ℕ
stars (count.IsStar n) = 1
stars (count.Is n) = 0
stars (count.IsName r) = 0
stars (count.IsParam n) = 0
stars count.Implied = 0

abbrev pub implicit : Position → ℕ
implicit (position.ImplicitlyIs n) = 1
implicit (position.Is n) = 0
implicit (position.Named r) = 0

abbrev pub takes : Piece → ℕ
takes (Lit r) = 0
takes (NextArgument a) = stars a.format.precision + implicit a.position

abbrev pub taken : List Piece → ℕ
taken [] = 0
taken (piece ∷ pieces) = takes piece + taken pieces

-- ARG: INT, NAME, or none
abbrev pub Written : Type 0
Written = Option Position × TextRange

pub record IsNoArg (at : ℕ) (text : List ℕ) (v : Written) (rest : List ℕ) : Type 0 where
  pub empty : text ≡ []
  pub no_digit : starts is_ascii_digit rest ≡ false
  pub no_name : starts_name rest ≡ false
  pub value : v ≡ (None, range at [])

pub record IsNumberArg (at : ℕ) (text : List ℕ) (v : Written) (rest : List ℕ) : Type 0 where
  pub number : ℕ
  pub int : IsInt at text number rest
  pub value : v ≡ (Some (position.Is number), range at text)

pub record IsNameArg (at : ℕ) (text : List ℕ) (v : Written) (rest : List ℕ) : Type 0 where
  pub no_digit : starts is_ascii_digit text ≡ false
  pub name : IsName text rest
  pub value : v ≡ (Some (position.Named (range at text)), range at text)

abbrev pub IsArg : ℕ → List ℕ → Written → List ℕ → Type 0
IsArg at text v rest = IsNoArg at text v rest ⊎ (IsNumberArg at text v rest ⊎ IsNameArg at text v rest)

-- which argument is put: the one that is written, or the next
abbrev pub filled : Option Position → ℕ → Position
filled None n = position.ImplicitlyIs n
filled (Some p) n = p

-- white space and the closing brace
pub record IsEnd (at : ℕ) (text : List ℕ) (v : Unit {0}) (rest : List ℕ) : Type 0 where
  pub blanks : List ℕ
  pub whole : text ≡ blanks ++ 125 ∷ []
  pub longest : IsLongest is_whitespace blanks (125 ∷ rest)

-- what stands behind the opening brace of a placeholder, where this rule says what its options are
abbrev pub Inner : Type 0
Inner = Written × (SpecParts × Unit {0})

abbrev pub IsInner : (ℕ → List ℕ → SpecParts → List ℕ → Type 0) → ℕ → List ℕ → Inner → List ℕ → Type 0
IsInner options = Both IsArg (Both options IsEnd)

-- the placeholder of these parts, between these braces; a `*` takes its argument before the value
abbrev pub placeholder : ℕ → TextRange → Inner → Argument
placeholder number span v = record {
  position = filled v.0.0 (number + stars (spec_of v.1.0).precision);
  position_span = v.0.1;
  span = span;
  format = spec_of v.1.0;
}

-- a placeholder: an opening brace that no second one follows, and what stands behind it; its options are those of the rule
pub record IsPlaceholder (options : ℕ → List ℕ → SpecParts → List ℕ → Type 0) (number at : ℕ) (text : List ℕ) (piece : Piece) (rest : List ℕ) : Type 0 where
  pub inner : List ℕ
  pub parts : Inner
  pub whole : text ≡ 123 ∷ inner
  pub single : starts is_open (inner ++ rest) ≡ false
  pub is : IsInner options (at + 1) inner parts rest
  pub value : piece ≡ NextArgument (placeholder number (range at text) parts)

-- a character other than a brace
abbrev pub is_plain : ℕ → Bool
is_plain c = not (is_open c || is_close c)

-- a literal: such characters, as many as follow
pub record IsPlainText (at : ℕ) (text : List ℕ) (piece : Piece) (rest : List ℕ) : Type 0 where
  pub some : starts is_plain text ≡ true
  pub longest : IsLongest is_plain text rest
  pub value : piece ≡ Lit (range at text)

-- a doubled brace, which stands for one brace; the range is that of the first
pub record IsDoubled (brace at : ℕ) (text : List ℕ) (piece : Piece) : Type 0 where
  pub is : text ≡ brace ∷ brace ∷ []
  pub value : piece ≡ Lit (range at (brace ∷ []))

-- a piece, where the options of placeholders are those of the rule, and the next argument has this number
abbrev pub IsAnyPiece : (ℕ → List ℕ → SpecParts → List ℕ → Type 0) → ℕ → ℕ → List ℕ → Piece → List ℕ → Type 0
IsAnyPiece options number at text piece rest = IsPlainText at text piece rest ⊎ (IsDoubled 123 at text piece ⊎ (IsDoubled 125 at text piece ⊎ IsPlaceholder options number at text piece rest))

-- the spellings of a piece behind these
abbrev pub IsPiece : List (Spelled Piece) → List ℕ → Piece → List ℕ → Type 0
IsPiece front text piece rest = IsAnyPiece (IsFormat (taken (items front))) (taken (items front)) (size (texts front)) text piece rest

-- the bytes of a text are these pieces
abbrev pub ArePieces : List ℕ → List Piece → Type 0
ArePieces text pieces = IsRead IsPiece (chars text) pieces

-- the bytes of a text are no pieces, and this offset is the furthest that pieces from its front reach
abbrev pub StopsAt : List ℕ → ℕ → Type 0
StopsAt text at = FaultAt IsPiece (chars text) at
