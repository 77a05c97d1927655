-- The ranges that a piece holds: each is a part of the format text.
use Rattle.std.specs.Prelude.{ℕ, List, IfSome}
use Rattle.sym_core.specs.declared.text_range.TextRange.{TextRange}
use Rattle.text_cut.specs.Part.{IsPart}
use Rattle.fmt_parse.specs.declared.piece.Position.{Position}
use Rattle.fmt_parse.specs.declared.piece.Position.TheVariants as position
use Rattle.fmt_parse.specs.declared.piece.Count.{Count}
use Rattle.fmt_parse.specs.declared.piece.Count.TheVariants as count
use Rattle.fmt_parse.specs.declared.piece.Argument.{Argument}
use Rattle.fmt_parse.specs.declared.piece.Piece.{Piece}
use Rattle.fmt_parse.specs.declared.piece.Piece.TheVariants.{Lit, NextArgument}

-- P holds of the range of a name that a count is
abbrev pub OfCount : (TextRange → Type 0) → Count → Type 0
OfCount P (count.IsName r) = P r
OfCount P (count.Is n) = Unit {0}
OfCount P (count.IsParam n) = Unit {0}
OfCount P (count.IsStar n) = Unit {0}
OfCount P count.Implied = Unit {0}

-- P holds of the range of a name that a position is
abbrev pub OfPosition : (TextRange → Type 0) → Position → Type 0
OfPosition P (position.Named r) = P r
OfPosition P (position.Is n) = Unit {0}
OfPosition P (position.ImplicitlyIs n) = Unit {0}

-- P holds of every range of a placeholder
pub record OfArgument (P : TextRange → Type 0) (a : Argument) : Type 0 where
  pub whole : P a.span
  pub position : OfPosition P a.position
  pub position_span : P a.position_span
  pub width : OfCount P a.format.width
  pub width_span : IfSome a.format.width_span P
  pub precision : OfCount P a.format.precision
  pub precision_span : IfSome a.format.precision_span P
  pub ty : P a.format.ty

-- P holds of every range of a piece
abbrev pub OfEachRange : (TextRange → Type 0) → Piece → Type 0
OfEachRange P (Lit r) = P r
OfEachRange P (NextArgument a) = OfArgument P a

-- every range of the piece is a part of the text
abbrev pub RangesWithin : List ℕ → Piece → Type 0
RangesWithin text piece = OfEachRange (λ r. IsPart text r.start r.end) piece
