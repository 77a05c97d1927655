-- What is said of a format text that is read.
use Rattle.std.specs.Prelude.{◌≡◌, ℕ, List}
use Rattle.fmt_parse.specs.declared.piece.FormatSpec.{FormatSpec}
use Rattle.fmt_parse.specs.declared.piece.Piece.{Piece}
use Rattle.fmt_parse.specs.declared.piece.Piece.TheVariants.{Lit, NextArgument}
use Rattle.fmt_parse.specs.declared.format.FormatError.{FormatError}
use Rattle.fmt_parse.specs.declared.format.FormatError.TheVariants.{Syntax, Memory}
use Rattle.fmt_parse.specs.Spec.{SpecParts}
use Rattle.fmt_parse.specs.Pieces.{stars, StopsAt}

-- the parts of what stands behind a colon
abbrev pub parts_of : FormatSpec → SpecParts
parts_of s = ((s.fill, s.align), (s.sign, (s.alternate, (s.zero_pad, ((s.width, s.width_span), ((s.precision, s.precision_span), (s.debug_hex, s.ty)))))))

-- the width of a placeholder takes no argument by its turn: it is no `*`
abbrev pub HasPlainWidth : Piece → Type 0
HasPlainWidth (Lit r) = Unit {0}
HasPlainWidth (NextArgument a) = stars a.format.width ≡ 0

-- what a failure says of the text
abbrev pub IsFault : List ℕ → FormatError → Type 0
IsFault text (Syntax at) = StopsAt text at
IsFault text (Memory e) = Unit {0}
