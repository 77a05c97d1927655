-- A format text as the code holds it.
use Rattle.std.specs.Prelude.{◌+◌, ◌≤◌, length, IfSome}
use Rattle.sym_core.specs.declared.text_range.TextRange.{TextRange}
use Rattle.text_cut.specs.Part.{IsPart}
use Rattle.hir_fmt.specs.declared.literal.Literal.{Literal}
use Rattle.hir_fmt.specs.References.{Source}

-- its text, and by how much its ranges are shifted
abbrev pub source_of : Literal → Source
source_of literal = record { text = literal.text.now; shift = literal.shift }

-- the range is a part of the text
abbrev pub IsRangeOf : Literal → TextRange → Type 0
IsRangeOf literal r = IsPart literal.text.now r.start r.end

-- a range of the text has 32 bits where it is shifted too
abbrev pub HasSpans : Literal → Type 0
HasSpans literal = IfSome literal.shift (λ by. by + length literal.text.now ≤ 4_294_967_295)
