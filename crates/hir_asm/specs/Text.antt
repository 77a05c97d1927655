-- The text of a template as the code holds it.
use Rattle.std.specs.Prelude.{ℕ, ◌+◌, ◌≤◌, List, Bool, length, Option, Some, None, IfSome, ⊤}
use Rattle.sym_core.specs.declared.text_range.TextRange.{TextRange}
use Rattle.text_cut.specs.Part.{IsPart}
use Rattle.syn_trees.specs.Literal.{HasNoValue}
use Rattle.fmt_parse.specs.declared.piece.Position.{Position}
use Rattle.fmt_parse.specs.declared.piece.Position.TheVariants as position
use Rattle.hir_fmt.specs.References.{Source}
use Rattle.hir_fmt.specs.Parsed.{HasShift}
use Rattle.hir_fmt.specs.Reading.{IsValue}
use Rattle.hir_asm.specs.declared.template.TemplateText.{TemplateText}

-- its text, and by how much its ranges are shifted
abbrev pub source_of : TemplateText → Source
source_of template = record { text = template.text; shift = template.shift }

-- the range is a part of the text
abbrev pub IsRangeOf : TemplateText → TextRange → Type 0
IsRangeOf template range = IsPart template.text range.start range.end

-- the name of a placeholder stands within the text, where it names its operand
abbrev pub IsPositionOf : TemplateText → Position → Type 0
IsPositionOf template (position.ImplicitlyIs number) = ⊤
IsPositionOf template (position.Is number) = ⊤
IsPositionOf template (position.Named range) = IsRangeOf template range

-- a range of the text has 32 bits where it is shifted too
abbrev pub HasSpans : TemplateText → Type 0
HasSpans template = IfSome template.shift (λ by. by + length template.text ≤ 4_294_967_295)

-- the text of a literal
pub record IsTemplate (token : List ℕ) (direct : Bool) (template : TemplateText) : Type 0 where
  pub value : IsValue token template.text
  pub shift : HasShift token direct template.shift
  pub spans : HasSpans template

-- what is read of a literal: its text, where it has a value
abbrev pub IsTemplateRead : List ℕ → Bool → Option TemplateText → Type 0
IsTemplateRead token direct None = HasNoValue token
IsTemplateRead token direct (Some template) = IsTemplate token direct template
