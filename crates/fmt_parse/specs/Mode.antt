-- The two kinds of texts that are read: what may stand behind an argument.
use Rattle.std.specs.Prelude.{ℕ, ◌≤◌, Option}
use Rattle.text_cut.specs.Place.{Place}
use Rattle.fmt_parse.specs.declared.options.Mode.{Mode}
use Rattle.fmt_parse.specs.declared.options.Mode.TheVariants.{Format, InlineAsm}
use Rattle.fmt_parse.specs.Spec.{SpecParts}
use Rattle.fmt_parse.specs.ReadSpec.{format_at}
use Rattle.fmt_parse.specs.ReadAsm.{modified_at}

-- the options that stand here
abbrev pub options_at : Mode → ℕ → Place → Option (SpecParts × Place)
options_at Format number = format_at number
options_at InlineAsm number = modified_at

-- the number of the next argument leaves room for one that a `*` takes, where the options may have a `*`
abbrev pub HasRoom : Mode → ℕ → Type 0
HasRoom Format number = number ≤ 4294967295
HasRoom InlineAsm number = Unit {0}
