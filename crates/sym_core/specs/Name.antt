-- A name is written as its text, as the decimal number of a tuple field, or as `#` and a fresh number.
use Rattle.std.specs.Prelude.{ℕ, List, ◌++◌, Option, Some, None, codes}
use Rattle.std.specs.Fmt.{decimal}
use Rattle.sym_core.specs.declared.name.Name.{Name}
use Rattle.sym_core.specs.declared.name.Name.TheVariants.{Text, TupleField, Fresh}

-- what a name is written as
abbrev pub name_text : Name → List ℕ
name_text (Text symbol) = symbol
name_text (TupleField place) = decimal place
name_text (Fresh number) = codes "#" ++ decimal number

-- the symbol of a name that is written out, as its bytes
abbrev pub symbol_of : Name → Option (List ℕ)
symbol_of (Text symbol) = Some symbol
symbol_of (TupleField _) = None
symbol_of (Fresh _) = None
