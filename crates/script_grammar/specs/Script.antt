-- The items of a script, by the grammar on tokens: a call has the number of the calls in front of it.
use Rattle.std.specs.Prelude.{ℕ, zero, suc, List, [], ◌∷◌, Option, Some}
use Rattle.text_cut.specs.Reading.{Spelled}
use Rattle.script_grammar.specs.declared.item.Item.{Item}
use Rattle.script_grammar.specs.declared.item.Item.TheVariants.{Format, Asm}
use Rattle.script_tokens.specs.Items as lines
use Rattle.script_grammar.specs.Items.{item_of}

-- whether a line is a call, added to the calls behind it
abbrev pub counted : Option Item → ℕ → ℕ
counted (Some (Format call)) more = suc more
counted (Some (Asm call)) more = suc more
counted other more = more

-- how many of the lines are calls
abbrev pub calls_in : List (Spelled (Option Item)) → ℕ
calls_in [] = zero
calls_in (s ∷ ss) = counted s.item (calls_in ss)

-- the spellings of a line of a script: of an item, or of a line without meaning
abbrev pub IsItem : List (Spelled (Option Item)) → List ℕ → Option Item → List ℕ → Type 0
IsItem front text item rest = lines.IsItem calls_in item_of front text item rest
