-- The items of a script are read as the grammar says.
use Rattle.std.proofs.Common.{ℕ, refl}
use Rattle.text_cut.specs.Reading.{ReadsPieces, IgnoresRest}
use Rattle.script_tokens.specs.Items.{SkipsBlankLines, item_at}
use Rattle.script_tokens.proofs.Items as lines
use Rattle.script_grammar.specs.Items.{item_of}
use Rattle.script_grammar.specs.Script.{calls_in, IsItem}

-- the grammar takes nothing of a line without meaning
pub skips : (number : ℕ) → SkipsBlankLines (item_of number)
unfolding item_of
skips number = record { no_tokens = refl; comment = λ spaced spacing toks. refl }

-- the items of a script are found, and only they
pub items_read : ReadsPieces IsItem calls_in (λ number. item_at (item_of number))
items_read = lines.items_read calls_in item_of skips

-- an item is one whatever follows it
pub items_ignore_rest : IgnoresRest IsItem
items_ignore_rest = lines.items_ignore_rest calls_in item_of skips
