-- The scripts that are made, and not written by hand: for each number one script of a known shape.
use Rattle.std.specs.Prelude.{ℕ, ◌%◌, ◌==◌, if◌then◌else◌, min, List, ◌++◌, codes}
use Rattle.std.specs.Fmt.{decimal}
use Rattle.std.specs.List.{flat_map, range_with_len}

-- the most items that a made script has; the code has it as `MOST_ITEMS`
abbrev pub most_items : ℕ
most_items = 1000

-- the most names in its last line; the code has it as `MOST_NAMES`
abbrev pub most_names : ℕ
most_names = 60000

-- the greatest length of a script, in bytes
abbrev pub max_script_len : ℕ
max_script_len = 16777216

-- the numbers below this one, in order
abbrev pub numbers_below : ℕ → List ℕ
numbers_below count = range_with_len 0 count

-- a number as the last argument of a line, and the end of the line
abbrev pub last_argument : ℕ → List ℕ
last_argument i = codes " @" ++ decimal i ++ codes "\n"

-- a call whose text has one placeholder, and letters around it
abbrev pub plain_item : ℕ → List ℕ
plain_item i = codes "format \"p{}q\"" ++ last_argument i

-- a call behind a predicate of three parts, with options and two arguments
abbrev pub options_item : ℕ → List ℕ
options_item i = codes "cfg all(any(a, b), not(c))\nformat \"{0:>5}{0:x}{1:?}\" @" ++ decimal i ++ last_argument i

-- a call behind a predicate that is off, whose text has braces alone
abbrev pub braces_item : List ℕ
braces_item = codes "cfg any(b, all(c, d))\nformat \"{{}}\"\n"

-- a call of inline assembly with one operand, behind a predicate that is on
abbrev pub assembly_item : ℕ → List ℕ
assembly_item i = codes "cfg a\nasm \"{}\"; in reg" ++ last_argument i

-- the item of a number, by what is left of it modulo 4
abbrev pub item_text : ℕ → List ℕ
item_text i = if i % 4 == 0 then plain_item i else (if i % 4 == 1 then options_item i else (if i % 4 == 2 then braces_item else assembly_item i))

-- the items of the numbers below this one
abbrev pub items_text : ℕ → List ℕ
items_text count = flat_map item_text (numbers_below count)

-- a placeholder that captures a name: `n` and a number
abbrev pub name_text : ℕ → List ℕ
name_text i = codes "{n" ++ decimal i ++ codes "}"

-- the placeholders of the numbers below this one
abbrev pub names_text : ℕ → List ℕ
names_text count = flat_map name_text (numbers_below count)

-- a call whose text is so many placeholders
abbrev pub last_line : ℕ → List ℕ
last_line count = codes "format \"" ++ names_text count ++ codes "\"\n"

-- the script of a number: one option, items, and one call with many names
abbrev pub script_of : ℕ → List ℕ
script_of n = codes "opt a\n" ++ items_text (min n most_items) ++ last_line (min n most_names)
