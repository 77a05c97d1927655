-- The options that are set, written one behind the other.
use Rattle.std.specs.Prelude.{ℕ, Bool, true, false, List, ◌++◌, codes}
use Rattle.std.specs.List.{flat_map}
use Rattle.ra_cfg.specs.Text.{after_comma}
use Rattle.printer.specs.Assembly.{options_in_brackets}

-- what the words that are left make: whether the first word is among them
abbrev pub words_behind : Bool → List (List ℕ) → List ℕ
words_behind true words = options_in_brackets words
words_behind false words = flat_map after_comma words ++ codes ")"
