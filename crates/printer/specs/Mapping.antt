-- The lines of the mapping of inline assembly: which operand each placeholder of a template puts, template by template.
use Rattle.std.specs.Prelude.{ℕ, ◌+◌, List, [], ◌∷◌, ◌++◌, codes, Option, Some, None}
use Rattle.std.specs.Fmt.{decimal}
use Rattle.std.specs.List.{flat_map}
use Rattle.sym_core.specs.declared.text_range.TextRange.{TextRange}
use Rattle.hir_store.specs.declared.asm.AsmRow.{AsmRow}

-- a place: its span, and the operand; LF
abbrev pub place_text : TextRange × ℕ → List ℕ
place_text (range, operand) = decimal range.start ++ codes ".." ++ decimal range.end ++ codes " " ++ decimal operand ++ codes "\n"

-- the line of a place in a row, with the number of its call
abbrev pub map_line : ℕ → ℕ → TextRange × ℕ → List ℕ
map_line number row place = decimal number ++ codes " map " ++ decimal row ++ codes " " ++ place_text place

-- a line for each place in a row
abbrev pub row_lines : ℕ → ℕ → List (TextRange × ℕ) → List ℕ
row_lines number row places = flat_map (map_line number row) places

-- the lines of rows whose numbers rise by one from the first
abbrev pub row_lines_from : ℕ → ℕ → List AsmRow → List ℕ
row_lines_from number first [] = []
row_lines_from number first (row ∷ rows) = row_lines number first row.places ++ row_lines_from number (first + 1) rows

-- the lines of a mapping, its rows numbered from 0, where there is one
abbrev pub map_lines : ℕ → Option (List AsmRow) → List ℕ
map_lines number (Some rows) = row_lines_from number 0 rows
map_lines number None = []
