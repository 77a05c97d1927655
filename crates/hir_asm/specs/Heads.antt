-- The operands of a call as the code looks them up, and rows as the code fills them.
use Rattle.std.specs.Prelude.{◌≡◌, ℕ, ◌-◌, List, [], ◌∷◌, ◌++◌, map, length, Option}
use Rattle.std.specs.List.{repeat}
use Rattle.std.specs.HashMap.{get}
use Rattle.sym_core.specs.declared.name.Name.{Name}
use Rattle.syn_trees.specs.declared.format_call.Template.{Template}
use Rattle.hir_store.specs.declared.asm.AsmOperand.{AsmOperand}
use Rattle.hir_store.specs.declared.asm.AsmRow.{AsmRow}
use Rattle.hir_store.specs.Unfolding.{shape_of}
use Rattle.hir_fmt.specs.Firsts.{same_name}
use Rattle.hir_asm.specs.declared.mapping.Operands.{Operands}
use Rattle.hir_asm.specs.Mapping.{Head, Places, AreRows, up_to_last, last_from}

-- an operand as templates see it
abbrev pub head_of : Option Name × AsmOperand → Head
head_of operand = (operand.0, shape_of operand.1)

-- operands as templates see them
abbrev pub heads_of : List (Option Name × AsmOperand) → List Head
heads_of operands = map head_of operands

-- each name has the place of the last operand that bears it
abbrev pub HasLast : Operands → Type 0
HasLast operands = (name : Name) → get same_name operands.places name ≡ last_from 0 (heads_of operands.list.now) name

-- an empty row
abbrev pub empty_row : AsmRow
empty_row = record { places = [] }

-- rows with empty ones behind, so many in all
abbrev pub filled : List AsmRow → ℕ → List AsmRow
filled rows count = rows ++ repeat (count - length rows) (empty_row ∷ [])

-- the rows of some templates, up to the last, and the counter behind them
pub record MapsSoFar (heads : List Head) (reaches : Template → Option (List ℕ)) (templates : List Template) (rows : List AsmRow) (counter : ℕ) : Type 0 where
  pub seen : List (Option Places)
  pub are : AreRows heads reaches 0 templates seen counter
  pub is : rows ≡ up_to_last seen
