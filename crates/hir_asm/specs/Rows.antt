-- How rows grow, one template after the other.
use Rattle.std.specs.Prelude.{◌≡◌, ℕ, List, [], ◌∷◌, ◌++◌, length, Option}
use Rattle.syn_trees.specs.declared.format_call.Template.{Template}
use Rattle.hir_asm.specs.declared.mapping.Rows.{Rows}
use Rattle.hir_asm.specs.Mapping.{Head}
use Rattle.hir_asm.specs.Heads.{MapsSoFar}

-- where rows are those of as many templates as there are in front of this place, they are now those of one template more
abbrev pub AddsRow : List Head → (Template → Option (List ℕ)) → ℕ → Template → Rows → Rows → Type 0
AddsRow heads reaches place template old new = (templates : List Template) → length templates ≡ place → MapsSoFar heads reaches templates old.rows old.counter → MapsSoFar heads reaches (templates ++ template ∷ []) new.rows new.counter
