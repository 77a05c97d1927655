-- Only a tuple of one has a comma behind its element.
use Rattle.std.proofs.Common.{◌≡◌, List, [], ◌∷◌, length, refl, arith, append_assoc}
use Rattle.hir_store.specs.declared.ids.ExprId.{ExprId}
use Rattle.hir_store.specs.Tree.{Tree}
use Rattle.hir_store.specs.Unfolding.{trees_of}
use Rattle.printer.specs.Printed.{single_comma}

pub comma_of_one : (tree_of : ExprId → Tree) (ids : List ExprId) → length ids ≡ 1 → single_comma (trees_of tree_of ids) ≡ 44 ∷ []
comma_of_one tree_of [] one = absurd (omega arith)
comma_of_one tree_of (id ∷ []) one = refl
comma_of_one tree_of (id ∷ other ∷ ids) one = absurd (omega arith)

pub comma_of_others : (tree_of : ExprId → Tree) (ids : List ExprId) → (length ids ≡ 1 → ⊥) → single_comma (trees_of tree_of ids) ≡ []
comma_of_others tree_of [] other = refl
comma_of_others tree_of (id ∷ []) other = absurd (other refl)
comma_of_others tree_of (id ∷ second ∷ ids) other = refl

pub ruleset commas = (comma_of_one, comma_of_others, append_assoc)
