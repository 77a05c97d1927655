-- What holds of every predicate, its conjunctions, its hints and its reasons.
use Rattle.std.specs.Prelude.{◌≡◌, ◌↔◌, ◌≤◌, ℕ, true, false, ◌⊎◌, List, [], ◌∷◌, ◌++◌, length, map, Option, Some, None, is_some}
use Rattle.std.specs.List.{AllByRecursion}
use Rattle.std.specs.FinSet as set
use Rattle.ra_cfg.specs.declared.cfg_expr.CfgAtom.{CfgAtom}
use Rattle.ra_cfg.specs.declared.cfg_expr.CfgExpr.{CfgExpr}
use Rattle.ra_cfg.specs.Options.{OptionSet, IsSettable, atom_cmp}
use Rattle.ra_cfg.specs.Diff.{Diff, IsDiff, stands_in, with_diff}
use Rattle.ra_cfg.specs.Reading.{reads_under}
use Rattle.cfg_dnf.specs.Conjunctions.{conjunctions}
use Rattle.cfg_dnf.specs.Form.{form, paths, chosen, first, next, behind, size}
use Rattle.cfg_dnf.specs.Hints.{hints, reason}
use Rattle.cfg_dnf.specs.Reasons.{reason_by_leaves, all_answered}
use Rattle.cfg_dnf.specs.Truth.{SurelyTrue}

-- an element stands in a list
abbrev pub Stands : {A : Type 0} → A → List A → Type 0
Stands x [] = ⊥
Stands x (y ∷ ys) = (x ≡ y) ⊎ Stands x ys

-- the first of a list, if there is one
abbrev pub head : {A : Type 0} → List A → Option A
head [] = None
head (x ∷ xs) = Some x

-- The walk goes over the conjunctions in order: the first choices are those of the first conjunction, and the next ones those of
-- the next conjunction, so what lies behind is one less with each step.
pub record WalksInOrder : Type 0 where
  pub lists : (expr : CfgExpr) → map (chosen (form expr false)) (paths (form expr false)) ≡ conjunctions expr
  pub begins : (expr : CfgExpr) → first (form expr false) ≡ head (paths (form expr false))
  pub goes_on : (expr : CfgExpr) (before : List (List ℕ)) (choices : List ℕ) (after : List (List ℕ)) → paths (form expr false) ≡ before ++ choices ∷ after → next (form expr false) choices ≡ head after
  pub lessens : (expr : CfgExpr) (before : List (List ℕ)) (choices : List ℕ) (after : List (List ℕ)) → paths (form expr false) ≡ before ++ choices ∷ after → behind choices (paths (form expr false)) ≡ after
  pub bounded : (expr : CfgExpr) → AllByRecursion (λ choices. length choices ≤ size (form expr false)) (paths (form expr false))

-- each hint is a diff, and works: applied to the options it makes the predicate surely true
pub record HintsWork : Type 0 where
  pub are_diffs : (options : OptionSet) (expr : CfgExpr) (diff : Diff) → Stands diff (hints options expr) → IsDiff diff
  pub work : (options : OptionSet) (expr : CfgExpr) (diff : Diff) → Stands diff (hints options expr) → SurelyTrue (with_diff options diff) expr

-- the options with other atoms
abbrev pub with_atoms : OptionSet → set.FinSet atom_cmp → OptionSet
with_atoms options atoms = record { atoms = atoms; versions = options.versions }

-- atoms have all that a diff enables, and none that it disables
pub record HasChanges (atoms : set.FinSet atom_cmp) (diff : Diff) : Type 0 where
  pub enabled : (a : CfgAtom) → stands_in a diff.enabled ≡ true → set.contains atoms a ≡ true
  pub disabled : (a : CfgAtom) → stands_in a diff.disabled ≡ true → set.contains atoms a ≡ false

-- hints are complete: where a predicate is not surely true, each settable set under which it is has the changes of some hint
pub record HintsAreComplete : Type 0 where
  pub complete : (options : OptionSet) (expr : CfgExpr) (atoms : set.FinSet atom_cmp) → IsSettable options.atoms → IsSettable atoms → (SurelyTrue options expr → ⊥) → SurelyTrue (with_atoms options atoms) expr →
      (diff : Diff) × Stands diff (hints options expr) × HasChanges atoms diff

-- a reason is found by recursion over the predicate, and where all leaves have an answer there is one exactly where the predicate reads false
pub record ReasonsByLeaves : Type 0 where
  pub same : (options : OptionSet) (expr : CfgExpr) → reason options expr ≡ reason_by_leaves options (form expr false)
  pub reads_false : (options : OptionSet) (expr : CfgExpr) → all_answered options expr ≡ true → is_some (reason options expr) ≡ true ↔ (reads_under options expr ≡ Some false)
