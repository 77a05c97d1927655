-- Several predicates as one, and what its hints do to each of them.
use Rattle.std.specs.Prelude.{◌≡◌, List, [], ◌∷◌}
use Rattle.std.specs.List.{AllByRecursion}
use Rattle.std.specs.FinSet as set
use Rattle.ra_cfg.specs.declared.cfg_expr.CfgExpr.{CfgExpr, All}
use Rattle.ra_cfg.specs.Options.{OptionSet, IsSettable, atom_cmp}
use Rattle.ra_cfg.specs.Diff.{Diff, with_diff}
use Rattle.cfg_dnf.specs.Hints.{hints}
use Rattle.cfg_dnf.specs.Truth.{SurelyTrue}
use Rattle.cfg_dnf.specs.Laws.{Stands, with_atoms, HasChanges}

-- the predicate that all of these are: the only one, or all of them in order
abbrev pub joined : List CfgExpr → CfgExpr
joined [] = All []
joined (only ∷ []) = only
joined (first ∷ second ∷ more) = All (first ∷ second ∷ more)

-- each of these predicates is surely true
abbrev pub AreSurelyTrue : OptionSet → List CfgExpr → Type 0
AreSurelyTrue options cfgs = AllByRecursion (SurelyTrue options) cfgs

-- each hint of predicates taken together makes every one of them surely true; and where they are not surely true, each settable set under
-- which they all are has the changes of some hint
pub record HintsOfAll : Type 0 where
  pub work : (options : OptionSet) (cfgs : List CfgExpr) (diff : Diff) → Stands diff (hints options (joined cfgs)) → AreSurelyTrue (with_diff options diff) cfgs
  pub complete : (options : OptionSet) (cfgs : List CfgExpr) (atoms : set.FinSet atom_cmp) → IsSettable options.atoms → IsSettable atoms → (AreSurelyTrue options cfgs → ⊥) → AreSurelyTrue (with_atoms options atoms) cfgs →
      (diff : Diff) × Stands diff (hints options (joined cfgs)) × HasChanges atoms diff
