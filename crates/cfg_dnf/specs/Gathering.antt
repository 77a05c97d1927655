-- What is taken in of literals.
use Rattle.std.specs.Prelude.{◌≡◌, ◌++◌, Bool, true, false, List, [], ◌∷◌, Result, Ok, Err}
use Rattle.std.specs.List.{list_any}
use Rattle.ra_cfg.specs.declared.cfg_expr.CfgAtom.{CfgAtom}
use Rattle.std.specs.FinSet as set
use Rattle.ra_cfg.specs.Options.{OptionSet, atom_cmp}
use Rattle.cfg_dnf.specs.declared.literal.Literal.{Literal}
use Rattle.cfg_dnf.specs.declared.counted.FalseAtoms.{FalseAtoms}
use Rattle.cfg_dnf.specs.Hints.{is_open, wants, wants_off}

-- the atoms of these literals that are false are taken in
pub record TakesIn (options : OptionSet) (literals : List Literal) (old new : FalseAtoms) : Type 0 where
  pub enabled : new.enabled.items ≡ old.enabled.items ++ wants_off options literals
  pub disabled : new.disabled.items ≡ old.disabled.items ++ wants options literals

-- none of these literals is open, and the atoms of those that are false are taken in
pub record GathersSo (options : OptionSet) (literals : List Literal) (old new : FalseAtoms) : Type 0 where
  pub closed : list_any (is_open options) literals ≡ false
  pub taken : TakesIn options literals old new

-- where the answer is yes none of these literals is open, and their atoms are taken in; where it is no one of them is open
abbrev pub GathersIf : OptionSet → List Literal → FalseAtoms → FalseAtoms → Bool → Type 0
GathersIf options literals old new true = GathersSo options literals old new
GathersIf options literals old new false = list_any (is_open options) literals ≡ true

-- the same of a result, of which nothing is said where it is an error
abbrev pub Gathers : {E : Type 0} → OptionSet → List Literal → Result Bool E → FalseAtoms → FalseAtoms → Type 0
Gathers options literals (Ok told) old new = GathersIf options literals old new told
Gathers options literals (Err e) old new = Unit {0}

-- a set with these atoms put in, one after the other
abbrev pub put_in : set.FinSet atom_cmp → List CfgAtom → set.FinSet atom_cmp
put_in atoms [] = atoms
put_in atoms (a ∷ rest) = put_in (set.insert atoms a) rest
