-- Predicates taken together are surely true exactly where each of them is.
use Rattle.std.proofs.Common.{◌≡◌, Bool, true, false, ◌&&◌, List, [], ◌∷◌, map, refl, ap, ◌∙◌, sym}
use Rattle.std.proofs.lemmas.Bool.{and_parts}
use Rattle.std.specs.List.{AllByRecursion}
use Rattle.ra_cfg.specs.declared.cfg_expr.CfgExpr.{CfgExpr, CfgExpr-F, All}
use Rattle.ra_cfg.specs.declared.cfg_expr.CfgExpr.TheVariants.{rolls-All}
use Rattle.ra_cfg.specs.Options.{OptionSet}
use Rattle.cfg_dnf.specs.Truth.{Free, within, beyond, all_true, truth, SurelyTrue}
use Rattle.cfg_dnf.specs.Joined.{joined, AreSurelyTrue, HintsOfAll}
use Rattle.cfg_dnf.proofs.Truths.{truth_rolled}
use Rattle.cfg_dnf.proofs.HintLaws.{hints_work, hints_are_complete}

-- the values in the next part, and those behind it, as one
abbrev both_free : Free → Free → Free
both_free next behind [] = false
both_free next behind (true ∷ at) = next at
both_free next behind (false ∷ at) = behind at

module _ (options : OptionSet) where
  -- all of the parts are true for all free values
  abbrev AllTrue : List CfgExpr → Type 0
  AllTrue cfgs = (free : Free) → all_true (map (truth options) cfgs) free ≡ true

  all_parts : (cfgs : List CfgExpr) → AllTrue cfgs → AreSurelyTrue options cfgs
  all_parts [] are = tt
  all_parts (cfg ∷ cfgs) are = (
    λ free. (and_parts (truth options cfg free) (all_true (map (truth options) cfgs) free) (are (both_free free free))).0,
    all_parts cfgs (λ free. (and_parts (truth options cfg free) (all_true (map (truth options) cfgs) free) (are (both_free free free))).1),
  )

  all_joined : (cfgs : List CfgExpr) → AreSurelyTrue options cfgs → AllTrue cfgs
  all_joined [] are free = refl
  all_joined (cfg ∷ cfgs) are free = ap (λ b. b && all_true (map (truth options) cfgs) (beyond free)) (are.0 (within free)) ∙ all_joined cfgs are.1 (beyond free)

  truth_all : (cfgs : List CfgExpr) → truth options (All cfgs) ≡ all_true (map (truth options) cfgs)
  truth_all cfgs = ap (truth options) (sym (rolls-All cfgs)) ∙ truth_rolled options (CfgExpr-F.All cfgs)

  from_all : (cfgs : List CfgExpr) → SurelyTrue options (All cfgs) → AreSurelyTrue options cfgs
  from_all cfgs are = all_parts cfgs (λ free. sym (ap (λ f. f free) (truth_all cfgs)) ∙ are free)

  to_all : (cfgs : List CfgExpr) → AreSurelyTrue options cfgs → SurelyTrue options (All cfgs)
  to_all cfgs are free = ap (λ f. f free) (truth_all cfgs) ∙ all_joined cfgs are free

  -- predicates taken together are surely true: so is each
  pub parted : (cfgs : List CfgExpr) → SurelyTrue options (joined cfgs) → AreSurelyTrue options cfgs
  parted [] are = tt
  parted (only ∷ []) are = (are, tt)
  parted (first ∷ second ∷ more) are = from_all (first ∷ second ∷ more) are

  -- and back
  pub rejoined : (cfgs : List CfgExpr) → AreSurelyTrue options cfgs → SurelyTrue options (joined cfgs)
  rejoined [] are = to_all [] tt
  rejoined (only ∷ []) are = are.0
  rejoined (first ∷ second ∷ more) are = to_all (first ∷ second ∷ more) are

-- the hints of predicates taken together, for each of them
pub hints_of_all : HintsOfAll
hints_of_all = record {
  work = λ options cfgs diff there. parted _ cfgs (hints_work.work options (joined cfgs) diff there);
  complete = λ options cfgs atoms settable other not_now sure.
      hints_are_complete.complete options (joined cfgs) atoms settable other (λ now. not_now (parted options cfgs now)) (rejoined _ cfgs sure);
}
