-- What a single leaf gives.
use Rattle.std.proofs.Common.{◌≡◌, ℕ, Bool, true, false, List, Some, None, refl, ap, ◌∙◌}
use Rattle.std.specs.FinMap as finite
use Rattle.ra_cfg.specs.declared.cfg_expr.CfgAtom.{CfgAtom}
use Rattle.ra_cfg.specs.declared.cfg_expr.CfgExpr.{Invalid, Atom, Version}
use Rattle.ra_cfg.specs.Options.{OptionSet}
use Rattle.ra_cfg.specs.Reading.{reads_true}
use Rattle.cfg_dnf.specs.declared.literal.Leaf.{Leaf}
use Rattle.cfg_dnf.specs.declared.literal.Leaf.TheVariants as leaf
use Rattle.cfg_dnf.specs.Conjunctions.{literal}
use Rattle.cfg_dnf.specs.Form.{form}
use Rattle.cfg_dnf.specs.Hints.{holds, leaf_answer, answer, answer_if, is_true}
use Rattle.cfg_dnf.specs.Leaves.{passes}
use Rattle.cfg_dnf.proofs.Equations.{form-Invalid, form-Atom, form-Version, form-All, form-not_all, form-Any, form-not_any, form-Not}

pub answer_of : (options : OptionSet) (l : Leaf) (negated : Bool) → answer options (literal l negated) ≡ answer_if (leaf_answer options l) negated
answer_of options l true = refl
answer_of options l false = refl

module _ (options : OptionSet) (negated : Bool) where
  pub passes-Invalid : passes (is_true options) (form Invalid negated) ≡ false
  passes-Invalid = ap (passes (is_true options)) (form-Invalid negated) ∙ ap reads_true (answer_of options leaf.Invalid negated) ∙ none negated
    where
      none : (negated : Bool) → reads_true (answer_if None negated) ≡ false
      none true = refl
      none false = refl

  pub passes-Atom : (atom : CfgAtom) → passes (is_true options) (form (Atom atom) negated) ≡ reads_true (answer_if (Some (holds options atom)) negated)
  passes-Atom atom = ap (passes (is_true options)) (form-Atom negated atom) ∙ ap reads_true (answer_of options (leaf.Atom atom) negated)

  pub passes-Version : (text : List ℕ) → passes (is_true options) (form (Version text) negated) ≡ reads_true (answer_if (finite.get options.versions text) negated)
  passes-Version text = ap (passes (is_true options)) (form-Version negated text) ∙ ap reads_true (answer_of options (leaf.Version text) negated)

pub ruleset passing_rules = (passes-Invalid, passes-Atom, passes-Version, form-All, form-not_all, form-Any, form-not_any, form-Not)
