-- What the conjunctions and the form are at each kind of predicate.
use Rattle.std.proofs.Common.{◌≡◌, ℕ, Bool, true, false, not, List, [], ◌∷◌, map, refl, sym, ap, ◌∙◌}
use Rattle.ra_cfg.specs.declared.cfg_expr.CfgAtom.{CfgAtom}
use Rattle.ra_cfg.specs.declared.cfg_expr.CfgExpr.{CfgExpr, CfgExpr-F, Invalid, Atom, All, Any, Not, Version}
use Rattle.ra_cfg.specs.declared.cfg_expr.CfgExpr.TheVariants.{rolls-Invalid, rolls-Atom, rolls-All, rolls-Any, rolls-Not, rolls-Version}
use Rattle.ra_cfg.specs.declared.cfg_expr.CfgExpr.TheFolds.{fold-roll-CfgExpr}
use Rattle.cfg_dnf.specs.declared.literal.Leaf.TheVariants as leaf
use Rattle.cfg_dnf.specs.declared.literal.Literal.{Literal}
use Rattle.cfg_dnf.specs.Conjunctions.{literal, of_leaf, sum, product, conjunctions_step, conjunctions_if}
use Rattle.cfg_dnf.specs.Form.{Form, Lit, Sum, Product, More, form, form_step, forms, part_forms}

module _ (negated : Bool) where
  conjunctions-at : (e : CfgExpr) (x : CfgExpr-F (Bool → List (List Literal))) → conjunctions_if e ≡ conjunctions_step x → conjunctions_if e negated ≡ conjunctions_step x negated
  conjunctions-at e x is = ap (λ f. f negated) is

  pub conjunctions-Invalid : conjunctions_if Invalid negated ≡ of_leaf leaf.Invalid negated
  conjunctions-Invalid = conjunctions-at Invalid CfgExpr-F.Invalid (ap conjunctions_if (sym rolls-Invalid) ∙ fold-roll-CfgExpr (Bool → List (List Literal)) conjunctions_step CfgExpr-F.Invalid)

  pub conjunctions-Atom : (atom : CfgAtom) → conjunctions_if (Atom atom) negated ≡ of_leaf (leaf.Atom atom) negated
  conjunctions-Atom atom = conjunctions-at (Atom atom) (CfgExpr-F.Atom atom) (ap conjunctions_if (sym (rolls-Atom atom)) ∙ fold-roll-CfgExpr (Bool → List (List Literal)) conjunctions_step (CfgExpr-F.Atom atom))

  pub conjunctions-Not : (part : CfgExpr) → conjunctions_if (Not part) negated ≡ conjunctions_if part (not negated)
  conjunctions-Not part = conjunctions-at (Not part) (CfgExpr-F.Not (conjunctions_if part)) (ap conjunctions_if (sym (rolls-Not part)) ∙ fold-roll-CfgExpr (Bool → List (List Literal)) conjunctions_step (CfgExpr-F.Not part))

  pub conjunctions-Version : (text : List ℕ) → conjunctions_if (Version text) negated ≡ of_leaf (leaf.Version text) negated
  conjunctions-Version text = conjunctions-at (Version text) (CfgExpr-F.Version text) (ap conjunctions_if (sym (rolls-Version text)) ∙ fold-roll-CfgExpr (Bool → List (List Literal)) conjunctions_step (CfgExpr-F.Version text))

  all_at : (parts : List CfgExpr) → conjunctions_if (All parts) negated ≡ conjunctions_step (CfgExpr-F.All (map conjunctions_if parts)) negated
  all_at parts = conjunctions-at (All parts) (CfgExpr-F.All (map conjunctions_if parts)) (ap conjunctions_if (sym (rolls-All parts)) ∙ fold-roll-CfgExpr (Bool → List (List Literal)) conjunctions_step (CfgExpr-F.All parts))

  any_at : (parts : List CfgExpr) → conjunctions_if (Any parts) negated ≡ conjunctions_step (CfgExpr-F.Any (map conjunctions_if parts)) negated
  any_at parts = conjunctions-at (Any parts) (CfgExpr-F.Any (map conjunctions_if parts)) (ap conjunctions_if (sym (rolls-Any parts)) ∙ fold-roll-CfgExpr (Bool → List (List Literal)) conjunctions_step (CfgExpr-F.Any parts))

pub conjunctions-All : (parts : List CfgExpr) → conjunctions_if (All parts) false ≡ product false (map conjunctions_if parts)
conjunctions-All parts = all_at false parts

pub conjunctions-not_all : (parts : List CfgExpr) → conjunctions_if (All parts) true ≡ sum true (map conjunctions_if parts)
conjunctions-not_all parts = all_at true parts

pub conjunctions-Any : (parts : List CfgExpr) → conjunctions_if (Any parts) false ≡ sum false (map conjunctions_if parts)
conjunctions-Any parts = any_at false parts

pub conjunctions-not_any : (parts : List CfgExpr) → conjunctions_if (Any parts) true ≡ product true (map conjunctions_if parts)
conjunctions-not_any parts = any_at true parts

pub ruleset conjunction_rules = (conjunctions-Invalid, conjunctions-Atom, conjunctions-All, conjunctions-not_all, conjunctions-Any, conjunctions-not_any, conjunctions-Not, conjunctions-Version)

module _ (negated : Bool) where
  pub form-Invalid : form Invalid negated ≡ Lit (literal leaf.Invalid negated)
  unfolding form
  form-Invalid = ap (λ f. f negated) (ap form (sym rolls-Invalid) ∙ fold-roll-CfgExpr (Bool → Form Literal) form_step CfgExpr-F.Invalid)

  pub form-Atom : (atom : CfgAtom) → form (Atom atom) negated ≡ Lit (literal (leaf.Atom atom) negated)
  unfolding form
  form-Atom atom = ap (λ f. f negated) (ap form (sym (rolls-Atom atom)) ∙ fold-roll-CfgExpr (Bool → Form Literal) form_step (CfgExpr-F.Atom atom))

  pub form-Not : (part : CfgExpr) → form (Not part) negated ≡ form part (not negated)
  unfolding form
  form-Not part = ap (λ f. f negated) (ap form (sym (rolls-Not part)) ∙ fold-roll-CfgExpr (Bool → Form Literal) form_step (CfgExpr-F.Not part))

  pub form-Version : (text : List ℕ) → form (Version text) negated ≡ Lit (literal (leaf.Version text) negated)
  unfolding form
  form-Version text = ap (λ f. f negated) (ap form (sym (rolls-Version text)) ∙ fold-roll-CfgExpr (Bool → Form Literal) form_step (CfgExpr-F.Version text))

  form_all_at : (parts : List CfgExpr) → form (All parts) negated ≡ form_step (CfgExpr-F.All (map form parts)) negated
  unfolding form
  form_all_at parts = ap (λ f. f negated) (ap form (sym (rolls-All parts)) ∙ fold-roll-CfgExpr (Bool → Form Literal) form_step (CfgExpr-F.All parts))

  form_any_at : (parts : List CfgExpr) → form (Any parts) negated ≡ form_step (CfgExpr-F.Any (map form parts)) negated
  unfolding form
  form_any_at parts = ap (λ f. f negated) (ap form (sym (rolls-Any parts)) ∙ fold-roll-CfgExpr (Bool → Form Literal) form_step (CfgExpr-F.Any parts))

parts_in_turn : (negated : Bool) (parts : List CfgExpr) → forms negated (map form parts) ≡ part_forms negated parts
parts_in_turn negated [] = refl
parts_in_turn negated (part ∷ parts) = ap (More (form part negated)) (parts_in_turn negated parts)

pub form-All : (parts : List CfgExpr) → form (All parts) false ≡ Product (part_forms false parts)
form-All parts = form_all_at false parts ∙ ap Product (parts_in_turn false parts)

pub form-not_all : (parts : List CfgExpr) → form (All parts) true ≡ Sum (part_forms true parts)
form-not_all parts = form_all_at true parts ∙ ap Sum (parts_in_turn true parts)

pub form-Any : (parts : List CfgExpr) → form (Any parts) false ≡ Sum (part_forms false parts)
form-Any parts = form_any_at false parts ∙ ap Sum (parts_in_turn false parts)

pub form-not_any : (parts : List CfgExpr) → form (Any parts) true ≡ Product (part_forms true parts)
form-not_any parts = form_any_at true parts ∙ ap Product (parts_in_turn true parts)

pub ruleset form_rules = (form-Invalid, form-Atom, form-All, form-not_all, form-Any, form-not_any, form-Not, form-Version)
