-- The form of a predicate lists its conjunctions.
use Rattle.std.proofs.Common.{◌≡◌, Bool, true, false, not, List, [], ◌∷◌, ◌++◌, map, refl, sym, ap, subst, ◌∙◌}
use Rattle.ra_cfg.specs.declared.cfg_expr.CfgExpr.{CfgExpr, CfgExpr-F, roll-CfgExpr}
use Rattle.ra_cfg.specs.declared.cfg_expr.CfgExpr.TheFolds.{fold-roll-CfgExpr, ind-CfgExpr, map-CfgExpr}
use Rattle.cfg_dnf.specs.declared.literal.Literal.{Literal}
use Rattle.cfg_dnf.specs.Conjunctions.{sum, product, times, conjunctions_step, conjunctions_if}
use Rattle.cfg_dnf.specs.Form.{Form, form, form_step, forms, listed, sum_listed, product_listed}

abbrev Agrees : CfgExpr → Type 0
Agrees e = (negated : Bool) → conjunctions_if e negated ≡ listed (form e negated)

-- a predicate of which it is known
abbrev Known : Type 0
Known = (e : CfgExpr) × Agrees e

abbrev plain : Known → CfgExpr
plain k = k.0

pub form_rolled : (x : CfgExpr-F CfgExpr) → form (roll-CfgExpr x) ≡ form_step (map-CfgExpr CfgExpr (Bool → Form Literal) form x)
unfolding form
form_rolled x = fold-roll-CfgExpr (Bool → Form Literal) form_step x

conjunctions_rolled : (x : CfgExpr-F CfgExpr) → conjunctions_if (roll-CfgExpr x) ≡ conjunctions_step (map-CfgExpr CfgExpr (Bool → List (List Literal)) conjunctions_if x)
conjunctions_rolled x = fold-roll-CfgExpr (Bool → List (List Literal)) conjunctions_step x

sums_agree : (negated : Bool) (ys : List Known) → sum negated (map conjunctions_if (map plain ys)) ≡ sum_listed (forms negated (map form (map plain ys)))
sums_agree negated [] = refl
sums_agree negated (y ∷ ys) = ap (λ r. r ++ sum negated (map conjunctions_if (map plain ys))) (y.1 negated) ∙ ap (λ r. listed (form y.0 negated) ++ r) (sums_agree negated ys)

products_agree : (negated : Bool) (ys : List Known) → product negated (map conjunctions_if (map plain ys)) ≡ product_listed (forms negated (map form (map plain ys)))
products_agree negated [] = refl
products_agree negated (y ∷ ys) = ap (λ r. times r (product negated (map conjunctions_if (map plain ys)))) (y.1 negated) ∙ ap (times (listed (form y.0 negated))) (products_agree negated ys)

layer : (y : CfgExpr-F Known) (negated : Bool) →
    conjunctions_step (map-CfgExpr CfgExpr (Bool → List (List Literal)) conjunctions_if (map-CfgExpr Known CfgExpr plain y)) negated
    ≡ listed (form_step (map-CfgExpr CfgExpr (Bool → Form Literal) form (map-CfgExpr Known CfgExpr plain y)) negated)
layer CfgExpr-F.Invalid negated = refl
layer (CfgExpr-F.Atom atom) negated = refl
layer (CfgExpr-F.All ys) false = products_agree false ys
layer (CfgExpr-F.All ys) true = sums_agree true ys
layer (CfgExpr-F.Any ys) false = sums_agree false ys
layer (CfgExpr-F.Any ys) true = products_agree true ys
layer (CfgExpr-F.Not y) negated = y.1 (not negated)
layer (CfgExpr-F.Version text) negated = refl

at_layer : (y : CfgExpr-F Known) → Agrees (roll-CfgExpr (map-CfgExpr Known CfgExpr plain y))
at_layer y negated =
    ap (λ c. c negated) (conjunctions_rolled (map-CfgExpr Known CfgExpr plain y)) ∙ layer y negated ∙ ap (λ f. listed (f negated)) (sym (form_rolled (map-CfgExpr Known CfgExpr plain y)))

-- the conjunctions of a predicate are those of its form
pub agrees : (e : CfgExpr) (negated : Bool) → conjunctions_if e negated ≡ listed (form e negated)
agrees = ind-CfgExpr Agrees (λ x y eq. subst (λ x. Agrees (roll-CfgExpr x)) eq (at_layer y))
