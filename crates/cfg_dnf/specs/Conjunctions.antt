-- A predicate stands for a list of conjunctions, each a list of literals.
use Rattle.std.specs.Prelude.{Bool, true, false, not, List, [], ◌∷◌, ◌++◌, map}
use Rattle.std.specs.List.{flat_map}
use Rattle.ra_cfg.specs.declared.cfg_expr.CfgExpr.{CfgExpr, CfgExpr-F}
use Rattle.ra_cfg.specs.declared.cfg_expr.CfgExpr.TheFolds.{fold-CfgExpr}
use Rattle.cfg_dnf.specs.declared.literal.Leaf.{Leaf}
use Rattle.cfg_dnf.specs.declared.literal.Leaf.TheVariants.{Atom, Invalid, Version}
use Rattle.cfg_dnf.specs.declared.literal.Literal.{Literal}
use Rattle.cfg_dnf.specs.declared.literal.Literal.TheVariants.{Plain, Negated}

-- a leaf, negated or not
abbrev pub literal : Leaf → Bool → Literal
literal leaf false = Plain leaf
literal leaf true = Negated leaf

-- a leaf has one conjunction with one literal
abbrev pub of_leaf : Leaf → Bool → List (List Literal)
of_leaf leaf negated = (literal leaf negated ∷ []) ∷ []

-- every choice of a list from the first and one from the second, joined, where the choice from the first varies slowest
abbrev pub times : {A : Type 0} → List (List A) → List (List A) → List (List A)
times xs ys = flat_map (λ x. map (λ y. x ++ y) ys) xs

-- the conjunctions of one part behind those of another, of what each part has where it is negated or not
abbrev pub sum : Bool → List (Bool → List (List Literal)) → List (List Literal)
sum negated [] = []
sum negated (part ∷ parts) = part negated ++ sum negated parts

-- every choice of one conjunction for each part, joined
abbrev pub product : Bool → List (Bool → List (List Literal)) → List (List Literal)
product negated [] = [] ∷ []
product negated (part ∷ parts) = times (part negated) (product negated parts)

-- the conjunctions of a predicate, negated or not, of those of its parts
abbrev pub conjunctions_step : CfgExpr-F (Bool → List (List Literal)) → Bool → List (List Literal)
conjunctions_step CfgExpr-F.Invalid negated = of_leaf Invalid negated
conjunctions_step (CfgExpr-F.Atom atom) negated = of_leaf (Atom atom) negated
conjunctions_step (CfgExpr-F.All parts) false = product false parts
conjunctions_step (CfgExpr-F.All parts) true = sum true parts
conjunctions_step (CfgExpr-F.Any parts) false = sum false parts
conjunctions_step (CfgExpr-F.Any parts) true = product true parts
conjunctions_step (CfgExpr-F.Not part) negated = part (not negated)
conjunctions_step (CfgExpr-F.Version text) negated = of_leaf (Version text) negated

-- the conjunctions of a predicate, negated or not
abbrev pub conjunctions_if : CfgExpr → Bool → List (List Literal)
conjunctions_if = fold-CfgExpr (Bool → List (List Literal)) conjunctions_step

-- the conjunctions of a predicate
abbrev pub conjunctions : CfgExpr → List (List Literal)
conjunctions expr = conjunctions_if expr false
