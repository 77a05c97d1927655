-- A predicate is surely true exactly where one of its conjunctions holds true literals alone.
use Rattle.std.proofs.Common.{◌≡◌, Bool, true, false, not, ◌&&◌, ◌||◌, List, [], ◌∷◌, map, Option, Some, None, refl, sym, ap, subst, ◌∙◌}
use Rattle.std.specs.Option.{option_map, unwrap_or}
use Rattle.std.specs.List.{list_any, list_all}
use Rattle.ra_cfg.specs.declared.cfg_expr.CfgExpr.{CfgExpr, CfgExpr-F, roll-CfgExpr}
use Rattle.ra_cfg.specs.declared.cfg_expr.CfgExpr.TheFolds.{fold-roll-CfgExpr, ind-CfgExpr, map-CfgExpr}
use Rattle.ra_cfg.specs.Options.{OptionSet}
use Rattle.ra_cfg.specs.Reading.{reads_true}
use Rattle.cfg_dnf.specs.declared.literal.Leaf.{Leaf}
use Rattle.cfg_dnf.specs.declared.literal.Leaf.TheVariants.{Atom, Invalid, Version}
use Rattle.cfg_dnf.specs.declared.literal.Literal.{Literal}
use Rattle.cfg_dnf.specs.declared.literal.Literal.TheVariants.{Plain, Negated}
use Rattle.cfg_dnf.specs.Conjunctions.{literal, conjunctions}
use Rattle.cfg_dnf.specs.Form.{Form, Lit, Sum, Product, Forms, End, More, form, form_step, forms}
use Rattle.cfg_dnf.specs.Hints.{leaf_answer, is_true}
use Rattle.cfg_dnf.specs.Leaves.{passes, some_passes, all_pass}
use Rattle.cfg_dnf.specs.Truth.{Free, within, beyond, all_true, any_true, truth_step, truth, SurelyTrue}
use Rattle.cfg_dnf.proofs.Agreement.{agrees, form_rolled}
use Rattle.cfg_dnf.proofs.Leaves.{passed}

-- the value of a literal
abbrev pub value : OptionSet → Literal → Bool → Bool
value options (Plain leaf) free = unwrap_or (leaf_answer options leaf) free
value options (Negated leaf) free = not (unwrap_or (leaf_answer options leaf) free)

-- the value of a form
abbrev mutual
  pub form_value : OptionSet → Form Literal → Free → Bool
  form_value options (Lit l) free = value options l (free [])
  form_value options (Sum fs) free = some_value options fs free
  form_value options (Product fs) free = every_value options fs free

  pub some_value : OptionSet → Forms Literal → Free → Bool
  some_value options End free = false
  some_value options (More f fs) free = form_value options f (within free) || some_value options fs (beyond free)

  pub every_value : OptionSet → Forms Literal → Free → Bool
  every_value options End free = true
  every_value options (More f fs) free = form_value options f (within free) && every_value options fs (beyond free)

abbrev pub turned : Bool → Bool → Bool
turned false b = b
turned true b = not b

not_all : (a b : Bool) → (not a || not b) ≡ not (a && b)
not_all true b = refl
not_all false b = refl

not_any : (a b : Bool) → (not a && not b) ≡ not (a || b)
not_any true b = refl
not_any false b = refl

turned_not : (negated b : Bool) → turned (not negated) b ≡ turned negated (not b)
turned_not true true = refl
turned_not true false = refl
turned_not false b = refl

of_literal : (options : OptionSet) (leaf : Leaf) (negated free : Bool) → value options (literal leaf negated) free ≡ turned negated (unwrap_or (leaf_answer options leaf) free)
of_literal options leaf true free = refl
of_literal options leaf false free = refl

module _ (options : OptionSet) where
  abbrev Agrees : CfgExpr → Type 0
  Agrees e = (negated : Bool) (free : Free) → form_value options (form e negated) free ≡ turned negated (truth options e free)

  -- a predicate of which it is known
  abbrev Known : Type 0
  Known = (e : CfgExpr) × Agrees e

  abbrev plain : Known → CfgExpr
  plain k = k.0

  pub truth_rolled : (x : CfgExpr-F CfgExpr) → truth options (roll-CfgExpr x) ≡ truth_step options (map-CfgExpr CfgExpr (Free → Bool) (truth options) x)
  truth_rolled x = fold-roll-CfgExpr (Free → Bool) (truth_step options) x

  every_all : (ys : List Known) (free : Free) → every_value options (forms false (map form (map plain ys))) free ≡ all_true (map (truth options) (map plain ys)) free
  every_all [] free = refl
  every_all (y ∷ ys) free = ap (λ r. r && every_value options (forms false (map form (map plain ys))) (beyond free)) (y.1 false (within free)) ∙ ap (λ r. truth options y.0 (within free) && r) (every_all ys (beyond free))

  some_any : (ys : List Known) (free : Free) → some_value options (forms false (map form (map plain ys))) free ≡ any_true (map (truth options) (map plain ys)) free
  some_any [] free = refl
  some_any (y ∷ ys) free = ap (λ r. r || some_value options (forms false (map form (map plain ys))) (beyond free)) (y.1 false (within free)) ∙ ap (λ r. truth options y.0 (within free) || r) (some_any ys (beyond free))

  some_not : (ys : List Known) (free : Free) → some_value options (forms true (map form (map plain ys))) free ≡ not (all_true (map (truth options) (map plain ys)) free)
  some_not [] free = refl
  some_not (y ∷ ys) free =
      ap (λ r. r || some_value options (forms true (map form (map plain ys))) (beyond free)) (y.1 true (within free))
      ∙ ap (λ r. not (truth options y.0 (within free)) || r) (some_not ys (beyond free))
      ∙ not_all (truth options y.0 (within free)) (all_true (map (truth options) (map plain ys)) (beyond free))

  every_not : (ys : List Known) (free : Free) → every_value options (forms true (map form (map plain ys))) free ≡ not (any_true (map (truth options) (map plain ys)) free)
  every_not [] free = refl
  every_not (y ∷ ys) free =
      ap (λ r. r && every_value options (forms true (map form (map plain ys))) (beyond free)) (y.1 true (within free))
      ∙ ap (λ r. not (truth options y.0 (within free)) && r) (every_not ys (beyond free))
      ∙ not_any (truth options y.0 (within free)) (any_true (map (truth options) (map plain ys)) (beyond free))

  layer : (y : CfgExpr-F Known) (negated : Bool) (free : Free) →
      form_value options (form_step (map-CfgExpr CfgExpr (Bool → Form Literal) form (map-CfgExpr Known CfgExpr plain y)) negated) free
      ≡ turned negated (truth_step options (map-CfgExpr CfgExpr (Free → Bool) (truth options) (map-CfgExpr Known CfgExpr plain y)) free)
  layer CfgExpr-F.Invalid negated free = of_literal options Invalid negated (free [])
  layer (CfgExpr-F.Atom atom) negated free = of_literal options (Atom atom) negated (free [])
  layer (CfgExpr-F.All ys) false free = every_all ys free
  layer (CfgExpr-F.All ys) true free = some_not ys free
  layer (CfgExpr-F.Any ys) false free = some_any ys free
  layer (CfgExpr-F.Any ys) true free = every_not ys free
  layer (CfgExpr-F.Not y) negated free = y.1 (not negated) free ∙ turned_not negated (truth options y.0 free)
  layer (CfgExpr-F.Version text) negated free = of_literal options (Version text) negated (free [])

  at_layer : (y : CfgExpr-F Known) → Agrees (roll-CfgExpr (map-CfgExpr Known CfgExpr plain y))
  at_layer y negated free =
      ap (λ f. form_value options (f negated) free) (form_rolled (map-CfgExpr Known CfgExpr plain y)) ∙ layer y negated free
      ∙ ap (λ t. turned negated (t free)) (sym (truth_rolled (map-CfgExpr Known CfgExpr plain y)))

  -- the value of a predicate is that of its form
  pub form_truth : (e : CfgExpr) (negated : Bool) (free : Free) → form_value options (form e negated) free ≡ turned negated (truth options e free)
  form_truth = ind-CfgExpr Agrees (λ x y eq. subst (λ x. Agrees (roll-CfgExpr x)) eq (at_layer y))

  -- a true literal has the value true, whatever the free value is
  plain_true : (o : Option Bool) (free : Bool) → reads_true o ≡ true → unwrap_or o free ≡ true
  plain_true None free e = absurd cc
  plain_true (Some true) free e = refl
  plain_true (Some false) free e = absurd cc

  negated_true : (o : Option Bool) (free : Bool) → reads_true (option_map not o) ≡ true → not (unwrap_or o free) ≡ true
  negated_true None free e = absurd cc
  negated_true (Some true) free e = absurd cc
  negated_true (Some false) free e = refl

  literal_true : (l : Literal) (free : Bool) → is_true options l ≡ true → value options l free ≡ true
  literal_true (Plain leaf) free e = plain_true (leaf_answer options leaf) free e
  literal_true (Negated leaf) free e = negated_true (leaf_answer options leaf) free e

  first_so : (a b : Bool) → (a && b) ≡ true → a ≡ true
  first_so true b e = refl
  first_so false b e = absurd cc

  second_so : (a b : Bool) → (a && b) ≡ true → b ≡ true
  second_so true b e = e
  second_so false b e = absurd cc

  both_so : (a b : Bool) → a ≡ true → b ≡ true → (a && b) ≡ true
  both_so true b d e = e
  both_so false b d e = absurd cc

  either : (a b c d : Bool) → (a ≡ true → c ≡ true) → (b ≡ true → d ≡ true) → (a || b) ≡ true → (c || d) ≡ true
  either true b c d f g e = ap (λ x. x || d) (f refl)
  either false b true d f g e = refl
  either false b false d f g e = g e

  mutual
    surely_value : (f : Form Literal) (free : Free) → passes (is_true options) f ≡ true → form_value options f free ≡ true
    surely_value (Lit l) free e = literal_true l (free []) e
    surely_value (Sum fs) free e = surely_some fs free e
    surely_value (Product fs) free e = surely_every fs free e

    surely_some : (fs : Forms Literal) (free : Free) → some_passes (is_true options) fs ≡ true → some_value options fs free ≡ true
    surely_some End free e = e
    surely_some (More f fs) free e =
        either (passes (is_true options) f) (some_passes (is_true options) fs) (form_value options f (within free)) (some_value options fs (beyond free)) (surely_value f (within free)) (surely_some fs (beyond free)) e

    surely_every : (fs : Forms Literal) (free : Free) → all_pass (is_true options) fs ≡ true → every_value options fs free ≡ true
    surely_every End free e = refl
    surely_every (More f fs) free e =
        both_so (form_value options f (within free)) (every_value options fs (beyond free))
        (surely_value f (within free) (first_so (passes (is_true options) f) (all_pass (is_true options) fs) e))
        (surely_every fs (beyond free) (second_so (passes (is_true options) f) (all_pass (is_true options) fs) e))

-- the worst free value of a literal
abbrev pub worst_of : Literal → Bool
worst_of (Plain leaf) = false
worst_of (Negated leaf) = true

-- the worst free values
abbrev mutual
  pub worst : Form Literal → Free
  worst (Lit l) at = worst_of l
  worst (Sum fs) at = all_worst fs at
  worst (Product fs) at = all_worst fs at

  pub all_worst : Forms Literal → Free
  all_worst End at = true
  all_worst (More f fs) [] = true
  all_worst (More f fs) (true ∷ at) = worst f at
  all_worst (More f fs) (false ∷ at) = all_worst fs at

module _ (options : OptionSet) where
  plain_worst : (o : Option Bool) → unwrap_or o false ≡ reads_true o
  plain_worst None = refl
  plain_worst (Some true) = refl
  plain_worst (Some false) = refl

  negated_worst : (o : Option Bool) → not (unwrap_or o true) ≡ reads_true (option_map not o)
  negated_worst None = refl
  negated_worst (Some true) = refl
  negated_worst (Some false) = refl

  literal_worst : (l : Literal) → value options l (worst_of l) ≡ is_true options l
  literal_worst (Plain leaf) = plain_worst (leaf_answer options leaf)
  literal_worst (Negated leaf) = negated_worst (leaf_answer options leaf)

  mutual
    pub at_worst : (f : Form Literal) → form_value options f (worst f) ≡ passes (is_true options) f
    at_worst (Lit l) = literal_worst l
    at_worst (Sum fs) = some_worst fs
    at_worst (Product fs) = every_worst fs

    some_worst : (fs : Forms Literal) → some_value options fs (all_worst fs) ≡ some_passes (is_true options) fs
    some_worst End = refl
    some_worst (More f fs) = ap (λ r. r || some_value options fs (all_worst fs)) (at_worst f) ∙ ap (λ r. passes (is_true options) f || r) (some_worst fs)

    every_worst : (fs : Forms Literal) → every_value options fs (all_worst fs) ≡ all_pass (is_true options) fs
    every_worst End = refl
    every_worst (More f fs) = ap (λ r. r && every_value options fs (all_worst fs)) (at_worst f) ∙ ap (λ r. passes (is_true options) f && r) (every_worst fs)

  -- where a conjunction holds true literals alone the predicate is surely true, and the other way round
  pub true_conjunction : (e : CfgExpr) → list_any (list_all (is_true options)) (conjunctions e) ≡ passes (is_true options) (form e false)
  true_conjunction e = ap (list_any (list_all (is_true options))) (agrees e false) ∙ passed (is_true options) (form e false)

  pub surely_if : (e : CfgExpr) → list_any (list_all (is_true options)) (conjunctions e) ≡ true → SurelyTrue options e
  surely_if e h free = sym (form_truth options e false free) ∙ surely_value options (form e false) free (sym (true_conjunction e) ∙ h)

  pub surely_only : (e : CfgExpr) → SurelyTrue options e → list_any (list_all (is_true options)) (conjunctions e) ≡ true
  surely_only e h = true_conjunction e ∙ sym (at_worst (form e false)) ∙ form_truth options e false (worst (form e false)) ∙ h (worst (form e false))
