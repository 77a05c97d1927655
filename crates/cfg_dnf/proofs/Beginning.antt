-- Making the choices of the first conjunction.
use Rattle.std.proofs.Common.{◌≡◌, ℕ, suc, ◌+◌, ◌<◌, ◌≤◌, Bool, true, false, List, [], ◌∷◌, ◌++◌, length, take, drop, get_or, Option, Some, None, refl, sym, ap, subst, ◌∙◌, append_assoc, arith}
use Rattle.std.specs.Option.{option_map}
use Rattle.std.proofs.lemmas.List.{drop_more, at_drop_all, append-nil}
use Rattle.ra_cfg.specs.declared.cfg_expr.CfgExpr.{CfgExpr}
use Rattle.cfg_dnf.specs.Form.{form, part_forms, ahead, later, or_else, both, first, sum_first, product_first}
use Rattle.cfg_dnf.specs.Making.{Made, Unmade, MakesIf, shifted}

pub later_shifted : (i : ℕ) (p : List ℕ) → shifted i (later p) ≡ shifted (i + 1) p
later_shifted i [] = refl
later_shifted i (k ∷ p) = let e : i + suc k ≡ i + 1 + k = omega arith in ap (λ n. n ∷ p) e

pub not_shifted : (p : List ℕ) → shifted 0 p ≡ p
not_shifted [] = refl
not_shifted (k ∷ p) = let e : 0 + k ≡ k = omega arith in ap (λ n. n ∷ p) e

sum_split : (i : ℕ) (o s : Option (List ℕ)) → option_map (shifted i) (or_else (option_map (ahead 0) o) (option_map later s)) ≡ or_else (option_map (ahead i) o) (option_map (shifted (i + 1)) s)
sum_split i None None = refl
sum_split i None (Some p) = ap Some (later_shifted i p)
sum_split i (Some p) s = let e : i + 0 ≡ i = omega arith in ap (λ n. Some (n ∷ p)) e

-- the sum as it is from its first part on
pub from_zero : (o : Option (List ℕ)) → option_map (shifted 0) o ≡ o
from_zero None = refl
from_zero (Some p) = ap Some (not_shifted p)

-- the parts of a sum from `start` up to i have no conjunction
pub record BegunSum (negated : Bool) (parts : List CfgExpr) (start i : ℕ) (front new : List ℕ) : Type 0 where
  pub kept : new ≡ front
  pub same : option_map (shifted i) (sum_first (part_forms negated (drop i parts))) ≡ option_map (shifted start) (sum_first (part_forms negated (drop start parts)))

module _ (negated : Bool) (parts : List CfgExpr) (start i : ℕ) (part : CfgExpr) (front old pushed new : List ℕ) (within : i < length parts) (is : part ≡ get_or parts i part) (so_far : BegunSum negated parts start i front old) (one : pushed ≡ old ++ i ∷ []) where
  sum_here : or_else (option_map (ahead i) (first (form part negated))) (option_map (shifted (i + 1)) (sum_first (part_forms negated (drop (i + 1) parts)))) ≡ option_map (shifted start) (sum_first (part_forms negated (drop start parts)))
  sum_here =
      sym (ap (λ ps. option_map (shifted i) (sum_first (part_forms negated ps))) (drop_more parts i part within ∙ ap (λ p. p ∷ drop (i + 1) parts) (sym is))
      ∙ sum_split i (first (form part negated)) (sum_first (part_forms negated (drop (i + 1) parts))))
      ∙ so_far.same

  pushed_is : pushed ≡ front ++ i ∷ []
  pushed_is = one ∙ ap (λ l. l ++ i ∷ []) so_far.kept

  -- the part at i has one
  pub sum_found : (told : Bool) → told ≡ true → MakesIf pushed new (first (form part negated)) told → Made front new (option_map (shifted start) (sum_first (part_forms negated (drop start parts))))
  sum_found told e makes =
      let made : Made pushed new (first (form part negated)) = subst (MakesIf pushed new (first (form part negated))) e makes in
      record {
        choices = i ∷ made.choices;
        left = made.left ∙ ap (λ l. l ++ made.choices) pushed_is ∙ append_assoc front (i ∷ []) made.choices;
        are = sym (ap (λ o. or_else (option_map (ahead i) o) (option_map (shifted (i + 1)) (sum_first (part_forms negated (drop (i + 1) parts))))) (sym made.are) ∙ sum_here);
      }

  -- the part at i has none either
  pub sum_goes_on : (cut : List ℕ) (told : Bool) → told ≡ false → MakesIf pushed new (first (form part negated)) told → cut ≡ take (length old) new → BegunSum negated parts start (i + 1) front cut
  sum_goes_on cut told e makes is_cut =
      let unmade : Unmade pushed new (first (form part negated)) = subst (MakesIf pushed new (first (form part negated))) e makes in
      record {
        kept = is_cut ∙ ap (take (length old)) (unmade.left ∙ ap (λ l. l ++ unmade.choices) one ∙ append_assoc old (i ∷ []) unmade.choices) ∙ taken old (i ∷ unmade.choices) ∙ so_far.kept;
        same = ap (λ o. or_else (option_map (ahead i) o) (option_map (shifted (i + 1)) (sum_first (part_forms negated (drop (i + 1) parts))))) (sym unmade.none) ∙ sum_here;
      }
    where
      taken : (x y : List ℕ) → take (length x) (x ++ y) ≡ x
      taken [] y = refl
      taken (i ∷ x) y = ap (λ r. i ∷ r) (taken x y)

-- no part has one
pub sum_ends : (negated : Bool) (parts : List CfgExpr) (start i : ℕ) (front new : List ℕ) → length parts ≤ i → BegunSum negated parts start i front new → Unmade front new (option_map (shifted start) (sum_first (part_forms negated (drop start parts))))
sum_ends negated parts start i front new done so_far = record {
  choices = [];
  left = so_far.kept ∙ sym (append-nil front);
  none = sym so_far.same ∙ at_drop_all (λ ps. option_map (shifted i) (sum_first (part_forms negated ps))) parts i done;
}

-- the first parts of a product have made their choices
pub record BegunProduct (negated : Bool) (parts : List CfgExpr) (i : ℕ) (front new : List ℕ) : Type 0 where
  pub choices : List ℕ
  pub left : new ≡ front ++ choices
  pub same : both (Some choices) (product_first (part_forms negated (drop i parts))) ≡ product_first (part_forms negated parts)

none_begun : (negated : Bool) (parts : List CfgExpr) (o : Option (List ℕ)) → both (Some []) o ≡ o
none_begun negated parts None = refl
none_begun negated parts (Some p) = refl

both_joined : (x y : List ℕ) (o : Option (List ℕ)) → both (Some (x ++ y)) o ≡ both (Some x) (both (Some y) o)
both_joined x y None = refl
both_joined x y (Some z) = ap Some (append_assoc x y z)

pub product_begins : (negated : Bool) (parts : List CfgExpr) (front : List ℕ) → BegunProduct negated parts 0 front front
product_begins negated parts front = record { choices = []; left = sym (append-nil front); same = none_begun negated parts (product_first (part_forms negated parts)) }

module _ (negated : Bool) (parts : List CfgExpr) (i : ℕ) (part : CfgExpr) (front old new : List ℕ) (within : i < length parts) (is : part ≡ get_or parts i part) (so_far : BegunProduct negated parts i front old) where
  product_here : both (Some so_far.choices) (both (first (form part negated)) (product_first (part_forms negated (drop (i + 1) parts)))) ≡ product_first (part_forms negated parts)
  product_here = sym (ap (λ ps. both (Some so_far.choices) (product_first (part_forms negated ps))) (drop_more parts i part within ∙ ap (λ p. p ∷ drop (i + 1) parts) (sym is))) ∙ so_far.same

  pub product_goes_on : (told : Bool) → told ≡ true → MakesIf old new (first (form part negated)) told → BegunProduct negated parts (i + 1) front new
  product_goes_on told e makes =
      let made : Made old new (first (form part negated)) = subst (MakesIf old new (first (form part negated))) e makes in
      record {
        choices = so_far.choices ++ made.choices;
        left = made.left ∙ ap (λ l. l ++ made.choices) so_far.left ∙ append_assoc front so_far.choices made.choices;
        same = both_joined so_far.choices made.choices (product_first (part_forms negated (drop (i + 1) parts)))
            ∙ ap (λ o. both (Some so_far.choices) (both o (product_first (part_forms negated (drop (i + 1) parts))))) (sym made.are) ∙ product_here;
      }

  pub product_stops : (told : Bool) → told ≡ false → MakesIf old new (first (form part negated)) told → Unmade front new (product_first (part_forms negated parts))
  product_stops told e makes =
      let unmade : Unmade old new (first (form part negated)) = subst (MakesIf old new (first (form part negated))) e makes in
      record {
        choices = so_far.choices ++ unmade.choices;
        left = unmade.left ∙ ap (λ l. l ++ unmade.choices) so_far.left ∙ append_assoc front so_far.choices unmade.choices;
        none = sym product_here ∙ ap (λ o. both (Some so_far.choices) (both o (product_first (part_forms negated (drop (i + 1) parts))))) unmade.none;
      }

pub product_ends : (negated : Bool) (parts : List CfgExpr) (i : ℕ) (front new : List ℕ) → length parts ≤ i → BegunProduct negated parts i front new → Made front new (product_first (part_forms negated parts))
product_ends negated parts i front new done so_far = record {
  choices = so_far.choices;
  left = so_far.left;
  are = sym so_far.same ∙ at_drop_all (λ ps. both (Some so_far.choices) (product_first (part_forms negated ps))) parts i done ∙ ap Some (append-nil so_far.choices);
}
