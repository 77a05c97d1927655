-- Counting conjunctions, and making the choices of the conjunction of a number.
use Rattle.std.proofs.Common.{◌≡◌, ℕ, ◌+◌, ◌-◌, ◌*◌, ◌/◌, ◌%◌, ◌<◌, ◌≤◌, min, nat_lt, if◌then◌else◌, Bool, List, [], ◌∷◌, ◌++◌, length, drop, get_or, refl, sym, ap, subst, ◌∙◌, append_assoc, arith}
use Rattle.std.proofs.Math.Nat.{div-lt_iff_lt-mul, div-le_self, mod-le, mod-lt, div-one}
use Rattle.std.proofs.lemmas.Bool.{lt-ltb, le-ltb}
use Rattle.std.proofs.lemmas.List.{drop_more, at_drop_all, append-nil}
use Rattle.ra_cfg.specs.declared.cfg_expr.CfgExpr.{CfgExpr}
use Rattle.cfg_dnf.specs.declared.literal.Literal.{Literal}
use Rattle.cfg_dnf.specs.Form.{Form, Lit, form, part_forms, ahead, later}
use Rattle.cfg_dnf.specs.Making.{shifted}
use Rattle.cfg_dnf.specs.Numbered.{number_limit}
use Rattle.cfg_dnf.specs.Numbers.{count, sum_count, product_count, choices_at, sum_choices_at, product_choices_at}
use Rattle.cfg_dnf.proofs.Beginning.{later_shifted, not_shifted}
use Rattle.cfg_dnf.proofs.Going.{parts_joined}
use Rattle.cfg_dnf.proofs.NumberLaws.{positive, joined_count, joined_choices, capped_product, capped_sum, capped_div, capped_mod}

-- a leaf has one conjunction, without a choice
pub leaf_count : (f : Form Literal) (l : Literal) → f ≡ Lit l → 1 ≡ min (count f) number_limit
leaf_count f l is = ap (λ f. min (count f) number_limit) (sym is)

pub leaf_choices : (front : List ℕ) (f : Form Literal) (l : Literal) (n : ℕ) → f ≡ Lit l → front ≡ front ++ choices_at f n
leaf_choices front f l n is = sym (append-nil front) ∙ ap (λ f. front ++ choices_at f n) (sym is)

-- the conjunctions of the first parts of a sum are counted
pub record CountedSum (negated : Bool) (parts : List CfgExpr) (i found : ℕ) : Type 0 where
  pub bound : found ≤ number_limit
  pub same : min (found + sum_count (part_forms negated (drop i parts))) number_limit ≡ min (sum_count (part_forms negated parts)) number_limit

pub sum_counted_first : (negated : Bool) (parts : List CfgExpr) → CountedSum negated parts 0 0
sum_counted_first negated parts = record { bound = omega arith; same = let e : 0 + sum_count (part_forms negated parts) ≡ sum_count (part_forms negated parts) = omega arith in ap (λ n. min n number_limit) e }

-- the same of a product
pub record CountedProduct (negated : Bool) (parts : List CfgExpr) (i found : ℕ) : Type 0 where
  pub bound : found ≤ number_limit
  pub same : min (found * product_count (part_forms negated (drop i parts))) number_limit ≡ min (product_count (part_forms negated parts)) number_limit

pub product_counted_first : (negated : Bool) (parts : List CfgExpr) → CountedProduct negated parts 0 1
product_counted_first negated parts = record { bound = omega arith; same = let e : 1 * product_count (part_forms negated parts) ≡ product_count (part_forms negated parts) = omega arith in ap (λ n. min n number_limit) e }

module _ (negated : Bool) (parts : List CfgExpr) (i : ℕ) (part : CfgExpr) (found here new : ℕ) (within : i < length parts) (is : part ≡ get_or parts i part) (counted : here ≡ min (count (form part negated)) number_limit) where
  split : drop i parts ≡ part ∷ drop (i + 1) parts
  split = drop_more parts i part within ∙ ap (λ p. p ∷ drop (i + 1) parts) (sym is)

  pub sum_counted_more : CountedSum negated parts i found → new ≡ min (found + here) number_limit → CountedSum negated parts (i + 1) new
  sum_counted_more so_far e = record {
    bound = omega (arith, e);
    same =
        ap (λ n. min (n + sum_count (part_forms negated (drop (i + 1) parts))) number_limit) (e ∙ ap (λ n. min (found + n) number_limit) counted)
        ∙ capped_sum found (count (form part negated)) (sum_count (part_forms negated (drop (i + 1) parts)))
        ∙ ap (λ ps. min (found + sum_count (part_forms negated ps)) number_limit) (sym split)
        ∙ so_far.same;
  }

  pub product_counted_more : CountedProduct negated parts i found → new ≡ min (found * here) number_limit → CountedProduct negated parts (i + 1) new
  product_counted_more so_far e = record {
    bound = let b : min (found * here) number_limit ≤ number_limit = omega arith in subst (λ n. n ≤ number_limit) (sym e) b;
    same =
        ap (λ n. min (n * product_count (part_forms negated (drop (i + 1) parts))) number_limit) (e ∙ ap (λ n. min (found * n) number_limit) counted)
        ∙ capped_product found (count (form part negated)) (product_count (part_forms negated (drop (i + 1) parts)))
        ∙ ap (λ ps. min (found * product_count (part_forms negated ps)) number_limit) (sym split)
        ∙ so_far.same;
  }

pub sum_counted : (negated : Bool) (parts : List CfgExpr) (i found : ℕ) → length parts ≤ i → CountedSum negated parts i found → found ≡ min (sum_count (part_forms negated parts)) number_limit
sum_counted negated parts i found done so_far =
    let bound : found ≤ number_limit = so_far.bound in
    let e : found ≡ min (found + 0) number_limit = omega (arith, bound) in
    e ∙ sym (at_drop_all (λ ps. min (found + sum_count (part_forms negated ps)) number_limit) parts i done) ∙ so_far.same

pub product_counted : (negated : Bool) (parts : List CfgExpr) (i found : ℕ) → length parts ≤ i → CountedProduct negated parts i found → found ≡ min (product_count (part_forms negated parts)) number_limit
product_counted negated parts i found done so_far =
    let bound : found ≤ number_limit = so_far.bound in
    let e : found ≡ min (found * 1) number_limit = omega (arith, bound) in
    e ∙ sym (at_drop_all (λ ps. min (found * product_count (part_forms negated ps)) number_limit) parts i done) ∙ so_far.same

-- the number lies in the parts of a sum from i on, so far behind the first conjunction of them
pub record FallsIn (negated : Bool) (parts : List CfgExpr) (number i left : ℕ) (front new : List ℕ) : Type 0 where
  pub kept : new ≡ front
  pub bound : left ≤ number
  pub same : shifted i (sum_choices_at (part_forms negated (drop i parts)) left) ≡ sum_choices_at (part_forms negated parts) number

pub falls_first : (negated : Bool) (parts : List CfgExpr) (number : ℕ) (front : List ℕ) → FallsIn negated parts number 0 number front front
falls_first negated parts number front = record { kept = refl; bound = omega arith; same = not_shifted (sum_choices_at (part_forms negated parts) number) }

module _ (negated : Bool) (parts : List CfgExpr) (number i left here : ℕ) (part : CfgExpr) (front old : List ℕ) (limited : number < number_limit) (within : i < length parts) (is : part ≡ get_or parts i part) (counted : here ≡ min (count (form part negated)) number_limit)
    (so_far : FallsIn negated parts number i left front old) where
  abbrev by_test : Bool → List ℕ
  by_test b = shifted i (if b then ahead 0 (choices_at (form part negated) left) else later (sum_choices_at (part_forms negated (drop (i + 1) parts)) (left - count (form part negated))))

  at_part : by_test (nat_lt left (count (form part negated))) ≡ sum_choices_at (part_forms negated parts) number
  at_part = sym (ap (λ ps. shifted i (sum_choices_at (part_forms negated ps) left)) (drop_more parts i part within ∙ ap (λ p. p ∷ drop (i + 1) parts) (sym is))) ∙ so_far.same

  -- it falls in the part at i
  pub falls_here : left < here → left < count (form part negated)
  falls_here h = omega (arith, h, counted)

  pub chosen_here : left < here → (pushed : List ℕ) → pushed ≡ old ++ i ∷ [] → pushed ++ choices_at (form part negated) left ≡ front ++ sum_choices_at (part_forms negated parts) number
  chosen_here h pushed one =
      let e : i ≡ i + 0 = omega arith in
      ap (λ l. l ++ choices_at (form part negated) left) (one ∙ ap (λ l. l ++ i ∷ []) so_far.kept) ∙ append_assoc front (i ∷ []) (choices_at (form part negated) left)
      ∙ ap (λ n. front ++ n ∷ choices_at (form part negated) left) e
      ∙ ap (λ l. front ++ l) (ap by_test (sym (lt-ltb left (count (form part negated)) (falls_here h))) ∙ at_part)

  -- it lies behind that part
  pub falls_behind : here ≤ left → FallsIn negated parts number (i + 1) (left - here) front old
  falls_behind h =
      let bound : left ≤ number = so_far.bound in
      let whole : here ≡ count (form part negated) = omega (arith, h, counted, bound, limited) in
      let past : count (form part negated) ≤ left = omega (arith, h, whole) in
      record {
        kept = so_far.kept;
        bound = omega (arith, bound);
        same = ap (λ n. shifted (i + 1) (sum_choices_at (part_forms negated (drop (i + 1) parts)) (left - n))) whole
            ∙ sym (later_shifted i (sum_choices_at (part_forms negated (drop (i + 1) parts)) (left - count (form part negated))))
            ∙ ap by_test (sym (le-ltb left (count (form part negated)) past)) ∙ at_part;
      }

-- it lies behind all parts
pub falls_nowhere : (negated : Bool) (parts : List CfgExpr) (number i left : ℕ) (front new : List ℕ) → length parts ≤ i → FallsIn negated parts number i left front new → new ≡ front ++ sum_choices_at (part_forms negated parts) number
falls_nowhere negated parts number i left front new done so_far =
    so_far.kept ∙ sym (append-nil front) ∙ ap (λ l. front ++ l) (sym (at_drop_all (λ ps. shifted i (sum_choices_at (part_forms negated ps) left)) parts i done) ∙ so_far.same)

-- a product of no part, and of a single one
pub choices_of_none : (negated : Bool) (parts : List CfgExpr) (number : ℕ) (front : List ℕ) → parts ≡ [] → front ≡ front ++ product_choices_at (part_forms negated parts) number
choices_of_none negated parts number front e = sym (append-nil front) ∙ ap (λ ps. front ++ product_choices_at (part_forms negated ps) number) (sym e)

module _ (negated : Bool) (parts : List CfgExpr) (part : CfgExpr) (number : ℕ) (one : parts ≡ part ∷ []) where
  pub number_in_one : number < product_count (part_forms negated parts) → number < count (form part negated)
  number_in_one h = let k : number < count (form part negated) * 1 = subst (λ ps. number < product_count (part_forms negated ps)) one h in omega (arith, k)

  pub choices_of_one : choices_at (form part negated) number ≡ product_choices_at (part_forms negated parts) number
  choices_of_one = ap (choices_at (form part negated)) (sym (div-one number)) ∙ sym (append-nil (choices_at (form part negated) (number / 1))) ∙ ap (λ ps. product_choices_at (part_forms negated ps) number) (sym one)

-- the number in the first half of the parts of a product, and in the second
module _ (negated : Bool) (parts xs ys : List CfgExpr) (number behind : ℕ) (halves : parts ≡ xs ++ ys) (limited : number < number_limit) (counted : behind ≡ min (product_count (part_forms negated ys)) number_limit) (inside : number < product_count (part_forms negated parts)) where
  in_two : product_count (part_forms negated parts) ≡ product_count (part_forms negated xs) * product_count (part_forms negated ys)
  in_two = ap (λ ps. product_count (part_forms negated ps)) halves ∙ ap product_count (parts_joined negated xs ys) ∙ joined_count (part_forms negated xs) (part_forms negated ys)

  inside_two : number < product_count (part_forms negated xs) * product_count (part_forms negated ys)
  inside_two = subst (λ n. number < n) in_two inside

  some : 0 < product_count (part_forms negated ys)
  some = positive number (product_count (part_forms negated xs)) (product_count (part_forms negated ys)) inside_two

  divided : number / behind ≡ number / product_count (part_forms negated ys)
  divided = ap (λ n. number / n) counted ∙ capped_div number (product_count (part_forms negated ys)) limited

  left_over : number % behind ≡ number % product_count (part_forms negated ys)
  left_over = ap (λ n. number % n) counted ∙ capped_mod number (product_count (part_forms negated ys)) limited

  pub some_behind : 0 < behind
  some_behind = omega (arith, counted, some)

  pub number_in_front : number / behind < product_count (part_forms negated xs)
  number_in_front = subst (λ n. n < product_count (part_forms negated xs)) (sym divided) ((div-lt_iff_lt-mul some).1 inside_two)

  pub number_behind : number % behind < product_count (part_forms negated ys)
  number_behind = subst (λ n. n < product_count (part_forms negated ys)) (sym left_over) (mod-lt number some)

  pub choices_of_halves : (front mid : List ℕ) → mid ≡ front ++ product_choices_at (part_forms negated xs) (number / behind) → mid ++ product_choices_at (part_forms negated ys) (number % behind) ≡ front ++ product_choices_at (part_forms negated parts) number
  choices_of_halves front mid e =
      ap (λ l. l ++ product_choices_at (part_forms negated ys) (number % behind)) e
      ∙ append_assoc front (product_choices_at (part_forms negated xs) (number / behind)) (product_choices_at (part_forms negated ys) (number % behind))
      ∙ ap (λ l. front ++ l) ((λ i. product_choices_at (part_forms negated xs) (divided i) ++ product_choices_at (part_forms negated ys) (left_over i))
      ∙ sym (joined_choices (part_forms negated xs) (part_forms negated ys) number (subst (λ n. number < n) (ap (λ ps. product_count (part_forms negated ps)) halves ∙ ap product_count (parts_joined negated xs ys)) inside))
      ∙ sym (ap (λ ps. product_choices_at (part_forms negated ps) number) halves ∙ ap (λ fs. product_choices_at fs number) (parts_joined negated xs ys)))

-- what a number is divided into is small too
pub small_div : (n b : ℕ) → n < number_limit → n / b < number_limit
small_div n b h = let k : n / b ≤ n = div-le_self n b in omega (arith, h, k)

pub small_mod : (n b : ℕ) → n < number_limit → n % b < number_limit
small_mod n b h = let k : n % b ≤ n = mod-le n b in omega (arith, h, k)

pub ruleset half_rules = (small_div, small_mod)
