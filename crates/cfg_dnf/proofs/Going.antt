-- Going on to the choices of the next conjunction.
use Rattle.std.proofs.Common.{◌≡◌, ℕ, zero, suc, ◌+◌, ◌-◌, ◌<◌, ◌≤◌, Bool, true, false, List, [], ◌∷◌, ◌++◌, length, take, drop, get_or, Option, Some, None, Result, Ok, Err, ◌⊎◌, inl, inr, refl, sym, ap, subst, ◌∙◌, append_assoc, arith, add-one, length-append}
use Rattle.std.specs.Option.{option_map}
use Rattle.std.proofs.lemmas.List.{drop_more, take_more, append-nil, take-append-drop, length-take-le, drop-take}
use Rattle.ra_cfg.specs.declared.cfg_expr.CfgExpr.{CfgExpr, Invalid, Atom, Version}
use Rattle.cfg_dnf.specs.declared.literal.Literal.{Literal}
use Rattle.ra_cfg.specs.declared.cfg_expr.CfgAtom.{CfgAtom}
use Rattle.cfg_dnf.specs.declared.literal.Leaf.TheVariants as leaf
use Rattle.cfg_dnf.specs.Conjunctions.{literal}
use Rattle.cfg_dnf.proofs.Equations.{form-Invalid, form-Atom, form-Version}
use Rattle.cfg_dnf.specs.Form.{Form, Lit, Sum, Product, Forms, End, More, form, part_forms, ahead, later, or_else, both, turn, width, sum_width, product_width, first, sum_first, product_first, chosen, sum_chosen, next, sum_next, product_next}
use Rattle.cfg_dnf.specs.Making.{Made, Unmade, MakesIf, Makes, shifted}

-- the form of a leaf
pub leaf_form : (e : CfgExpr) (negated : Bool) → (e ≡ Invalid) ⊎ (((a : CfgAtom) × (e ≡ Atom a)) ⊎ ((t : List ℕ) × (e ≡ Version t))) → (l : Literal) × (form e negated ≡ Lit l)
leaf_form e negated is = elim is [
  | inl h ↦ (literal leaf.Invalid negated, ap (λ e. form e negated) h ∙ form-Invalid negated)
  | inr r ↦ elim r [
    | inl a ↦ (literal (leaf.Atom a.0) negated, ap (λ e. form e negated) a.1 ∙ form-Atom negated a.0)
    | inr t ↦ (literal (leaf.Version t.0) negated, ap (λ e. form e negated) t.1 ∙ form-Version negated t.0)
  ]
]

-- a leaf has one conjunction without a choice, and none behind it
pub made_at : (front : List ℕ) (f : Form Literal) (l : Literal) → f ≡ Lit l → Made front front (first f)
made_at front f l is = record { choices = []; left = sym (append-nil front); are = ap first is }

pub unmade_at : (at : ℕ) (old : List ℕ) (f : Form Literal) (l : Literal) → f ≡ Lit l → Unmade (take at old) old (next f (drop at old))
unmade_at at old f l is = record { choices = drop at old; left = sym (take-append-drop at old); none = ap (λ f. next f (drop at old)) is }

-- the width of a sum is that of the chosen part, and one more
pub sum_width_at : (negated : Bool) (parts : List CfgExpr) (i : ℕ) (p : List ℕ) (part : CfgExpr) → i < length parts → part ≡ get_or parts i part → sum_width (part_forms negated parts) i p ≡ width (form part negated) p
sum_width_at negated [] i p part within is = absurd (omega arith)
sum_width_at negated (x ∷ xs) zero p part within is = ap (λ e. width (form e negated) p) (sym is)
sum_width_at negated (x ∷ xs) (suc i) p part within is = sum_width_at negated xs i p part (omega arith) is

pub sum_width_past : (negated : Bool) (parts : List CfgExpr) (i : ℕ) (p : List ℕ) → length parts ≤ i → sum_width (part_forms negated parts) i p ≡ 0
sum_width_past negated [] i p past = refl
sum_width_past negated (x ∷ xs) zero p past = absurd (omega arith)
sum_width_past negated (x ∷ xs) (suc i) p past = sum_width_past negated xs i p (omega arith)

pub width_of_sum : (negated : Bool) (parts : List CfgExpr) (q : List ℕ) (i : ℕ) (p : List ℕ) (n : ℕ) → q ≡ i ∷ p → sum_width (part_forms negated parts) i p ≡ n → 1 + n ≡ width (Sum (part_forms negated parts)) q
width_of_sum negated parts q i p n split is =
    let e : 1 + n ≡ suc n = omega arith in
    e ∙ ap suc (sym is) ∙ ap (width (Sum (part_forms negated parts))) (sym split)

-- the next choices of a sum are those of its chosen part, or else the first ones of the parts behind it
later_ahead : (i : ℕ) (o s : Option (List ℕ)) → option_map later (or_else (option_map (ahead i) o) (option_map (shifted (suc i)) s)) ≡ or_else (option_map (ahead (suc i)) o) (option_map (shifted (suc (suc i))) s)
later_ahead i None None = refl
later_ahead i None (Some []) = refl
later_ahead i None (Some (k ∷ p)) = let e : suc (suc i + k) ≡ suc (suc i) + k = omega arith in ap (λ n. Some (n ∷ p)) e
later_ahead i (Some p) s = refl

later_first : (o : Option (List ℕ)) → option_map later o ≡ option_map (shifted 1) o
later_first None = refl
later_first (Some []) = refl
later_first (Some (k ∷ p)) = let e : suc k ≡ 1 + k = omega arith in ap (λ n. Some (n ∷ p)) e

sum_next_at : (negated : Bool) (parts : List CfgExpr) (i : ℕ) (p : List ℕ) (part : CfgExpr) → i < length parts → part ≡ get_or parts i part →
    sum_next (part_forms negated parts) i p ≡ or_else (option_map (ahead i) (next (form part negated) p)) (option_map (shifted (suc i)) (sum_first (part_forms negated (drop (suc i) parts))))
sum_next_at negated [] i p part within is = absurd (omega arith)
sum_next_at negated (x ∷ xs) zero p part within is =
    ap (λ e. or_else (option_map (ahead 0) (next (form e negated) p)) (option_map later (sum_first (part_forms negated xs)))) (sym is)
    ∙ ap (or_else (option_map (ahead 0) (next (form part negated) p))) (later_first (sum_first (part_forms negated xs)))
sum_next_at negated (x ∷ xs) (suc i) p part within is =
    ap (option_map later) (sum_next_at negated xs i p part (omega arith) is) ∙ later_ahead i (next (form part negated) p) (sum_first (part_forms negated (drop (suc i) xs)))

sum_next_past : (negated : Bool) (parts : List CfgExpr) (i : ℕ) (p : List ℕ) → length parts ≤ i → sum_next (part_forms negated parts) i p ≡ None
sum_next_past negated [] i p past = refl
sum_next_past negated (x ∷ xs) zero p past = absurd (omega arith)
sum_next_past negated (x ∷ xs) (suc i) p past = ap (option_map later) (sum_next_past negated xs i p (omega arith))

no_more : (at : ℕ) (xs : List ℕ) → length xs ≤ at → drop at xs ≡ []
no_more zero [] past = refl
no_more (suc at) [] past = refl
no_more zero (x ∷ xs) past = absurd (omega arith)
no_more (suc at) (x ∷ xs) past = no_more at xs (omega arith)

-- no choice is left
pub sum_next_none : (negated : Bool) (parts : List CfgExpr) (at : ℕ) (old : List ℕ) → length old ≤ at → Unmade (take at old) old (next (Sum (part_forms negated parts)) (drop at old))
sum_next_none negated parts at old past = record { choices = drop at old; left = sym (take-append-drop at old); none = ap (next (Sum (part_forms negated parts))) (no_more at old past) }

-- what is kept of choices
taken : (x y : List ℕ) → take (length x) (x ++ y) ≡ x
taken [] y = refl
taken (i ∷ x) y = ap (λ r. i ∷ r) (taken x y)

left : (x y : List ℕ) → drop (length x) (x ++ y) ≡ y
left [] y = refl
left (i ∷ x) y = left x y

taken_at : (n : ℕ) (x y : List ℕ) → length x ≡ n → take n (x ++ y) ≡ x
taken_at n x y e = ap (λ n. take n (x ++ y)) (sym e) ∙ taken x y

left_at : (n : ℕ) (x y : List ℕ) → length x ≡ n → drop n (x ++ y) ≡ y
left_at n x y e = ap (λ n. drop n (x ++ y)) (sym e) ∙ left x y

module _ (negated : Bool) (parts : List CfgExpr) (at : ℕ) (old : List ℕ) (i : ℕ) (within_old : at < length old) (i_is : i ≡ get_or old at i) where
  split : drop at old ≡ i ∷ drop (at + 1) old
  split = drop_more old at i within_old ∙ ap (λ n. n ∷ drop (at + 1) old) (sym i_is)

  more : take (at + 1) old ≡ take at old ++ i ∷ []
  more = take_more old at i within_old ∙ ap (λ n. take at old ++ n ∷ []) (sym i_is)

  -- the choice is of no part
  pub sum_next_no_part : length parts ≤ i → Unmade (take at old) old (next (Sum (part_forms negated parts)) (drop at old))
  sum_next_no_part past = record {
    choices = drop at old;
    left = sym (take-append-drop at old);
    none = ap (next (Sum (part_forms negated parts))) split ∙ sum_next_past negated parts i (drop (at + 1) old) past;
  }

  module _ (part : CfgExpr) (within : i < length parts) (is : part ≡ get_or parts i part) where
    here : next (Sum (part_forms negated parts)) (drop at old) ≡ or_else (option_map (ahead i) (next (form part negated) (drop (at + 1) old))) (option_map (shifted (i + 1)) (sum_first (part_forms negated (drop (i + 1) parts))))
    here =
        ap (next (Sum (part_forms negated parts))) split ∙ sum_next_at negated parts i (drop (at + 1) old) part within is
        ∙ ap (λ n. or_else (option_map (ahead i) (next (form part negated) (drop (at + 1) old))) (option_map (shifted n) (sum_first (part_forms negated (drop n parts))))) (sym (add-one i))

    -- the chosen part has next choices
    pub sum_next_found : (new : List ℕ) (told : Bool) → told ≡ true → MakesIf (take (at + 1) old) new (next (form part negated) (drop (at + 1) old)) told → Made (take at old) new (next (Sum (part_forms negated parts)) (drop at old))
    sum_next_found new told e makes =
        let made : Made (take (at + 1) old) new (next (form part negated) (drop (at + 1) old)) = subst (MakesIf (take (at + 1) old) new (next (form part negated) (drop (at + 1) old))) e makes in
        record {
          choices = i ∷ made.choices;
          left = made.left ∙ ap (λ l. l ++ made.choices) more ∙ append_assoc (take at old) (i ∷ []) made.choices;
          are = here ∙ ap (λ o. or_else (option_map (ahead i) o) (option_map (shifted (i + 1)) (sum_first (part_forms negated (drop (i + 1) parts))))) made.are;
        }

    -- it has none, and the parts behind it have first ones or not
    pub sum_next_behind : {E : Type 0} (mid cut new : List ℕ) (told : Bool) (result : Result Bool E) → told ≡ false → MakesIf (take (at + 1) old) mid (next (form part negated) (drop (at + 1) old)) told → cut ≡ take at mid →
        Makes result cut new (option_map (shifted (i + 1)) (sum_first (part_forms negated (drop (i + 1) parts)))) → Makes result (take at old) new (next (Sum (part_forms negated parts)) (drop at old))
    sum_next_behind mid cut new told result e makes is_cut begun =
        let unmade : Unmade (take (at + 1) old) mid (next (form part negated) (drop (at + 1) old)) = subst (MakesIf (take (at + 1) old) mid (next (form part negated) (drop (at + 1) old))) e makes in
        let at_in : at ≤ length old = omega arith in
        let front : cut ≡ take at old = is_cut ∙ ap (take at) (unmade.left ∙ ap (λ l. l ++ unmade.choices) more ∙ append_assoc (take at old) (i ∷ []) unmade.choices) ∙ taken_at at (take at old) (i ∷ unmade.choices) (length-take-le at old at_in) in
        let wanted : option_map (shifted (i + 1)) (sum_first (part_forms negated (drop (i + 1) parts))) ≡ next (Sum (part_forms negated parts)) (drop at old) =
        sym (here ∙ ap (λ o. or_else (option_map (ahead i) o) (option_map (shifted (i + 1)) (sum_first (part_forms negated (drop (i + 1) parts))))) unmade.none) in
        subst (λ o. Makes result (take at old) new o) wanted (subst (λ l. Makes result l new (option_map (shifted (i + 1)) (sum_first (part_forms negated (drop (i + 1) parts))))) front begun)

-- parts behind other parts
abbrev pub joined : {L : Type 0} → Forms L → Forms L → Forms L
joined End hs = hs
joined (More f gs) hs = More f (joined gs hs)

pub parts_joined : (negated : Bool) (xs ys : List CfgExpr) → part_forms negated (xs ++ ys) ≡ joined (part_forms negated xs) (part_forms negated ys)
parts_joined negated [] ys = refl
parts_joined negated (x ∷ xs) ys = ap (More (form x negated)) (parts_joined negated xs ys)

take_none : (n : ℕ) → take {A = ℕ} n [] ≡ []
take_none zero = refl
take_none (suc n) = refl

drop_rest : (n : ℕ) (p : List ℕ) → n ≤ length p → length (drop n p) + n ≡ length p
drop_rest n p h =
    let e : length (take n p) + length (drop n p) ≡ length p = sym (length-append (take n p) (drop n p)) ∙ ap length (take-append-drop n p) in
    let f : length (take n p) ≡ n = length-take-le n p h in
    omega arith

module _ {L : Type 0} where
  mutual
    pub width_fits : (f : Form L) (p : List ℕ) → width f p ≤ length p
    width_fits (Lit l) p = omega arith
    width_fits (Sum fs) [] = omega arith
    width_fits (Sum fs) (i ∷ p) = let h : sum_width fs i p ≤ length p = sum_width_fits fs i p in omega arith
    width_fits (Product fs) p = product_width_fits fs p

    sum_width_fits : (fs : Forms L) (i : ℕ) (p : List ℕ) → sum_width fs i p ≤ length p
    sum_width_fits End i p = omega arith
    sum_width_fits (More f fs) zero p = width_fits f p
    sum_width_fits (More f fs) (suc i) p = sum_width_fits fs i p

    pub product_width_fits : (fs : Forms L) (p : List ℕ) → product_width fs p ≤ length p
    product_width_fits End p = omega arith
    product_width_fits (More f fs) p =
        let h : width f p ≤ length p = width_fits f p in
        let k : product_width fs (drop (width f p) p) ≤ length (drop (width f p) p) = product_width_fits fs (drop (width f p) p) in
        let m : length (drop (width f p) p) + width f p ≡ length p = drop_rest (width f p) p h in
        omega arith

  -- choices behind those of a part do not change its width
  mutual
    width_taken : (f : Form L) (m : ℕ) (p : List ℕ) → width f p ≤ m → width f (take m p) ≡ width f p
    width_taken (Lit l) m p h = refl
    width_taken (Sum fs) m [] h = ap (width (Sum fs)) (take_none m)
    width_taken (Sum fs) zero (i ∷ p) h = absurd (omega arith)
    width_taken (Sum fs) (suc m) (i ∷ p) h = ap suc (sum_width_taken fs i m p (omega arith))
    width_taken (Product fs) m p h = product_width_taken fs m p h

    sum_width_taken : (fs : Forms L) (i m : ℕ) (p : List ℕ) → sum_width fs i p ≤ m → sum_width fs i (take m p) ≡ sum_width fs i p
    sum_width_taken End i m p h = refl
    sum_width_taken (More f fs) zero m p h = width_taken f m p h
    sum_width_taken (More f fs) (suc i) m p h = sum_width_taken fs i m p h

    product_width_taken : (fs : Forms L) (m : ℕ) (p : List ℕ) → product_width fs p ≤ m → product_width fs (take m p) ≡ product_width fs p
    product_width_taken End m p h = refl
    product_width_taken (More f fs) m p h =
        let w : width f p ≤ m = omega arith in
        let r : product_width fs (drop (width f p) p) ≤ m - width f p = omega arith in
        let sum : width f p + (m - width f p) ≡ m = omega arith in
        ap (λ n. n + product_width fs (drop n (take m p))) (width_taken f m p w)
        ∙ ap (λ n. width f p + product_width fs (drop (width f p) (take n p))) (sym sum)
        ∙ ap (λ q. width f p + product_width fs q) (drop-take (width f p) (m - width f p) p)
        ∙ ap (λ n. width f p + n) (product_width_taken fs (m - width f p) (drop (width f p) p) r)

both_moved : (c d e : Option (List ℕ)) → both c (both d e) ≡ both (both c d) e
both_moved None d e = refl
both_moved (Some x) None e = refl
both_moved (Some x) (Some y) None = refl
both_moved (Some x) (Some y) (Some z) = ap Some (sym (append_assoc x y z))

both_none : (c d : Option (List ℕ)) → both c (both d None) ≡ None
both_none None d = refl
both_none (Some x) None = refl
both_none (Some x) (Some y) = refl

turn_moved : (x u : List ℕ) (a b c d e : Option (List ℕ)) →
    or_else (option_map (λ z. x ++ z) (or_else (option_map (λ z. u ++ z) a) (both b e))) (both c (both d e)) ≡ or_else (option_map (λ z. (x ++ u) ++ z) a) (both (or_else (option_map (λ z. x ++ z) b) (both c d)) e)
turn_moved x u (Some z) b c d e = ap Some (sym (append_assoc x u z))
turn_moved x u None (Some z) c d None = both_none c d
turn_moved x u None (Some z) c d (Some w) = ap Some (sym (append_assoc x z w))
turn_moved x u None None c d e = both_moved c d e

same_map : (o : Option (List ℕ)) → option_map (λ z. [] ++ z) o ≡ o
same_map None = refl
same_map (Some z) = refl

or_none : (o : Option (List ℕ)) → or_else o None ≡ o
or_none None = refl
or_none (Some z) = refl

module _ {L : Type 0} where
  first_joined : (gs hs : Forms L) → product_first (joined gs hs) ≡ both (product_first gs) (product_first hs)
  first_joined End hs = none (product_first hs)
    where
      none : (o : Option (List ℕ)) → o ≡ both (Some []) o
      none None = refl
      none (Some p) = refl
  first_joined (More f gs) hs = ap (both (first f)) (first_joined gs hs) ∙ both_moved (first f) (product_first gs) (product_first hs)

  -- the next choices of two rows of parts
  pub next_joined : (gs hs : Forms L) (p : List ℕ) → product_next (joined gs hs) p ≡ turn (product_next hs) (product_first hs) (product_next gs) (take (product_width gs p) p) (drop (product_width gs p) p)
  next_joined End hs p = sym (or_none (option_map (λ z. [] ++ z) (product_next hs p)) ∙ same_map (product_next hs p))
  next_joined (More f gs) hs p =
      let w = width f p in
      let y = drop (width f p) p in
      let u = take (product_width gs (drop (width f p) p)) (drop (width f p) p) in
      let v = drop (product_width gs (drop (width f p) p)) (drop (width f p) p) in
      let x = take (width f p) p in
      let w_fits : width f p ≤ length p = width_fits f p in
      let x_long : length (take (width f p) p) ≡ width f p = length-take-le (width f p) p w_fits in
      let g_fits : product_width gs (drop (width f p) p) ≤ length (drop (width f p) p) = product_width_fits gs (drop (width f p) p) in
      let u_long : length u ≡ product_width gs y = length-take-le (product_width gs y) y g_fits in
      let parts_of : p ≡ (x ++ u) ++ v = sym (take-append-drop w p) ∙ ap (λ q. x ++ q) (sym (take-append-drop (product_width gs y) y)) ∙ sym (append_assoc x u v) in
      let long : length (x ++ u) ≡ w + product_width gs y = length-append x u ∙ (λ i. x_long i + u_long i) in
      let front : take (w + product_width gs y) p ≡ x ++ u = ap (take (w + product_width gs y)) parts_of ∙ taken_at (w + product_width gs y) (x ++ u) v long in
      let rest : drop (w + product_width gs y) p ≡ v = ap (drop (w + product_width gs y)) parts_of ∙ left_at (w + product_width gs y) (x ++ u) v long in
      let enough : w ≤ w + product_width gs y = omega arith in
      let same_width : width f (x ++ u) ≡ w = ap (width f) (sym front) ∙ width_taken f (w + product_width gs y) p enough in
      let ahead_of : product_next (More f gs) (x ++ u) ≡ turn (product_next gs) (product_first gs) (next f) x u =
      ap (λ n. turn (product_next gs) (product_first gs) (next f) (take n (x ++ u)) (drop n (x ++ u))) same_width
      ∙ (λ i. turn (product_next gs) (product_first gs) (next f) (taken_at w x u x_long i) (left_at w x u x_long i)) in
      (λ i. or_else (option_map (λ z. x ++ z) (next_joined gs hs y i)) (both (next f x) (first_joined gs hs i)))
      ∙ turn_moved x u (product_next hs v) (product_next gs u) (next f x) (product_first gs) (product_first hs)
      ∙ ap (λ o. or_else (option_map (λ z. (x ++ u) ++ z) (product_next hs v)) (both o (product_first hs))) (sym ahead_of)
      ∙ (λ i. turn (product_next hs) (product_first hs) (product_next (More f gs)) (sym front i) (sym rest i))

-- a single part
pub next_single : (f : Form Literal) (p : List ℕ) → product_next (More f End) p ≡ next f (take (width f p) p)
next_single f p = alone (next f (take (width f p) p))
  where
    alone : (o : Option (List ℕ)) → both o (Some []) ≡ o
    alone None = refl
    alone (Some z) = ap Some (append-nil z)

module _ (at : ℕ) (old : List ℕ) (n : ℕ) (at_in : at ≤ length old) (n_in : n ≤ length (drop at old)) where
  cut_long : length (take at old ++ take n (drop at old)) ≡ at + n
  cut_long = let h : length (take at old) ≡ at = length-take-le at old at_in in let k : length (take n (drop at old)) ≡ n = length-take-le n (drop at old) n_in in length-append (take at old) (take n (drop at old)) ∙ (λ i. h i + k i)

  in_three : old ≡ (take at old ++ take n (drop at old)) ++ drop n (drop at old)
  in_three = sym (take-append-drop at old) ∙ ap (λ l. take at old ++ l) (sym (take-append-drop n (drop at old))) ∙ sym (append_assoc (take at old) (take n (drop at old)) (drop n (drop at old)))

  pub cut_is : take (at + n) old ≡ take at old ++ take n (drop at old)
  cut_is = ap (take (at + n)) in_three ∙ taken_at (at + n) (take at old ++ take n (drop at old)) (drop n (drop at old)) cut_long

  pub behind_is : drop (at + n) old ≡ drop n (drop at old)
  behind_is = ap (drop (at + n)) in_three ∙ left_at (at + n) (take at old ++ take n (drop at old)) (drop n (drop at old)) cut_long

  pub cut_front : take at (take (at + n) old) ≡ take at old
  cut_front = ap (take at) cut_is ∙ taken_at at (take at old) (take n (drop at old)) (length-take-le at old at_in)

  pub cut_behind : drop at (take (at + n) old) ≡ take n (drop at old)
  cut_behind = ap (drop at) cut_is ∙ left_at at (take at old) (take n (drop at old)) (length-take-le at old at_in)

  pub cut_again : (junk : List ℕ) → take (at + n) (take (at + n) old ++ junk) ≡ take (at + n) old
  cut_again junk = taken_at (at + n) (take (at + n) old) junk (ap length cut_is ∙ cut_long)

-- no part is left
pub next_of_none : (negated : Bool) (parts : List CfgExpr) (at : ℕ) (old : List ℕ) → parts ≡ [] → Unmade (take at old) old (product_next (part_forms negated parts) (drop at old))
next_of_none negated parts at old e = record { choices = drop at old; left = sym (take-append-drop at old); none = ap (λ ps. product_next (part_forms negated ps) (drop at old)) e }

-- a single part
pub next_of_one : {E : Type 0} (negated : Bool) (parts : List CfgExpr) (part : CfgExpr) (at : ℕ) (old cut new : List ℕ) (n : ℕ) (result : Result Bool E) → parts ≡ part ∷ [] → at ≤ length old → n ≡ width (form part negated) (drop at old) → cut ≡ take (at + n) old →
    Makes result (take at cut) new (next (form part negated) (drop at cut)) → Makes result (take at old) new (product_next (part_forms negated parts) (drop at old))
next_of_one negated parts part at old cut new n result e at_in is_width is_cut makes =
    let fits : n ≤ length (drop at old) = subst (λ n. n ≤ length (drop at old)) (sym is_width) (width_fits (form part negated) (drop at old)) in
    let front : take at cut ≡ take at old = ap (take at) is_cut ∙ cut_front at old n at_in fits in
    let wanted : next (form part negated) (drop at cut) ≡ product_next (part_forms negated parts) (drop at old) =
    ap (λ c. next (form part negated) (drop at c)) is_cut ∙ ap (next (form part negated)) (cut_behind at old n at_in fits) ∙ ap (λ n. next (form part negated) (take n (drop at old))) is_width
    ∙ sym (next_single (form part negated) (drop at old)) ∙ ap (λ ps. product_next (part_forms negated ps) (drop at old)) (sym e) in
    subst (λ o. Makes result (take at old) new o) wanted (subst (λ l. Makes result l new (next (form part negated) (drop at cut))) front makes)

module _ (negated : Bool) (parts xs ys : List CfgExpr) (at : ℕ) (old : List ℕ) (n : ℕ) (halves : parts ≡ xs ++ ys) (at_in : at ≤ length old) (is_width : n ≡ product_width (part_forms negated xs) (drop at old)) where
  fits : n ≤ length (drop at old)
  fits = subst (λ n. n ≤ length (drop at old)) (sym is_width) (product_width_fits (part_forms negated xs) (drop at old))

  both_halves : product_next (part_forms negated parts) (drop at old) ≡ turn (product_next (part_forms negated ys)) (product_first (part_forms negated ys)) (product_next (part_forms negated xs)) (take n (drop at old)) (drop n (drop at old))
  both_halves =
      ap (λ ps. product_next (part_forms negated ps) (drop at old)) halves ∙ ap (λ fs. product_next fs (drop at old)) (parts_joined negated xs ys)
      ∙ next_joined (part_forms negated xs) (part_forms negated ys) (drop at old)
      ∙ ap (λ n. turn (product_next (part_forms negated ys)) (product_first (part_forms negated ys)) (product_next (part_forms negated xs)) (take n (drop at old)) (drop n (drop at old))) (sym is_width)

  -- the second half has next choices
  pub next_behind : (new : List ℕ) (told : Bool) → told ≡ true → MakesIf (take (at + n) old) new (product_next (part_forms negated ys) (drop (at + n) old)) told → Made (take at old) new (product_next (part_forms negated parts) (drop at old))
  next_behind new told e makes =
      let made : Made (take (at + n) old) new (product_next (part_forms negated ys) (drop (at + n) old)) = subst (MakesIf (take (at + n) old) new (product_next (part_forms negated ys) (drop (at + n) old))) e makes in
      record {
        choices = take n (drop at old) ++ made.choices;
        left = made.left ∙ ap (λ l. l ++ made.choices) (cut_is at old n at_in fits) ∙ append_assoc (take at old) (take n (drop at old)) made.choices;
        are = both_halves ∙ ap (λ o. or_else (option_map (λ z. take n (drop at old) ++ z) o) (both (product_next (part_forms negated xs) (take n (drop at old))) (product_first (part_forms negated ys)))) (ap (product_next (part_forms negated ys)) (sym (behind_is at old n at_in fits)) ∙ made.are);
      }

  module _ (mid cut : List ℕ) (none : Bool) (is_none : none ≡ false) (unmakes : MakesIf (take (at + n) old) mid (product_next (part_forms negated ys) (drop (at + n) old)) none) (is_cut : cut ≡ take (at + n) mid) where
    unmade : Unmade (take (at + n) old) mid (product_next (part_forms negated ys) (drop (at + n) old))
    unmade = subst (MakesIf (take (at + n) old) mid (product_next (part_forms negated ys) (drop (at + n) old))) is_none unmakes

    cut_old : cut ≡ take (at + n) old
    cut_old = is_cut ∙ ap (take (at + n)) unmade.left ∙ cut_again at old n at_in fits unmade.choices

    front : take at cut ≡ take at old
    front = ap (take at) cut_old ∙ cut_front at old n at_in fits

    first_half : product_next (part_forms negated parts) (drop at old) ≡ both (product_next (part_forms negated xs) (drop at cut)) (product_first (part_forms negated ys))
    first_half =
        both_halves
        ∙ ap (λ o. or_else (option_map (λ z. take n (drop at old) ++ z) o) (both (product_next (part_forms negated xs) (take n (drop at old))) (product_first (part_forms negated ys)))) (ap (product_next (part_forms negated ys)) (sym (behind_is at old n at_in fits)) ∙ unmade.none)
        ∙ ap (λ q. both (product_next (part_forms negated xs) q) (product_first (part_forms negated ys))) (sym (ap (drop at) cut_old ∙ cut_behind at old n at_in fits))

    -- and the first half has none either
    pub next_none : (new : List ℕ) (told : Bool) → told ≡ false → MakesIf (take at cut) new (product_next (part_forms negated xs) (drop at cut)) told → Unmade (take at old) new (product_next (part_forms negated parts) (drop at old))
    next_none new told e makes =
        let no_first : Unmade (take at cut) new (product_next (part_forms negated xs) (drop at cut)) = subst (MakesIf (take at cut) new (product_next (part_forms negated xs) (drop at cut))) e makes in
        record {
          choices = no_first.choices;
          left = no_first.left ∙ ap (λ l. l ++ no_first.choices) front;
          none = first_half ∙ ap (λ o. both o (product_first (part_forms negated ys))) no_first.none;
        }

    -- the first half has, and the second has first ones or not
    pub next_in_front : {E : Type 0} (kept new : List ℕ) (told : Bool) (result : Result Bool E) → told ≡ true → MakesIf (take at cut) kept (product_next (part_forms negated xs) (drop at cut)) told →
        Makes result kept new (product_first (part_forms negated ys)) → Makes result (take at old) new (product_next (part_forms negated parts) (drop at old))
    next_in_front kept new told (Err x) e makes begun = tt
    next_in_front kept new told (Ok true) e makes begun =
        let made : Made (take at cut) kept (product_next (part_forms negated xs) (drop at cut)) = subst (MakesIf (take at cut) kept (product_next (part_forms negated xs) (drop at cut))) e makes in
        record {
          choices = made.choices ++ begun.choices;
          left = begun.left ∙ ap (λ l. l ++ begun.choices) (made.left ∙ ap (λ l. l ++ made.choices) front) ∙ append_assoc (take at old) made.choices begun.choices;
          are = first_half ∙ (λ i. both (made.are i) (begun.are i));
        }
    next_in_front kept new told (Ok false) e makes begun =
        let made : Made (take at cut) kept (product_next (part_forms negated xs) (drop at cut)) = subst (MakesIf (take at cut) kept (product_next (part_forms negated xs) (drop at cut))) e makes in
        record {
          choices = made.choices ++ begun.choices;
          left = begun.left ∙ ap (λ l. l ++ begun.choices) (made.left ∙ ap (λ l. l ++ made.choices) front) ∙ append_assoc (take at old) made.choices begun.choices;
          none = first_half ∙ (λ i. both (made.are i) (begun.none i));
        }

-- parts that are none, and a single one
pub no_parts : (parts : List CfgExpr) → length parts < 1 → parts ≡ []
no_parts [] h = refl
no_parts (x ∷ xs) h = absurd (omega arith)

pub one_part : (parts : List CfgExpr) (part : CfgExpr) → 1 ≤ length parts → length parts < 2 → part ≡ get_or parts 0 part → parts ≡ part ∷ []
one_part [] part h k is = absurd (omega arith)
one_part (x ∷ []) part h k is = ap (λ e. e ∷ []) (sym is)
one_part (x ∷ y ∷ more) part h k is = absurd (omega arith)

-- the conjunction of a sum is that of its chosen part
pub sum_chosen_at : (negated : Bool) (parts : List CfgExpr) (q : List ℕ) (i : ℕ) (p : List ℕ) (part : CfgExpr) → q ≡ i ∷ p → i < length parts → part ≡ get_or parts i part → chosen (Sum (part_forms negated parts)) q ≡ chosen (form part negated) p
sum_chosen_at negated parts q i p part split within is = ap (chosen (Sum (part_forms negated parts))) split ∙ at_part parts i within is
  where
    at_part : (parts : List CfgExpr) (i : ℕ) → i < length parts → part ≡ get_or parts i part → sum_chosen (part_forms negated parts) i p ≡ chosen (form part negated) p
    at_part [] i within is = absurd (omega arith)
    at_part (x ∷ xs) zero within is = ap (λ e. chosen (form e negated) p) (sym is)
    at_part (x ∷ xs) (suc i) within is = at_part xs i (omega arith) is

pub sum_chosen_past : (negated : Bool) (parts : List CfgExpr) (q : List ℕ) (i : ℕ) (p : List ℕ) → q ≡ i ∷ p → length parts ≤ i → chosen (Sum (part_forms negated parts)) q ≡ []
sum_chosen_past negated parts q i p split past = ap (chosen (Sum (part_forms negated parts))) split ∙ none parts i past
  where
    none : (parts : List CfgExpr) (i : ℕ) → length parts ≤ i → sum_chosen (part_forms negated parts) i p ≡ []
    none [] i past = refl
    none (x ∷ xs) zero past = absurd (omega arith)
    none (x ∷ xs) (suc i) past = none xs i (omega arith)
