-- The walk over the conjunctions: the next choices are those of the next conjunction.
use Rattle.std.proofs.Common.{◌≡◌, ℕ, suc, ◌+◌, ◌≤◌, true, false, List, [], ◌∷◌, ◌++◌, length, map, take, drop, Option, Some, None, refl, sym, ap, subst, ◌∙◌, append_assoc, arith, length-append}
use Rattle.std.specs.Option.{option_map}
use Rattle.std.specs.List.{AllByRecursion}
use Rattle.std.specs.Str.{bytes_eq}
use Rattle.std.specs.Cmp.Lexicographic.{bytes_decides}
use Rattle.cfg_dnf.specs.Conjunctions.{times}
use Rattle.cfg_dnf.specs.Form.{Form, Lit, Sum, Product, Forms, End, More, listed, sum_listed, product_listed, paths, sum_paths, product_paths, ahead, later, width, sum_width, product_width, chosen, product_chosen, or_else, both, first, sum_first, product_first, turn, next, product_next, size, sizes, behind}
use Rattle.cfg_dnf.specs.Laws.{head}
use Rattle.cfg_dnf.proofs.Lists.{map_joined, map_twice, map_alike, each, each_joined, each_mapped, each_so, each_times, map_times}

-- a list comes out, one after the other, from `start` by `step`
abbrev pub Comes : {P : Type 0} → (P → Option P) → Option P → List P → Type 0
Comes step start [] = start ≡ None
Comes step start (p ∷ ps) = (start ≡ Some p) × Comes step (step p) ps

-- a list comes out in front of another one
comes_front : {P Q : Type 0} (g : P → Q) (step : P → Option P) (on : Q → Option Q) (tail : Option Q) (ts : List Q) → ((p : P) → on (g p) ≡ or_else (option_map g (step p)) tail) →
    (start : Option P) (ps : List P) → Comes step start ps → Comes on tail ts → Comes on (or_else (option_map g start) tail) (map g ps ++ ts)
comes_front g step on tail ts law start [] c d = subst (λ o. Comes on (or_else (option_map g o) tail) ts) (sym c) d
comes_front g step on tail ts law start (p ∷ ps) c d =
    (ap (λ o. or_else (option_map g o) tail) c.0, subst (λ o. Comes on o (map g ps ++ ts)) (sym (law p)) (comes_front g step on tail ts law (step p) ps c.1 d))

-- a list comes out mapped
comes_mapped : {P Q : Type 0} (g : P → Q) (step : P → Option P) (on : Q → Option Q) → ((p : P) → on (g p) ≡ option_map g (step p)) →
    (start : Option P) (ps : List P) → Comes step start ps → Comes on (option_map g start) (map g ps)
comes_mapped g step on law start [] c = ap (option_map g) c
comes_mapped g step on law start (p ∷ ps) c =
    (ap (option_map g) c.0, subst (λ o. Comes on o (map g ps)) (sym (law p)) (comes_mapped g step on law (step p) ps c.1))

-- the choices of a part are the front of the choices, whatever comes behind
abbrev pub Cut : (List ℕ → ℕ) → List ℕ → Type 0
Cut w p = (rest : List ℕ) → w (p ++ rest) ≡ length p

taken : (x y : List ℕ) → take (length x) (x ++ y) ≡ x
taken [] y = refl
taken (i ∷ x) y = ap (λ r. i ∷ r) (taken x y)

left : (x y : List ℕ) → drop (length x) (x ++ y) ≡ y
left [] y = refl
left (i ∷ x) y = left x y

both_first : (x : List ℕ) (o n : Option (List ℕ)) → or_else (option_map (λ z. x ++ z) o) (both n o) ≡ both (Some x) o
both_first x None None = refl
both_first x None (Some z) = refl
both_first x (Some y) n = refl

module _ (w : List ℕ → ℕ) (step_x step_y : List ℕ → Option (List ℕ)) (first_y : Option (List ℕ)) where
  abbrev turned : List ℕ → Option (List ℕ)
  turned p = turn step_y first_y step_x (take (w p) p) (drop (w p) p)

  turned_at : (x y : List ℕ) → Cut w x → turned (x ++ y) ≡ or_else (option_map (λ z. x ++ z) (step_y y)) (both (step_x x) first_y)
  turned_at x y cut =
      ap (λ n. turn step_y first_y step_x (take n (x ++ y)) (drop n (x ++ y))) (cut y)
      ∙ ap (λ a. turn step_y first_y step_x a (drop (length x) (x ++ y))) (taken x y)
      ∙ ap (λ b. turn step_y first_y step_x x b) (left x y)

  -- every choice from two lists comes out
  comes_times : (start : Option (List ℕ)) (xs ys : List (List ℕ)) → Comes step_x start xs → Comes step_y first_y ys → AllByRecursion (Cut w) xs → Comes turned (both start first_y) (times xs ys)
  comes_times start [] ys c d cut = ap (λ o. both o first_y) c
  comes_times start (x ∷ xs) ys c d cut =
      subst (λ o. Comes turned (both o first_y) (times (x ∷ xs) ys)) (sym c.0)
      (subst (λ o. Comes turned o (times (x ∷ xs) ys)) (both_first x first_y (step_x x))
      (comes_front (λ y. x ++ y) step_y turned (both (step_x x) first_y) (times xs ys) (λ y. turned_at x y cut.0) first_y ys d (comes_times (step_x x) xs ys c.1 d cut.1)))

none_cut : (L : Type 0) → Cut (product_width {L = L} End) []
none_cut L rest = refl

module _ {L : Type 0} where
  later_cut : (f : Form L) (fs : Forms L) (p : List ℕ) → Cut (width (Sum fs)) p → Cut (width (Sum (More f fs))) (later p)
  later_cut f fs [] cut rest = let no : suc (sum_width fs 0 []) ≡ 0 = cut (0 ∷ []) in absurd (omega arith)
  later_cut f fs (i ∷ p) cut rest = cut rest

  ahead_cut : (f : Form L) (fs : Forms L) (p : List ℕ) → Cut (width f) p → Cut (width (Sum (More f fs))) (ahead 0 p)
  ahead_cut f fs p cut rest = ap suc (cut rest)

  times_cut : (f : Form L) (fs : Forms L) (x y : List ℕ) → Cut (width f) x → Cut (product_width fs) y → Cut (product_width (More f fs)) (x ++ y)
  times_cut f fs x y cut_x cut_y rest =
      ap (product_width (More f fs)) (append_assoc x y rest)
      ∙ ap (λ n. n + product_width fs (drop n (x ++ (y ++ rest)))) (cut_x (y ++ rest))
      ∙ ap (λ q. length x + product_width fs q) (left x (y ++ rest))
      ∙ ap (λ n. length x + n) (cut_y rest)
      ∙ sym (length-append x y)

  lit_cut : (l : L) → Cut (width (Lit l)) []
  lit_cut l rest = refl

  mutual
    pub cuts : (f : Form L) → AllByRecursion (Cut (width f)) (paths f)
    cuts (Lit l) = (lit_cut l, tt)
    cuts (Sum fs) = sum_cuts fs
    cuts (Product fs) = product_cuts fs

    sum_cuts : (fs : Forms L) → AllByRecursion (Cut (width (Sum fs))) (sum_paths fs)
    sum_cuts End = tt
    sum_cuts (More f fs) =
        each_joined _ (map (ahead 0) (paths f)) (map later (sum_paths fs))
        (each_mapped _ (ahead 0) (paths f) (each_so _ _ (ahead_cut f fs) (paths f) (cuts f)))
        (each_mapped _ later (sum_paths fs) (each_so _ _ (later_cut f fs) (sum_paths fs) (sum_cuts fs)))

    product_cuts : (fs : Forms L) → AllByRecursion (Cut (product_width fs)) (product_paths fs)
    product_cuts End = (none_cut L, tt)
    product_cuts (More f fs) = each_times _ _ _ (times_cut f fs) (paths f) (product_paths fs) (cuts f) (product_cuts fs)

  later_step : (f : Form L) (fs : Forms L) (p : List ℕ) → next (Sum (More f fs)) (later p) ≡ option_map later (next (Sum fs) p)
  later_step f fs [] = refl
  later_step f fs (i ∷ p) = refl

  product_comes : (f : Form L) (fs : Forms L) → Comes (next f) (first f) (paths f) → Comes (product_next fs) (product_first fs) (product_paths fs) → Comes (product_next (More f fs)) (product_first (More f fs)) (product_paths (More f fs))
  product_comes f fs c d = comes_times (width f) (next f) (product_next fs) (product_first fs) (first f) (paths f) (product_paths fs) c d (cuts f)

  -- the choices of the conjunctions come out from the first ones by the next ones
  mutual
    pub walks : (f : Form L) → Comes (next f) (first f) (paths f)
    walks (Lit l) = (refl, refl)
    walks (Sum fs) = sum_walks fs
    walks (Product fs) = product_walks fs

    sum_walks : (fs : Forms L) → Comes (next (Sum fs)) (sum_first fs) (sum_paths fs)
    sum_walks End = refl
    sum_walks (More f fs) =
        comes_front (ahead 0) (next f) (next (Sum (More f fs))) (option_map later (sum_first fs)) (map later (sum_paths fs)) (λ p. refl) (first f) (paths f) (walks f)
        (comes_mapped later (next (Sum fs)) (next (Sum (More f fs))) (later_step f fs) (sum_first fs) (sum_paths fs) (sum_walks fs))

    product_walks : (fs : Forms L) → Comes (product_next fs) (product_first fs) (product_paths fs)
    product_walks End = (refl, refl)
    product_walks (More f fs) = product_comes f fs (walks f) (product_walks fs)

  later_chosen : (f : Form L) (fs : Forms L) (p : List ℕ) → chosen (Sum (More f fs)) (later p) ≡ chosen (Sum fs) p
  later_chosen f fs [] = refl
  later_chosen f fs (i ∷ p) = refl

  joined_chosen : (f : Form L) (fs : Forms L) (x : List ℕ) → Cut (width f) x → (y : List ℕ) → product_chosen (More f fs) (x ++ y) ≡ chosen f x ++ product_chosen fs y
  joined_chosen f fs x cut y =
      ap (λ n. chosen f (take n (x ++ y)) ++ product_chosen fs (drop n (x ++ y))) (cut y)
      ∙ ap (λ a. chosen f a ++ product_chosen fs (drop (length x) (x ++ y))) (taken x y)
      ∙ ap (λ b. chosen f x ++ product_chosen fs b) (left x y)

  -- each list of choices chooses the conjunction at its place
  mutual
    pub chooses : (f : Form L) → map (chosen f) (paths f) ≡ listed f
    chooses (Lit l) = refl
    chooses (Sum fs) = sum_chooses fs
    chooses (Product fs) = product_chooses fs

    sum_chooses : (fs : Forms L) → map (chosen (Sum fs)) (sum_paths fs) ≡ sum_listed fs
    sum_chooses End = refl
    sum_chooses (More f fs) =
        map_joined (chosen (Sum (More f fs))) (map (ahead 0) (paths f)) (map later (sum_paths fs))
        ∙ ap (λ r. r ++ map (chosen (Sum (More f fs))) (map later (sum_paths fs))) (map_twice (chosen (Sum (More f fs))) (ahead 0) (paths f) ∙ chooses f)
        ∙ ap (λ r. listed f ++ r) (map_twice (chosen (Sum (More f fs))) later (sum_paths fs) ∙ map_alike _ _ (sum_paths fs) (each _ (later_chosen f fs) (sum_paths fs)) ∙ sum_chooses fs)

    product_chooses : (fs : Forms L) → map (product_chosen fs) (product_paths fs) ≡ product_listed fs
    product_chooses End = refl
    product_chooses (More f fs) =
        map_times (product_chosen (More f fs)) (chosen f) (product_chosen fs) (paths f) (product_paths fs) (each_so _ _ (joined_chosen f fs) (paths f) (cuts f))
        ∙ ap (λ a. times a (map (product_chosen fs) (product_paths fs))) (chooses f)
        ∙ ap (λ b. times (listed f) b) (product_chooses fs)

-- what comes out is one list
one_list : {P : Type 0} (step : P → Option P) (start : Option P) (ps qs : List P) → Comes step start ps → Comes step start qs → ps ≡ qs
one_list step start [] [] c d = refl
one_list step start [] (q ∷ qs) c d = let no : None ≡ Some q = sym c ∙ d.0 in absurd cc
one_list step start (p ∷ ps) [] c d = let no : None ≡ Some p = sym d ∙ c.0 in absurd cc
one_list step start (p ∷ ps) (q ∷ qs) c d =
    let same : Some p ≡ Some q = sym c.0 ∙ d.0 in
    let head : p ≡ q = cc in
    let rest : Comes step (step p) qs = subst (λ r. Comes step (step r) qs) (sym head) d.1 in
    let tail : ps ≡ qs = one_list step (step p) ps qs c.1 rest in
    cc

-- what comes behind one of them comes out from it
comes_behind : {P : Type 0} (step : P → Option P) (start : Option P) (before : List P) (p : P) (after : List P) → Comes step start (before ++ p ∷ after) → Comes step (step p) after
comes_behind step start [] p after c = c.1
comes_behind step start (q ∷ before) p after c = comes_behind step (step q) before p after c.1

comes_first : {P : Type 0} (step : P → Option P) (start : Option P) (ps : List P) → Comes step start ps → start ≡ head ps
comes_first step start [] c = c
comes_first step start (p ∷ ps) c = c.0

same_text : (p : List ℕ) → bytes_eq p p ≡ true
same_text p = (bytes_decides p p).1 refl

-- those behind one of the choices come out from it
comes_found : (step : List ℕ → Option (List ℕ)) (start : Option (List ℕ)) (before : List (List ℕ)) (p : List ℕ) (after : List (List ℕ)) → Comes step start (before ++ p ∷ after) → Comes step (step p) (behind p (before ++ p ∷ after))
comes_found step start [] p after c = subst (λ b. Comes step (step p) (elim b [ true ↦ after | false ↦ behind p after ])) (sym (same_text p)) c.1
comes_found step start (q ∷ before) p after c =
    elim (bytes_eq p q) as (λ b. bytes_eq p q ≡ b → Comes step (step p) (elim b [ true ↦ before ++ p ∷ after | false ↦ behind p (before ++ p ∷ after) ])) [
      | true ↦ λ e. subst (λ r. Comes step (step r) (before ++ p ∷ after)) (sym ((bytes_decides p q).0 e)) c.1
      | false ↦ λ e. comes_found step (step q) before p after c.1
    ] refl

module _ {L : Type 0} (f : Form L) where
  -- the first choices are those of the first conjunction
  pub begins : first f ≡ head (paths f)
  begins = comes_first (next f) (first f) (paths f) (walks f)

  -- the next choices are those of the next conjunction, and behind them are the others
  pub goes_on : (before : List (List ℕ)) (p : List ℕ) (after : List (List ℕ)) → paths f ≡ before ++ p ∷ after → (next f p ≡ head after) × (behind p (paths f) ≡ after)
  goes_on before p after e =
      let comes : Comes (next f) (first f) (before ++ p ∷ after) = subst (Comes (next f) (first f)) e (walks f) in
      let rest = comes_behind (next f) (first f) before p after comes in
      let found = comes_found (next f) (first f) before p after comes in
      (comes_first (next f) (next f p) after rest, ap (behind p) e ∙ one_list (next f) (next f p) (behind p (before ++ p ∷ after)) after found rest)

length_later : (p : List ℕ) → length (later p) ≡ length p
length_later [] = refl
length_later (i ∷ p) = refl

module _ {L : Type 0} where
  -- there are no more choices than parts
  mutual
    pub bounded : (f : Form L) → AllByRecursion (λ p. length p ≤ size f) (paths f)
    bounded (Lit l) = (omega arith, tt)
    bounded (Sum fs) = sum_bounded fs
    bounded (Product fs) = each_so _ _ (λ p (h : length p ≤ sizes fs). let k : length p ≤ suc (sizes fs) = omega arith in k) (product_paths fs) (product_bounded fs)

    sum_bounded : (fs : Forms L) → AllByRecursion (λ p. length p ≤ suc (sizes fs)) (sum_paths fs)
    sum_bounded End = tt
    sum_bounded (More f fs) =
        each_joined _ (map (ahead 0) (paths f)) (map later (sum_paths fs))
        (each_mapped _ (ahead 0) (paths f) (each_so _ _ (λ p (h : length p ≤ size f). let k : suc (length p) ≤ suc (size f + sizes fs) = omega arith in k) (paths f) (bounded f)))
        (each_mapped _ later (sum_paths fs) (each_so _ _ (λ p (h : length p ≤ suc (sizes fs)). let k : length (later p) ≤ suc (size f + sizes fs) = omega (arith, length_later p) in k) (sum_paths fs) (sum_bounded fs)))

    product_bounded : (fs : Forms L) → AllByRecursion (λ p. length p ≤ sizes fs) (product_paths fs)
    product_bounded End = (omega arith, tt)
    product_bounded (More f fs) = each_times _ _ _ (λ x y (h : length x ≤ size f) (k : length y ≤ sizes fs). let m : length (x ++ y) ≤ size f + sizes fs = omega (arith, length-append x y) in m) (paths f) (product_paths fs) (bounded f) (product_bounded fs)
