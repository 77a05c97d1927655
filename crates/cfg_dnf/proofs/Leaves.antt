-- What is found by recursion over a predicate is what its conjunctions say.
use Rattle.std.proofs.Common.{◌≡◌, Bool, true, false, ◌&&◌, ◌||◌, if◌then◌else◌, List, [], ◌∷◌, ◌++◌, map, refl, sym, ap, ◌∙◌}
use Rattle.std.specs.List.{flat_map, list_any, list_all}
use Rattle.cfg_dnf.specs.Conjunctions.{times}
use Rattle.cfg_dnf.specs.Form.{Form, Lit, Sum, Product, Forms, End, More, listed, sum_listed, product_listed}
use Rattle.cfg_dnf.specs.Leaves.{has, some_has, all_have, passes, some_passes, all_pass, counted, all_counted}

or_none : (a : Bool) → (a || false) ≡ a
or_none true = refl
or_none false = refl

and_all : (a : Bool) → (a && true) ≡ a
and_all true = refl
and_all false = refl

or_moved : (a b c : Bool) → ((a || b) || c) ≡ (a || (b || c))
or_moved true b c = refl
or_moved false b c = refl

and_moved : (a b c : Bool) → ((a && b) && c) ≡ (a && (b && c))
and_moved true b c = refl
and_moved false b c = refl

and_over : (a b c : Bool) → ((a && b) || (a && c)) ≡ (a && (b || c))
and_over true b c = refl
and_over false b c = refl

over_and : (a b c : Bool) → ((a && c) || (b && c)) ≡ ((a || b) && c)
over_and true true true = refl
over_and true true false = refl
over_and true false true = refl
over_and true false false = refl
over_and false b c = refl

pub any_joined : {A : Type 0} (test : A → Bool) (xs ys : List A) → list_any test (xs ++ ys) ≡ (list_any test xs || list_any test ys)
any_joined test [] ys = refl
any_joined test (x ∷ xs) ys = ap (λ r. test x || r) (any_joined test xs ys) ∙ sym (or_moved (test x) (list_any test xs) (list_any test ys))

pub all_joined : {A : Type 0} (test : A → Bool) (xs ys : List A) → list_all test (xs ++ ys) ≡ (list_all test xs && list_all test ys)
all_joined test [] ys = refl
all_joined test (x ∷ xs) ys = ap (λ r. test x && r) (all_joined test xs ys) ∙ sym (and_moved (test x) (list_all test xs) (list_all test ys))

pub any_flat : {A : Type 0} (test : A → Bool) (xss : List (List A)) → list_any test (flat_map (λ xs. xs) xss) ≡ list_any (list_any test) xss
any_flat test [] = refl
any_flat test (xs ∷ xss) = any_joined test xs (flat_map (λ xs. xs) xss) ∙ ap (λ r. list_any test xs || r) (any_flat test xss)

-- one of the choices passes whole where one of each list does
module _ {A : Type 0} (test : A → Bool) where
  whole_ahead : (x : List A) (ys : List (List A)) → list_any (list_all test) (map (λ y. x ++ y) ys) ≡ (list_all test x && list_any (list_all test) ys)
  whole_ahead x [] = elim (list_all test x) as (λ b. false ≡ (b && false)) [ true ↦ refl | false ↦ refl ]
  whole_ahead x (y ∷ ys) =
      ap (λ r. r || list_any (list_all test) (map (λ y. x ++ y) ys)) (all_joined test x y)
      ∙ ap (λ r. (list_all test x && list_all test y) || r) (whole_ahead x ys)
      ∙ and_over (list_all test x) (list_all test y) (list_any (list_all test) ys)

  whole_times : (xs ys : List (List A)) → list_any (list_all test) (times xs ys) ≡ (list_any (list_all test) xs && list_any (list_all test) ys)
  whole_times [] ys = refl
  whole_times (x ∷ xs) ys =
      any_joined (list_all test) (map (λ y. x ++ y) ys) (times xs ys)
      ∙ ap (λ r. r || list_any (list_all test) (times xs ys)) (whole_ahead x ys)
      ∙ ap (λ r. (list_all test x && list_any (list_all test) ys) || r) (whole_times xs ys)
      ∙ over_and (list_all test x) (list_any (list_all test) xs) (list_any (list_all test) ys)

module _ {L : Type 0} (test : L → Bool) where
  mutual
    -- whether one conjunction passes with all of its literals
    pub passed : (f : Form L) → list_any (list_all test) (listed f) ≡ passes test f
    passed (Lit l) = or_none (test l && true) ∙ and_all (test l)
    passed (Sum fs) = sum_passed fs
    passed (Product fs) = product_passed fs

    sum_passed : (fs : Forms L) → list_any (list_all test) (sum_listed fs) ≡ some_passes test fs
    sum_passed End = refl
    sum_passed (More f fs) = any_joined (list_all test) (listed f) (sum_listed fs) ∙ ap (λ r. r || list_any (list_all test) (sum_listed fs)) (passed f) ∙ ap (λ r. passes test f || r) (sum_passed fs)

    product_passed : (fs : Forms L) → list_any (list_all test) (product_listed fs) ≡ all_pass test fs
    product_passed End = refl
    product_passed (More f fs) = whole_times test (listed f) (product_listed fs) ∙ ap (λ r. r && list_any (list_all test) (product_listed fs)) (passed f) ∙ ap (λ r. passes test f && r) (product_passed fs)

-- whether there is a choice from both lists
some_mapped : {A B : Type 0} (g : A → B) (xs : List A) → list_any (λ y. true) (map g xs) ≡ list_any (λ x. true) xs
some_mapped g [] = refl
some_mapped g (x ∷ xs) = refl

some_times : {A : Type 0} (xs ys : List (List A)) → list_any (λ z. true) (times xs ys) ≡ (list_any (λ x. true) xs && list_any (λ y. true) ys)
some_times [] ys = refl
some_times (x ∷ xs) ys =
    any_joined (λ z. true) (map (λ y. x ++ y) ys) (times xs ys)
    ∙ ap (λ r. r || list_any (λ z. true) (times xs ys)) (some_mapped (λ y. x ++ y) ys)
    ∙ ap (λ r. list_any (λ y. true) ys || r) (some_times xs ys)
    ∙ absorbed (list_any (λ y. true) ys) (list_any (λ x. true) xs)
  where
    absorbed : (b a : Bool) → (b || (a && b)) ≡ b
    absorbed true a = refl
    absorbed false true = refl
    absorbed false false = refl

module _ {L : Type 0} where
  mutual
    -- whether there is a conjunction
    pub had : (f : Form L) → list_any (λ c. true) (listed f) ≡ has f
    had (Lit l) = refl
    had (Sum fs) = sum_had fs
    had (Product fs) = product_had fs

    sum_had : (fs : Forms L) → list_any (λ c. true) (sum_listed fs) ≡ some_has fs
    sum_had End = refl
    sum_had (More f fs) = any_joined (λ c. true) (listed f) (sum_listed fs) ∙ ap (λ r. r || list_any (λ c. true) (sum_listed fs)) (had f) ∙ ap (λ r. has f || r) (sum_had fs)

    product_had : (fs : Forms L) → list_any (λ c. true) (product_listed fs) ≡ all_have fs
    product_had End = refl
    product_had (More f fs) = some_times (listed f) (product_listed fs) ∙ ap (λ r. r && list_any (λ c. true) (product_listed fs)) (had f) ∙ ap (λ r. has f && r) (product_had fs)

-- one literal of the choices passes where it is one of the first list and the second has an element, or the other way round
module _ {A : Type 0} (test : A → Bool) where
  part_ahead : (x : List A) (ys : List (List A)) → list_any (list_any test) (map (λ y. x ++ y) ys) ≡ ((list_any test x && list_any (λ y. true) ys) || list_any (list_any test) ys)
  part_ahead x [] = elim (list_any test x) as (λ b. false ≡ ((b && false) || false)) [ true ↦ refl | false ↦ refl ]
  part_ahead x (y ∷ ys) =
      ap (λ r. r || list_any (list_any test) (map (λ y. x ++ y) ys)) (any_joined test x y)
      ∙ ap (λ r. (list_any test x || list_any test y) || r) (part_ahead x ys)
      ∙ spread (list_any test x) (list_any test y) (list_any (λ y. true) ys) (list_any (list_any test) ys)
    where
      spread : (a b n c : Bool) → ((a || b) || ((a && n) || c)) ≡ ((a && true) || (b || c))
      spread true b n c = refl
      spread false true n c = refl
      spread false false n c = refl

  part_times : (xs ys : List (List A)) → list_any (list_any test) (times xs ys) ≡ ((list_any (list_any test) xs && list_any (λ y. true) ys) || (list_any (λ x. true) xs && list_any (list_any test) ys))
  part_times [] ys = refl
  part_times (x ∷ xs) ys =
      any_joined (list_any test) (map (λ y. x ++ y) ys) (times xs ys)
      ∙ ap (λ r. r || list_any (list_any test) (times xs ys)) (part_ahead x ys)
      ∙ ap (λ r. ((list_any test x && list_any (λ y. true) ys) || list_any (list_any test) ys) || r) (part_times xs ys)
      ∙ spread (list_any test x) (list_any (list_any test) xs) (list_any (λ y. true) ys) (list_any (λ x. true) xs) (list_any (list_any test) ys)
    where
      spread : (a b n k c : Bool) → (((a && n) || c) || ((b && n) || (k && c))) ≡ (((a || b) && n) || (true && c))
      spread true true true k c = refl
      spread true true false k true = refl
      spread true true false true false = refl
      spread true true false false false = refl
      spread true false true k c = refl
      spread true false false k true = refl
      spread true false false true false = refl
      spread true false false false false = refl
      spread false true true k true = refl
      spread false true true k false = refl
      spread false true false k true = refl
      spread false true false true false = refl
      spread false true false false false = refl
      spread false false n k true = refl
      spread false false n true false = refl
      spread false false n false false = refl

  -- where there is no conjunction, no literal of one passes
  none_of_none : (xs : List (List A)) (h c : Bool) → ((list_any (list_any test) xs && h) || (list_any (λ x. true) xs && (h && c))) ≡ ((list_any (λ x. true) xs && h) && (list_any (list_any test) xs || c))
  none_of_none [] h c = refl
  none_of_none (x ∷ xs) true c = joined (list_any test x || list_any (list_any test) xs) c
    where
      joined : (a c : Bool) → ((a && true) || c) ≡ (a || c)
      joined true c = refl
      joined false c = refl
  none_of_none (x ∷ xs) false c = none (list_any test x || list_any (list_any test) xs)
    where
      none : (a : Bool) → ((a && false) || false) ≡ false
      none true = refl
      none false = refl

module _ {L : Type 0} (test : L → Bool) where
  only_if : (b : Bool) (xs : List L) → (b && list_any test xs) ≡ list_any test (if b then xs else [])
  only_if true xs = refl
  only_if false xs = refl

  mutual
    -- whether a literal of a conjunction passes
    pub counts : (f : Form L) → list_any (list_any test) (listed f) ≡ list_any test (counted f)
    counts (Lit l) = or_none (test l || false)
    counts (Sum fs) = sum_counts fs
    counts (Product fs) = product_counts fs ∙ only_if (all_have fs) (all_counted fs)

    sum_counts : (fs : Forms L) → list_any (list_any test) (sum_listed fs) ≡ list_any test (all_counted fs)
    sum_counts End = refl
    sum_counts (More f fs) =
        any_joined (list_any test) (listed f) (sum_listed fs)
        ∙ ap (λ r. r || list_any (list_any test) (sum_listed fs)) (counts f)
        ∙ ap (λ r. list_any test (counted f) || r) (sum_counts fs)
        ∙ sym (any_joined test (counted f) (all_counted fs))

    product_counts : (fs : Forms L) → list_any (list_any test) (product_listed fs) ≡ (all_have fs && list_any test (all_counted fs))
    product_counts End = refl
    product_counts (More f fs) =
        part_times test (listed f) (product_listed fs)
        ∙ ap (λ n. (list_any (list_any test) (listed f) && n) || (list_any (λ x. true) (listed f) && list_any (list_any test) (product_listed fs))) (product_had fs)
        ∙ ap (λ r. (list_any (list_any test) (listed f) && all_have fs) || (list_any (λ x. true) (listed f) && r)) (product_counts fs)
        ∙ none_of_none test (listed f) (all_have fs) (list_any test (all_counted fs))
        ∙ ap (λ k. (k && all_have fs) && (list_any (list_any test) (listed f) || list_any test (all_counted fs))) (had f)
        ∙ ap (λ r. (has f && all_have fs) && (r || list_any test (all_counted fs))) (counts f)
        ∙ ap (λ r. (has f && all_have fs) && r) (sym (any_joined test (counted f) (all_counted fs)))
