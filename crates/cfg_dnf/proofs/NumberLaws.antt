-- The conjunction of a number.
use Rattle.std.proofs.Common.{◌≡◌, ℕ, zero, suc, ◌+◌, ◌-◌, ◌*◌, ◌/◌, ◌%◌, ◌<◌, ◌≤◌, true, false, if◌then◌else◌, List, [], ◌∷◌, ◌++◌, length, map, drop, min, nat_lt, ◌⊎◌, inl, inr, refl, sym, ap, subst, ◌∙◌, append_assoc, arith, length-append}
use Rattle.std.proofs.Math.Nat.{suc-mul, zero-mul, mul_comm, mul_assoc, mod-lt, div-lt_iff_lt-mul, div-div-eq-div-mul, mod-eq_of_lt, div-eq_of_lt, mul-suc}
use Rattle.std.proofs.Math.Arith.{mod-mul}
use Rattle.std.proofs.lemmas.Nat.{div-add-mod', div-mul-add, mod-mul-add}
use Rattle.std.proofs.lemmas.Bool.{ltb-true, ltb-false}
use Rattle.std.proofs.lemmas.List.{length-map}
use Rattle.cfg_dnf.specs.Conjunctions.{times}
use Rattle.cfg_dnf.specs.Form.{Form, Lit, Sum, Product, Forms, End, More, paths, sum_paths, product_paths, ahead, later}
use Rattle.cfg_dnf.specs.Numbered.{number_limit}
use Rattle.cfg_dnf.specs.Numbers.{IsAt, count, sum_count, product_count, choices_at, sum_choices_at, product_choices_at}
use Rattle.cfg_dnf.proofs.Going.{joined}

at_front : {A : Type 0} (x : A) (n : ℕ) (xs ys : List A) → IsAt x n xs → IsAt x n (xs ++ ys)
at_front x n [] ys at = absurd at
at_front x zero (z ∷ zs) ys at = at
at_front x (suc n) (z ∷ zs) ys at = at_front x n zs ys at

at_behind : {A : Type 0} (x : A) (m n : ℕ) (xs ys : List A) → m ≡ length xs + n → IsAt x n ys → IsAt x m (xs ++ ys)
at_behind x m n [] ys is at = let e : n ≡ m = omega (arith, is) in subst (λ k. IsAt x k ys) e at
at_behind x zero n (z ∷ zs) ys is at = absurd (omega (arith, is))
at_behind x (suc m) n (z ∷ zs) ys is at = at_behind x m n zs ys (omega (arith, is)) at

pub at_map : {A B : Type 0} (g : A → B) (x : A) (n : ℕ) (xs : List A) → IsAt x n xs → IsAt (g x) n (map g xs)
at_map g x n [] at = absurd at
at_map g x zero (z ∷ zs) at = ap g at
at_map g x (suc n) (z ∷ zs) at = at_map g x n zs at

-- a choice from two lists stands where that from the second one has gone round for each in front of that from the first one
at_times : {A : Type 0} (x y : List A) (m i j : ℕ) (xs ys : List (List A)) → m ≡ i * length ys + j → IsAt x i xs → IsAt y j ys → IsAt (x ++ y) m (times xs ys)
at_times x y m i j [] ys is at on = absurd at
at_times x y m zero j (z ∷ zs) ys is at on =
    let e : j ≡ m = sym (is ∙ ap (λ k. k + j) (zero-mul (length ys)) ∙ (let z : 0 + j ≡ j = omega arith in z)) in
    at_front (x ++ y) m (map (λ y. z ++ y) ys) (times zs ys) (subst (λ k. IsAt (x ++ y) k (map (λ y. z ++ y) ys)) e (subst (λ w. IsAt (w ++ y) j (map (λ y. z ++ y) ys)) at (at_map (λ y. z ++ y) y j ys on)))
at_times x y m (suc i) j (z ∷ zs) ys is at on =
    let l : length (map (λ y. z ++ y) ys) ≡ length ys = length-map ys (λ y. z ++ y) in
    let s : suc i * length ys ≡ i * length ys + length ys = suc-mul i (length ys) in
    at_behind (x ++ y) m (i * length ys + j) (map (λ y. z ++ y) ys) (times zs ys) (omega (arith, is, l, s)) (at_times x y (i * length ys + j) i j zs ys refl at on)

length_times : {A : Type 0} (xs ys : List (List A)) → length (times xs ys) ≡ length xs * length ys
length_times [] ys = sym (zero-mul (length ys))
length_times (x ∷ xs) ys =
    let e : length (map (λ y. x ++ y) ys ++ times xs ys) ≡ length (map (λ y. x ++ y) ys) + length (times xs ys) = length-append (map (λ y. x ++ y) ys) (times xs ys) in
    let l : length (map (λ y. x ++ y) ys) ≡ length ys = length-map ys (λ y. x ++ y) in
    let r : length (times xs ys) ≡ length xs * length ys = length_times xs ys in
    let s : suc (length xs) * length ys ≡ length xs * length ys + length ys = suc-mul (length xs) (length ys) in
    omega (arith, e, l, r, s)

module _ {L : Type 0} where
  -- there are so many conjunctions
  mutual
    pub counts : (f : Form L) → length (paths f) ≡ count f
    counts (Lit l) = refl
    counts (Sum fs) = sum_counts fs
    counts (Product fs) = product_counts fs

    sum_counts : (fs : Forms L) → length (sum_paths fs) ≡ sum_count fs
    sum_counts End = refl
    sum_counts (More f fs) =
        length-append (map (ahead 0) (paths f)) (map later (sum_paths fs))
        ∙ ap (λ n. n + length (map later (sum_paths fs))) (length-map (paths f) (ahead 0) ∙ counts f)
        ∙ ap (λ n. count f + n) (length-map (sum_paths fs) later ∙ sum_counts fs)

    product_counts : (fs : Forms L) → length (product_paths fs) ≡ product_count fs
    product_counts End = refl
    product_counts (More f fs) = length_times (paths f) (product_paths fs) ∙ ap (λ n. n * length (product_paths fs)) (counts f) ∙ ap (λ n. count f * n) (product_counts fs)

-- a factor of a product that is not zero
pub positive : (n a b : ℕ) → n < a * b → 0 < b
positive n a zero h = let e : a * 0 ≡ 0 = omega arith in absurd (omega (arith, h, e))
positive n a (suc b) h = omega arith

module _ {L : Type 0} where
  -- the choices of a number are those that stand there
  mutual
    pub numbered : (f : Form L) (n : ℕ) → n < count f → IsAt (choices_at f n) n (paths f)
    numbered (Lit l) zero h = refl
    numbered (Lit l) (suc n) h = absurd (omega (arith, h))
    numbered (Sum fs) n h = sum_numbered fs n h
    numbered (Product fs) n h = product_numbered fs n h

    sum_numbered : (fs : Forms L) (n : ℕ) → n < sum_count fs → IsAt (sum_choices_at fs n) n (sum_paths fs)
    sum_numbered End n h = absurd (omega (arith, h))
    sum_numbered (More f fs) n h =
        elim (nat_lt n (count f)) as (λ b. nat_lt n (count f) ≡ b → IsAt (if b then ahead 0 (choices_at f n) else later (sum_choices_at fs (n - count f))) n (map (ahead 0) (paths f) ++ map later (sum_paths fs))) [
          | true ↦ λ e. at_front (ahead 0 (choices_at f n)) n (map (ahead 0) (paths f)) (map later (sum_paths fs)) (at_map (ahead 0) (choices_at f n) n (paths f) (numbered f n (ltb-true n (count f) e)))
          | false ↦ λ e.
              let past : count f ≤ n = ltb-false n (count f) e in
              let l : length (map (ahead 0) (paths f)) ≡ count f = length-map (paths f) (ahead 0) ∙ counts f in
              at_behind (later (sum_choices_at fs (n - count f))) n (n - count f) (map (ahead 0) (paths f)) (map later (sum_paths fs)) (omega (arith, past, l))
              (at_map later (sum_choices_at fs (n - count f)) (n - count f) (sum_paths fs) (sum_numbered fs (n - count f) (omega (arith, past, h))))
        ] refl

    product_numbered : (fs : Forms L) (n : ℕ) → n < product_count fs → IsAt (product_choices_at fs n) n (product_paths fs)
    product_numbered End zero h = refl
    product_numbered End (suc n) h = absurd (omega (arith, h))
    product_numbered (More f fs) n h =
        let some : 0 < product_count fs = positive n (count f) (product_count fs) h in
        let e : n ≡ n / product_count fs * length (product_paths fs) + n % product_count fs = sym (ap (λ k. n / product_count fs * k + n % product_count fs) (product_counts fs) ∙ div-add-mod' n (product_count fs)) in
        at_times (choices_at f (n / product_count fs)) (product_choices_at fs (n % product_count fs)) n (n / product_count fs) (n % product_count fs) (paths f) (product_paths fs) e
        (numbered f (n / product_count fs) ((div-lt_iff_lt-mul some).1 h))
        (product_numbered fs (n % product_count fs) (mod-lt n some))

module _ {L : Type 0} where
  -- the parts of a product in front and those behind are chosen in as two products
  pub joined_count : (fs hs : Forms L) → product_count (joined fs hs) ≡ product_count fs * product_count hs
  joined_count End hs = omega arith
  joined_count (More f gs) hs = ap (λ n. count f * n) (joined_count gs hs) ∙ sym (mul_assoc (count f) (product_count gs) (product_count hs))

  pub joined_choices : (fs hs : Forms L) (n : ℕ) → n < product_count (joined fs hs) → product_choices_at (joined fs hs) n ≡ product_choices_at fs (n / product_count hs) ++ product_choices_at hs (n % product_count hs)
  joined_choices End hs n h = ap (product_choices_at hs) (sym (mod-eq_of_lt h))
  joined_choices (More f gs) hs n h =
      let j : product_count (joined gs hs) ≡ product_count gs * product_count hs = joined_count gs hs in
      let some : 0 < product_count (joined gs hs) = positive n (count f) (product_count (joined gs hs)) h in
      let behind : 0 < product_count hs = positive 0 (product_count gs) (product_count hs) (subst (λ k. 0 < k) j some) in
      let front : 0 < product_count gs = positive 0 (product_count hs) (product_count gs) (subst (λ k. 0 < k) (j ∙ mul_comm (product_count gs) (product_count hs)) some) in
      let low : n % product_count hs < product_count hs = mod-lt n behind in
      let a : n / product_count (joined gs hs) ≡ n / product_count hs / product_count gs = ap (λ k. n / k) (j ∙ mul_comm (product_count gs) (product_count hs)) ∙ sym (div-div-eq-div-mul n (product_count hs) (product_count gs)) in
      let r : n % product_count (joined gs hs) ≡ n / product_count hs % product_count gs * product_count hs + n % product_count hs = ap (λ k. n % k) j ∙ mod-mul n front behind in
      let b : n % product_count (joined gs hs) / product_count hs ≡ n / product_count hs % product_count gs = ap (λ k. k / product_count hs) r ∙ div-mul-add (n / product_count hs % product_count gs) (product_count hs) (n % product_count hs) low in
      let c : n % product_count (joined gs hs) % product_count hs ≡ n % product_count hs = ap (λ k. k % product_count hs) r ∙ mod-mul-add (n / product_count hs % product_count gs) (product_count hs) (n % product_count hs) low in
      ap (λ k. choices_at f k ++ product_choices_at (joined gs hs) (n % product_count (joined gs hs))) a
      ∙ ap (λ l. choices_at f (n / product_count hs / product_count gs) ++ l) (joined_choices gs hs (n % product_count (joined gs hs)) (mod-lt n some) ∙ (λ i. product_choices_at gs (b i) ++ product_choices_at hs (c i)))
      ∙ sym (append_assoc (choices_at f (n / product_count hs / product_count gs)) (product_choices_at gs (n / product_count hs % product_count gs)) (product_choices_at hs (n % product_count hs)))

pub order : (m n : ℕ) → (m < n) ⊎ (n ≤ m)
order zero zero = inr (omega arith)
order zero (suc n) = inl (omega arith)
order (suc m) zero = inr (omega arith)
order (suc m) (suc n) = elim (order m n) [
  | inl h ↦ inl (omega (arith, h))
  | inr h ↦ inr (omega (arith, h))
]

-- a factor counts only up to the limit, where the product does
capped_left : (x r : ℕ) → min (min x number_limit * r) number_limit ≡ min (x * r) number_limit
capped_left x zero = let a : min x number_limit * 0 ≡ 0 = omega arith in let b : x * 0 ≡ 0 = omega arith in ap (λ k. min k number_limit) (a ∙ sym b)
capped_left x (suc r) = elim (order x number_limit) [
  | inl h ↦ let e : min x number_limit ≡ x = omega (arith, h) in ap (λ k. min (k * suc r) number_limit) e
  | inr h ↦
      let e : min x number_limit ≡ number_limit = omega (arith, h) in
      let a : number_limit * suc r ≡ number_limit * r + number_limit = mul-suc number_limit r in
      let b : x * suc r ≡ x * r + x = mul-suc x r in
      let c : min (number_limit * suc r) number_limit ≡ number_limit = omega (arith, a) in
      let d : min (x * suc r) number_limit ≡ number_limit = omega (arith, b, h) in
      ap (λ k. min (k * suc r) number_limit) e ∙ c ∙ sym d
]

pub capped_product : (a b r : ℕ) → min (min (a * min b number_limit) number_limit * r) number_limit ≡ min (a * (b * r)) number_limit
capped_product a b r =
    capped_left (a * min b number_limit) r
    ∙ ap (λ k. min k number_limit) (ap (λ k. k * r) (mul_comm a (min b number_limit)) ∙ mul_assoc (min b number_limit) a r)
    ∙ capped_left b (a * r)
    ∙ ap (λ k. min k number_limit) (sym (mul_assoc b a r) ∙ ap (λ k. k * r) (mul_comm b a) ∙ mul_assoc a b r)

pub capped_sum : (a b r : ℕ) → min (min (a + min b number_limit) number_limit + r) number_limit ≡ min (a + (b + r)) number_limit
capped_sum a b r = omega arith

-- a number below the limit is divided by a count as by the count up to the limit
pub capped_div : (n c : ℕ) → n < number_limit → n / min c number_limit ≡ n / c
capped_div n c h = elim (order c number_limit) [
  | inl k ↦ let e : min c number_limit ≡ c = omega (arith, k) in ap (λ m. n / m) e
  | inr k ↦
      let e : min c number_limit ≡ number_limit = omega (arith, k) in
      let below : n < c = omega (arith, h, k) in
      ap (λ m. n / m) e ∙ div-eq_of_lt h ∙ sym (div-eq_of_lt below)
]

pub capped_mod : (n c : ℕ) → n < number_limit → n % min c number_limit ≡ n % c
capped_mod n c h = elim (order c number_limit) [
  | inl k ↦ let e : min c number_limit ≡ c = omega (arith, k) in ap (λ m. n % m) e
  | inr k ↦
      let e : min c number_limit ≡ number_limit = omega (arith, k) in
      let below : n < c = omega (arith, h, k) in
      ap (λ m. n % m) e ∙ mod-eq_of_lt h ∙ sym (mod-eq_of_lt below)
]

-- what stands at a number splits the list there
pub at_drop : {A : Type 0} (x : A) (n : ℕ) (xs : List A) → IsAt x n xs → drop n xs ≡ x ∷ drop (suc n) xs
at_drop x n [] at = absurd at
at_drop x zero (y ∷ ys) at = ap (λ z. z ∷ ys) at
at_drop x (suc n) (y ∷ ys) at = at_drop x n ys at
