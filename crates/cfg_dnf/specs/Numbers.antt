-- How many conjunctions there are, and the choices of the conjunction of a number, without going through those in front of it.
use Rattle.std.specs.Prelude.{◌≡◌, ℕ, zero, suc, ◌+◌, ◌-◌, ◌*◌, ◌/◌, ◌%◌, if◌then◌else◌, nat_lt, List, [], ◌∷◌, ◌++◌}
use Rattle.cfg_dnf.specs.Form.{Form, Lit, Sum, Product, Forms, End, More, ahead, later}

-- how many conjunctions there are
abbrev mutual
  pub count : {L : Type 0} → Form L → ℕ
  count (Lit l) = 1
  count (Sum fs) = sum_count fs
  count (Product fs) = product_count fs

  pub sum_count : {L : Type 0} → Forms L → ℕ
  sum_count End = 0
  sum_count (More f fs) = count f + sum_count fs

  pub product_count : {L : Type 0} → Forms L → ℕ
  product_count End = 1
  product_count (More f fs) = count f * product_count fs

-- the choices of the conjunction of a number: in a sum, the part in which the number falls, and those of the number inside it; in a
-- product, those of the number divided by the count of the later parts, and those of the remainder in the later parts
abbrev mutual
  pub choices_at : {L : Type 0} → Form L → ℕ → List ℕ
  choices_at (Lit l) n = []
  choices_at (Sum fs) n = sum_choices_at fs n
  choices_at (Product fs) n = product_choices_at fs n

  pub sum_choices_at : {L : Type 0} → Forms L → ℕ → List ℕ
  sum_choices_at End n = []
  sum_choices_at (More f fs) n = if nat_lt n (count f) then ahead 0 (choices_at f n) else later (sum_choices_at fs (n - count f))

  pub product_choices_at : {L : Type 0} → Forms L → ℕ → List ℕ
  product_choices_at End n = []
  product_choices_at (More f fs) n = choices_at f (n / product_count fs) ++ product_choices_at fs (n % product_count fs)

-- an element stands in a list at a number, which counts from 0
abbrev pub IsAt : {A : Type 0} → A → ℕ → List A → Type 0
IsAt x n [] = ⊥
IsAt x zero (y ∷ ys) = y ≡ x
IsAt x (suc n) (y ∷ ys) = IsAt x n ys
