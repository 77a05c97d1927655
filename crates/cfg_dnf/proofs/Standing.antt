-- What stands in a list.
use Rattle.std.proofs.Common.{◌≡◌, Bool, true, false, ◌&&◌, ◌||◌, List, [], ◌∷◌, inl, inr, map, refl, sym, ap, ◌∙◌, cond}
use Rattle.std.specs.List.{list_any, list_all, filter}
use Rattle.cfg_dnf.specs.Laws.{Stands}

pub first_so : (a b : Bool) → (a && b) ≡ true → a ≡ true
first_so true b e = refl
first_so false b e = absurd cc

pub second_so : (a b : Bool) → (a && b) ≡ true → b ≡ true
second_so true b e = e
second_so false b e = absurd cc

pub both_so : (a b : Bool) → a ≡ true → b ≡ true → (a && b) ≡ true
both_so true b d e = e
both_so false b d e = absurd cc

-- what is not true is false
pub not_so : (b : Bool) → (b ≡ true → ⊥) → b ≡ false
not_so true h = absurd (h refl)
not_so false h = refl

pub no_both : {P : Type 0} (b : Bool) → b ≡ true → b ≡ false → P
no_both true d e = absurd cc
no_both false d e = absurd cc

-- what passes a test that all pass
pub of_all : {A : Type 0} (test : A → Bool) (x : A) (xs : List A) → Stands x xs → list_all test xs ≡ true → test x ≡ true
of_all test x [] h e = absurd h
of_all test x (y ∷ ys) h e = elim h [
  | inl same ↦ ap test same ∙ first_so (test y) (list_all test ys) e
  | inr later ↦ of_all test x ys later (second_so (test y) (list_all test ys) e)
]

-- where each passes all do
pub all_of : {A : Type 0} (test : A → Bool) (xs : List A) → ((x : A) → Stands x xs → test x ≡ true) → list_all test xs ≡ true
all_of test [] h = refl
all_of test (y ∷ ys) h = both_so (test y) (list_all test ys) (h y (inl refl)) (all_of test ys (λ x s. h x (inr s)))

-- where one passes some do
pub some_of : {A : Type 0} (test : A → Bool) (x : A) (xs : List A) → Stands x xs → test x ≡ true → list_any test xs ≡ true
some_of test x [] h e = absurd h
some_of test x (y ∷ ys) h e = elim h [
  | inl same ↦ ap (λ b. b || list_any test ys) (sym (ap test same) ∙ e)
  | inr later ↦ or_second (test y) (list_any test ys) (some_of test x ys later e)
]
  where
    or_second : (a b : Bool) → b ≡ true → (a || b) ≡ true
    or_second true b e = refl
    or_second false b e = e

-- one passes where some do
pub found : {A : Type 0} (test : A → Bool) (xs : List A) → list_any test xs ≡ true → (x : A) × Stands x xs × (test x ≡ true)
found test [] e = absurd cc
found test (y ∷ ys) e =
    elim (test y) as (λ b. test y ≡ b → (x : _) × Stands x (y ∷ ys) × (test x ≡ true)) [
      | true ↦ λ h. (y, inl refl, h)
      | false ↦ λ h. let rest = found test ys (ap (λ b. b || list_any test ys) (sym h) ∙ e) in (rest.0, inr rest.1, rest.2)
    ] refl

-- none passes where not some do
pub none_of : {A : Type 0} (test : A → Bool) (x : A) (xs : List A) → Stands x xs → list_any test xs ≡ false → test x ≡ false
none_of test x xs h e = not_so (test x) (λ t. no_both (list_any test xs) (some_of test x xs h t) e)

-- what is mapped, and what is kept
pub of_map : {A B : Type 0} (g : A → B) (y : B) (xs : List A) → Stands y (map g xs) → (x : A) × Stands x xs × (y ≡ g x)
of_map g y [] h = absurd h
of_map g y (x ∷ xs) h = elim h [
  | inl same ↦ (x, inl refl, same)
  | inr later ↦ let rest = of_map g y xs later in (rest.0, inr rest.1, rest.2)
]

pub in_map : {A B : Type 0} (g : A → B) (x : A) (xs : List A) → Stands x xs → Stands (g x) (map g xs)
in_map g x [] h = absurd h
in_map g x (y ∷ ys) h = elim h [
  | inl same ↦ inl (ap g same)
  | inr later ↦ inr (in_map g x ys later)
]

pub of_filter : {A : Type 0} (test : A → Bool) (x : A) (xs : List A) → Stands x (filter test xs) → Stands x xs × (test x ≡ true)
of_filter test x [] h = absurd h
of_filter test x (y ∷ ys) h =
    elim (test y) as (λ b. test y ≡ b → Stands x (cond b (y ∷ filter test ys) (filter test ys)) → Stands x (y ∷ ys) × (test x ≡ true)) [
      | true ↦ λ t s. elim s [
        | inl same ↦ (inl same, ap test same ∙ t)
        | inr later ↦ let rest = of_filter test x ys later in (inr rest.0, rest.1)
      ]
      | false ↦ λ t s. let rest = of_filter test x ys s in (inr rest.0, rest.1)
    ] refl h

pub in_filter : {A : Type 0} (test : A → Bool) (x : A) (xs : List A) → Stands x xs → test x ≡ true → Stands x (filter test xs)
in_filter test x [] h e = absurd h
in_filter test x (y ∷ ys) h e =
    elim (test y) as (λ b. test y ≡ b → Stands x (cond b (y ∷ filter test ys) (filter test ys))) [
      | true ↦ λ t. elim h [
        | inl same ↦ inl same
        | inr later ↦ inr (in_filter test x ys later e)
      ]
      | false ↦ λ t. elim h [
        | inl same ↦ no_both (test y) (sym (ap test same) ∙ e) t
        | inr later ↦ in_filter test x ys later e
      ]
    ] refl
