-- Equality of values as a test: two values are equal where their codes are.
use base.Stored.{Gv, gnil, gnum, gcons}
use mathlib.Core.Path.{ap, sym, ◌∙◌, refl}
use Rattle.std.specs.Prelude.{◌≡◌, Bool, true, false, ◌&&◌, nat_eq}
use mathlib.Core.Bool.{true≢false}
use Rattle.std.specs.Bool.{Decides}
use Rattle.std.specs.Coded.{Coded}
use Rattle.std.specs.Cmp.{IsEquivalence, unsigned_Decides, first_so, second_so, both_ways}

-- whether two codes are the same
abbrev pub same_code : Gv → Gv → Bool
same_code gnil gnil = true
same_code gnil (gnum n) = false
same_code gnil (gcons c d) = false
same_code (gnum m) gnil = false
same_code (gnum m) (gnum n) = nat_eq m n
same_code (gnum m) (gcons c d) = false
same_code (gcons a b) gnil = false
same_code (gcons a b) (gnum n) = false
same_code (gcons a b) (gcons c d) = same_code a c && same_code b d

-- no test is both
not_both : {P : Type 0} → false ≡ true → P
not_both e = absurd (true≢false (sym e))

-- codes that pass the test are equal
pub code_is : (a b : Gv) → same_code a b ≡ true → a ≡ b
code_is gnil gnil e = refl
code_is gnil (gnum n) e = not_both e
code_is gnil (gcons c d) e = not_both e
code_is (gnum m) gnil e = not_both e
code_is (gnum m) (gnum n) e = ap gnum ((unsigned_Decides m n).0 e)
code_is (gnum m) (gcons c d) e = not_both e
code_is (gcons a b) gnil e = not_both e
code_is (gcons a b) (gnum n) e = not_both e
code_is (gcons a b) (gcons c d) e =
    ap (λ x. gcons x b) (code_is a c (first_so (same_code a c) (same_code b d) e)) ∙ ap (λ y. gcons c y) (code_is b d (second_so (same_code a c) (same_code b d) e))

-- a code passes the test with itself
pub code_itself : (a : Gv) → same_code a a ≡ true
code_itself gnil = refl
code_itself (gnum n) = (unsigned_Decides n n).1 refl
code_itself (gcons a b) = ap (λ x. x && same_code b b) (code_itself a) ∙ code_itself b

-- whether two values are equal
unfoldable pub equal : {A : Type 0} → Coded A → A → A → Bool
equal c x y = same_code (c.code x) (c.code y)

module _ {A : Type 0} (c : Coded A) where
  -- values that pass the test are equal
  pub equal_is : (x y : A) → equal c x y ≡ true → x ≡ y
  unfolding equal
  equal_is x y e = c.inj x y (code_is (c.code x) (c.code y) e)

  -- a value passes the test with itself
  pub equal_itself : (x : A) → equal c x x ≡ true
  unfolding equal
  equal_itself x = code_itself (c.code x)

  pub equal_along : (x y : A) → x ≡ y → equal c x y ≡ true
  equal_along x y e = ap (equal c x) (sym e) ∙ equal_itself x

  -- the test tells exactly whether values are equal
  pub equal_Decides : (x y : A) → Decides (equal c x y) (x ≡ y)
  equal_Decides x y = (equal_is x y, equal_along x y)

  -- the test is an equivalence
  pub equal_equiv : IsEquivalence (equal c)
  equal_equiv = record {
    refl = equal_itself;
    symm = λ x y. both_ways (equal c x y) (equal c y x) (λ e. equal_along y x (sym (equal_is x y e))) (λ e. equal_along x y (sym (equal_is y x e)));
    congr = λ x y z e. ap (λ w. equal c w z) (equal_is x y e);
  }
