-- A longer list keeps what it had.
use Rattle.std.proofs.Common.{◌≡◌, ℕ, List, [], ◌∷◌, ◌++◌, length, slice_get, zero, suc, Some, refl, sym, ap, ◌∙◌, subst, arith, append_assoc, append-nil}
use Rattle.std.proofs.lemmas.Option.{slice_get_within}
use Rattle.hir_store.specs.Store.{Extends}

module _ {A : Type 0} where
  pub extends_self : (xs : List A) → Extends xs xs
  extends_self xs = ([], sym (append-nil xs))

  pub same_extends : (xs ys : List A) → ys ≡ xs → Extends xs ys
  same_extends xs ys is = subst (Extends xs) (sym is) (extends_self xs)

  pub extends_more : (xs more : List A) → Extends xs (xs ++ more)
  extends_more xs more = (more, refl)

  pub extends_on : (xs ys zs : List A) → Extends xs ys → Extends ys zs → Extends xs zs
  extends_on xs ys zs a b = (a.0 ++ b.0, b.1 ∙ ap (λ l. l ++ b.0) a.1 ∙ append_assoc xs a.0 b.0)

  pub kept : (xs more : List A) (k : ℕ) (x : A) → slice_get xs k ≡ Some x → slice_get (xs ++ more) k ≡ Some x
  kept [] more k x is = absurd (omega (arith, slice_get_within [] k x is))
  kept (y ∷ xs) more zero x is = is
  kept (y ∷ xs) more (suc k) x is = kept xs more k x is

  pub kept_on : (xs ys : List A) (k : ℕ) (x : A) → Extends xs ys → slice_get xs k ≡ Some x → slice_get ys k ≡ Some x
  kept_on xs ys k x longer is = subst (λ l. slice_get l k ≡ Some x) (sym longer.1) (kept xs longer.0 k x is)

  -- a list has an element at a place: what stands before it, and behind
  pub record Splits (xs : List A) (k : ℕ) (x : A) : Type 0 where
    pub front : List A
    pub back : List A
    pub there : xs ≡ front ++ x ∷ back
    pub place : length front ≡ k

  pub splits : (xs : List A) (k : ℕ) (x : A) → slice_get xs k ≡ Some x → Splits xs k x
  splits [] k x is = absurd (omega (arith, slice_get_within [] k x is))
  splits (y ∷ xs) zero x is = record { front = []; back = xs; there = cc; place = refl }
  splits (y ∷ xs) (suc k) x is =
      let s = splits xs k x is in
      record { front = y ∷ s.front; back = s.back; there = ap (λ l. y ∷ l) s.there; place = ap suc s.place }

  pub seam_at : (xs : List A) (k : ℕ) (x : A) → k ≡ length xs → slice_get (xs ++ x ∷ []) k ≡ Some x
  seam_at xs k x is = ap (slice_get (xs ++ x ∷ [])) is ∙ at_seam xs where
    at_seam : (ys : List A) → slice_get (ys ++ x ∷ []) (length ys) ≡ Some x
    at_seam [] = refl
    at_seam (y ∷ ys) = at_seam ys
