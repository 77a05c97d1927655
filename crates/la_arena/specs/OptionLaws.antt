-- The laws of comparing and hashing at `Option`, for values that follow them.
use Rattle.std.specs.Prelude.{◌≡◌, ◌++◌, Bool, true, Option, Some, None, pos, Decides, refl}
use Rattle.std.specs.declared.cmp.Ordering.{Ordering}
use Rattle.std.specs.declared.cmp.Ordering.TheVariants.{Less, Equal}
use Rattle.std.specs.Ordering.{eq_by_cmp, is_eq, is_gt, is_some_and, ordering_reverse}
use Rattle.std.specs.Option.{option_eq, option_cmp, option_partial_cmp, option_map}
use Rattle.std.specs.Cmp.{IsPartialEquivalence, IsPartialOrder, Agrees}
use Rattle.std.specs.Hash.{HashWrites, Alike}
use Rattle.std.specs.Hash as fed
use Rattle.std.proofs.Common.{sym, ap, true≢false}

module _ {K : Type 0} {E : K → K → Bool} where
  -- a partial equivalence stays one
  pub options_per : IsPartialEquivalence E → IsPartialEquivalence (option_eq E)
  options_per e = record { symm = flip; trans = chain }
    where
      flip : (p q : Option K) → option_eq E p q ≡ option_eq E q p
      flip None None = refl
      flip None (Some y) = refl
      flip (Some x) None = refl
      flip (Some x) (Some y) = e.symm x y

      chain : (p q r : Option K) → option_eq E p q ≡ true → option_eq E q r ≡ true → option_eq E p r ≡ true
      chain None None r h k = k
      chain None (Some y) r h k = absurd (true≢false (sym h))
      chain (Some x) None r h k = absurd (true≢false (sym h))
      chain (Some x) (Some y) None h k = k
      chain (Some x) (Some y) (Some z) h k = e.trans x y z h k

  -- what feeds equal values alike does so still
  pub options_Alike : {F : K → HashWrites} → Alike E F → Alike (option_eq E) (fed.option F)
  options_Alike {F} a = record { fed = alike }
    where
      alike : (p q : Option K) → option_eq E p q ≡ true → fed.option F p ≡ fed.option F q
      alike None None h = refl
      alike None (Some y) h = absurd (true≢false (sym h))
      alike (Some x) None h = absurd (true≢false (sym h))
      alike (Some x) (Some y) h = ap (λ w. fed.isize (pos 1) ++ w) (a.fed x y h)

  module _ {C : K → K → Option Ordering} where
    -- a partial order stays one
    pub options_po : IsPartialOrder E C → IsPartialOrder (option_eq E) (option_partial_cmp C)
    options_po o = record { antisymm = dual; trans = chain; matches_eq = level; congr = alike }
      where
        dual : (p q : Option K) → option_partial_cmp C p q ≡ option_map ordering_reverse (option_partial_cmp C q p)
        dual None None = refl
        dual None (Some y) = refl
        dual (Some x) None = refl
        dual (Some x) (Some y) = o.antisymm x y

        chain : (p q r : Option K) → option_partial_cmp C p q ≡ Some Less → option_partial_cmp C q r ≡ Some Less → option_partial_cmp C p r ≡ Some Less
        chain None None r h k = k
        chain None (Some y) None h k = absurd (true≢false (ap (is_some_and is_gt) k))
        chain None (Some y) (Some z) h k = refl
        chain (Some x) None r h k = absurd (true≢false (ap (is_some_and is_gt) h))
        chain (Some x) (Some y) None h k = k
        chain (Some x) (Some y) (Some z) h k = o.trans x y z h k

        level : (p q : Option K) → Decides (option_eq E p q) (option_partial_cmp C p q ≡ Some Equal)
        level None None = (λ e. refl, λ e. refl)
        level None (Some y) = (λ e. absurd (true≢false (sym e)), λ e. ap (is_some_and is_eq) e)
        level (Some x) None = (λ e. absurd (true≢false (sym e)), λ e. ap (is_some_and is_eq) e)
        level (Some x) (Some y) = o.matches_eq x y

        alike : (p q r : Option K) → option_eq E p q ≡ true → option_partial_cmp C p r ≡ option_partial_cmp C q r
        alike None None r h = refl
        alike None (Some y) r h = absurd (true≢false (sym h))
        alike (Some x) None r h = absurd (true≢false (sym h))
        alike (Some x) (Some y) None h = refl
        alike (Some x) (Some y) (Some z) h = o.congr x y z h

  -- a test and a comparison that go together do so still
  pub options_ties : (R : K → K → Ordering) → ((x y : K) → E x y ≡ eq_by_cmp R x y) → (p q : Option K) → option_eq E p q ≡ eq_by_cmp (option_cmp R) p q
  options_ties R t None None = refl
  options_ties R t None (Some y) = refl
  options_ties R t (Some x) None = refl
  options_ties R t (Some x) (Some y) = t x y

-- two comparisons that agree do so still
pub options_agrees : {K : Type 0} {C : K → K → Option Ordering} {R : K → K → Ordering} → Agrees C R → Agrees (option_partial_cmp C) (option_cmp R)
options_agrees a None None = refl
options_agrees a None (Some y) = refl
options_agrees a (Some x) None = refl
options_agrees a (Some x) (Some y) = a x y
