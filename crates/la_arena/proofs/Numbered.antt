-- A list with the number of each element: how long it is, and its last one.
use Rattle.std.proofs.Common.{◌≡◌, ℕ, ◌+◌, List, [], ◌∷◌, ◌++◌, length, ap, arith}
use Rattle.std.specs.List.{enumerate_from}
use Rattle.std.proofs.lemmas.List.FromFn.{length-enumerate_from}

module _ {T : Type 0} where
  -- an element more stands behind the others, with the number behind theirs
  pub numbered_more : (n : ℕ) (xs : List T) (x : T) (k : ℕ) → n + length xs ≡ k → enumerate_from n (xs ++ x ∷ []) ≡ enumerate_from n xs ++ (k, x) ∷ []
  numbered_more n [] x k e = let same : n ≡ k = omega arith in ap {B = List (ℕ × T)} (λ i. (i, x) ∷ []) same
  numbered_more n (y ∷ ys) x k e = ap (λ l. (n, y) ∷ l) (numbered_more (n + 1) ys x k (omega arith))

pub ruleset numbered = (length-enumerate_from, numbered_more)
