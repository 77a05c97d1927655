-- The start of a raw string in front of the end of a line stands there whatever follows that.
use Rattle.std.proofs.Common.{◌≡◌, ℕ, zero, suc, Bool, true, List, [], ◌∷◌, ◌++◌, drop, get_or, replicate, refl, ap, ◌∙◌, arith}
use Rattle.std.proofs.lemmas.Bool.Decides.{nat_tests}
use Rattle.text_cut.specs.Runs.{AllPass, starts, is_blank}

no_quote : (b : ℕ) → is_blank b ≡ true → b ≡ 34 → ⊥
no_quote b blank same = grind (arith, nat_tests)

no_mark : (b : ℕ) → is_blank b ≡ true → b ≡ 35 → ⊥
no_mark b blank same = grind (arith, nat_tests)

-- so many `#` and a quote stand in front of the end of a line
pub record InFront (xs : List ℕ) (marks : ℕ) : Type 0 where
  pub rest : List ℕ
  pub is : xs ≡ replicate marks 35 ++ 34 ∷ rest

pub raw_in : (xs after more : List ℕ) (marks : ℕ) (tail : List ℕ) → AllPass is_blank after → xs ++ (after ++ 10 ∷ more) ≡ replicate marks 35 ++ 34 ∷ tail → InFront xs marks
raw_in [] [] more zero tail are e = absurd (omega (arith, ap (λ l. get_or l 0 0) e))
raw_in [] [] more (suc marks) tail are e = absurd (omega (arith, ap (λ l. get_or l 0 0) e))
raw_in [] (b ∷ after) more zero tail are e = absurd (no_quote b are.0 (ap (λ l. get_or l 0 0) e))
raw_in [] (b ∷ after) more (suc marks) tail are e = absurd (no_mark b are.0 (ap (λ l. get_or l 0 0) e))
raw_in (c ∷ xs) after more zero tail are e = record { rest = xs; is = ap (λ x. x ∷ xs) (ap (λ l. get_or l 0 0) e) }
raw_in (c ∷ xs) after more (suc marks) tail are e =
    let front : InFront xs marks = raw_in xs after more marks tail are (ap (λ l. drop 1 l) e) in
    record { rest = front.rest; is = ap (λ x. x ∷ xs) (ap (λ l. get_or l 0 0) e) ∙ ap (λ l. 35 ∷ l) front.is }

-- what follows the end of a line does not matter to how a text in front of it begins
pub starts_before : (p : ℕ → Bool) (xs after more other : List ℕ) → starts p (xs ++ (after ++ 10 ∷ more)) ≡ starts p (xs ++ (after ++ 10 ∷ other))
starts_before p [] [] more other = refl
starts_before p [] (b ∷ after) more other = refl
starts_before p (c ∷ xs) after more other = refl
