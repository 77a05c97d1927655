-- What a function writes for the numbers below a count: one more at the end, and the length of all.
use Rattle.std.proofs.Common.{◌≡◌, ℕ, zero, suc, ◌+◌, ◌*◌, ◌<◌, ◌≤◌, List, ◌++◌, length, flat_map, sym, ap, ◌∙◌, append_assoc, append-nil, add-one, arith, length-append}
use Rattle.std.specs.List.{range_with_len}

flat_from : (f : ℕ → List ℕ) (first count last : ℕ) → first + count ≡ last → flat_map f (range_with_len first (suc count)) ≡ flat_map f (range_with_len first count) ++ f last
flat_from f first zero last is = let same : first ≡ last = omega arith in append-nil (f first) ∙ ap f same
flat_from f first (suc count) last is = ap (λ rest. f first ++ rest) (flat_from f (first + 1) count last (omega arith)) ∙ sym (append_assoc (f first) _ (f last))

flat_more : (f : ℕ → List ℕ) (count : ℕ) → flat_map f (range_with_len 0 (count + 1)) ≡ flat_map f (range_with_len 0 count) ++ f count
flat_more f count = ap (λ n. flat_map f (range_with_len 0 n)) (add-one count) ∙ flat_from f 0 count count (omega arith)

-- where the numbers below a count are written, and then the count, one number more is written
pub written_more : (f : ℕ → List ℕ) (count : ℕ) (start before after : List ℕ) → before ≡ start ++ flat_map f (range_with_len 0 count) → after ≡ before ++ f count
    → after ≡ start ++ flat_map f (range_with_len 0 (count + 1))
written_more f count start before after so_far step =
    step ∙ ap (λ front. front ++ f count) so_far ∙ append_assoc start _ (f count) ∙ ap (λ all. start ++ all) (sym (flat_more f count))

-- where each number takes so many bytes at most, all take no more than their count times as many
pub length_flat : (f : ℕ → List ℕ) (most first count : ℕ) → ((i : ℕ) → i < first + count → length (f i) ≤ most) → length (flat_map f (range_with_len first count)) ≤ count * most
length_flat f most first zero each = omega arith
length_flat f most first (suc count) each =
    omega (arith, length-append (f first) (flat_map f (range_with_len (first + 1) count)), each first (omega arith), length_flat f most (first + 1) count (λ i below. each i (omega arith)))
