-- What the counts of a summary are at the end.
use Rattle.std.proofs.Common.{◌≡◌, ℕ, ◌+◌, ◌≤◌, min, not, List, length, count_by, refl, arith}
use Rattle.std.proofs.lemmas.List.Filters.{length-filter_both}
use Rattle.std.proofs.lemmas.List.Sums.{length-filter}
use Rattle.hir_lower.specs.declared.outcome.Outcome.{Outcome}
use Rattle.hir_lower.specs.declared.outcome.Outcome.TheVariants.{Off, Code}
use Rattle.printer.specs.Summary.{is_off, is_code, most_told}

-- what is not off is code
other : (outcome : Outcome) → is_code outcome ≡ not (is_off outcome)
other (Off why dnf) = refl
other (Code id) = refl

-- so both together are all
pub off_or_code : (outcomes : List Outcome) → count_by is_off outcomes + count_by is_code outcomes ≡ length outcomes
off_or_code outcomes = omega (arith, length-filter_both is_off is_code other outcomes, length-filter is_off outcomes, length-filter is_code outcomes)

-- where nothing is left, the count so far is what is told of all
pub told_at_end : (count left all : ℕ) → left ≡ 0 → count ≤ most_told → min (count + left) most_told ≡ min all most_told → count ≡ min all most_told
told_at_end count left all none bound counted = omega (arith, none, bound, counted)
