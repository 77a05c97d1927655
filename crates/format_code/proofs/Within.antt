-- The pairs of pieces refer to what the pieces refer to.
use Rattle.std.specs.Prelude.{ℕ, Bool, true, false, cond, List, [], ◌∷◌, ◌++◌, Some, map}
use Rattle.code_meaning.specs.Write.{Count, NoCount, Is, Of, Write, Byte, Put, count_of}
use Rattle.template_bytes.specs.Pairs.{Pair, is_same_pair, count_uses, uses, without, distinct}
use Rattle.format_code.specs.Code.{AreWithin, IsCountBelow, AreBelow, write_with}
use Rattle.format_code.specs.Laws.{PairsWithin}

module _ (count : ℕ) where
  -- pairs one behind the other
  append_within : (xs ys : List Pair) → AreWithin count xs → AreWithin count ys → AreWithin count (xs ++ ys)
  append_within [] ys first second = second
  append_within (x ∷ xs) ys first second = (first.0, append_within xs ys first.1 second)

  -- pairs but for one
  without_within : (p : Pair) (pairs : List Pair) → AreWithin count pairs → AreWithin count (without p pairs)
  without_within p [] are = tt
  without_within p (q ∷ pairs) are = by (is_same_pair p q) (without_within p pairs are.1)
    where
      by : (b : Bool) → AreWithin count (without p pairs) → AreWithin count (cond b (without p pairs) (q ∷ without p pairs))
      by true rest = rest
      by false rest = (are.0, rest)

  -- each of some pairs once
  distinct_within : (pairs : List Pair) → AreWithin count pairs → AreWithin count (distinct pairs)
  distinct_within [] are = tt
  distinct_within (p ∷ pairs) are = (are.0, without_within p (distinct pairs) (distinct_within pairs are.1))

  -- the uses of a count
  count_within : (c : Count ℕ) → IsCountBelow count c → AreWithin count (count_uses (count_of Some c))
  count_within NoCount below = tt
  count_within (Is n) below = tt
  count_within (Of place) below = (below, tt)

  -- the uses of pieces
  uses_within : (writes : List (Write ℕ)) → AreBelow count writes → AreWithin count (uses (map (write_with Some) writes))
  uses_within [] below = tt
  uses_within (Byte b ∷ writes) below = uses_within writes below
  uses_within (Put place asked ∷ writes) below =
      let width = count_within asked.width below.1.0 in
      let precision = count_within asked.precision below.1.1.0 in
      let counts = append_within (count_uses (count_of Some asked.width)) (count_uses (count_of Some asked.precision)) width precision in
      let rest = uses_within writes below.1.1.1 in
      (below.0, append_within (count_uses (count_of Some asked.width) ++ count_uses (count_of Some asked.precision)) (uses (map (write_with Some) writes)) counts rest)

-- the pairs of pieces are their distinct uses
pub pairs_within : PairsWithin
pairs_within count writes below = distinct_within count (uses (map (write_with Some) writes)) (uses_within count writes below)
