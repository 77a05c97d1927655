-- The items of pieces write, over the values of their pairs, what the pieces write.
use Rattle.std.specs.Prelude.{◌≡◌, ℕ, zero, suc, false, IsTrue, List, [], ◌∷◌, ◌++◌, slice_get, Some, option_map, map, refl}
use Rattle.std.proofs.Common.{ap, ◌∙◌}
use Rattle.code_meaning.specs.Write.{Count, NoCount, Is, Of, Write, Byte, Put, count_of}
use Rattle.code_meaning.specs.Value.{Value, At, Made, value_at}
use Rattle.code_meaning.specs.Meaning.{count_in, writes_in, writes_over}
use Rattle.template_bytes.specs.Pairs.{Pair, put_pair, count_pair, count_uses, uses, pairs_of, place_among, count_among, items_among, is_among, AreAmong}
use Rattle.template_bytes.proofs.PairLaws.{pair_at_place, uses_among}
use Rattle.format_code.specs.Code.{field_number, has_placeholder, text_of, values_of, write_with}
use Rattle.format_code.specs.Laws.{ReadsBack, MeansWrites, TextMeans}

-- the value of a pair
abbrev value_of : Pair → Value
value_of pair = Made pair.usage (At (field_number pair.argument))

-- at a place stands the value of the pair there
value_there : (pairs : List Pair) (place : ℕ) → value_at (values_of pairs) place ≡ option_map value_of (slice_get pairs place)
value_there [] place = refl
value_there (pair ∷ pairs) zero = refl
value_there (pair ∷ pairs) (suc place) = value_there pairs place

-- at the place of a pair stands its value
value_found : (pairs : List Pair) (pair : Pair) → IsTrue (is_among pairs pair) → value_at (values_of pairs) (place_among pairs pair) ≡ Some (value_of pair)
value_found pairs pair is = value_there pairs (place_among pairs pair) ∙ ap (option_map value_of) (pair_at_place pairs pair is)

-- what is among some in two lists, one behind the other, is so in each
among_both : (pairs : List Pair) (xs ys : List Pair) → AreAmong pairs (xs ++ ys) → AreAmong pairs xs × AreAmong pairs ys
among_both pairs [] ys all = (tt, all)
among_both pairs (x ∷ xs) ys all = let rest = among_both pairs xs ys all.1 in ((all.0, rest.0), rest.1)

module _ (pairs : List Pair) where
  -- a count is read back
  count_read : (count : Count ℕ) → AreAmong pairs (count_uses (count_of Some count))
      → count_in (values_of pairs) (count_among pairs (count_of Some count)) ≡ Some (count_of At count)
  count_read NoCount are = refl
  count_read (Is n) are = refl
  count_read (Of place) are = rw (value_found pairs (count_pair (Some place)) are.0) refl

  -- writes are read back where each use of them is among the pairs
  writes_read : (writes : List (Write ℕ)) → AreAmong pairs (uses (map (write_with Some) writes))
      → writes_in (values_of pairs) (items_among pairs (map (write_with Some) writes)) ≡ Some (map (write_with At) writes)
  writes_read [] are = refl
  writes_read (Byte b ∷ writes) are = rw (writes_read writes are) refl
  writes_read (Put place asked ∷ writes) are =
      let behind = among_both pairs (count_uses (count_of Some asked.width) ++ count_uses (count_of Some asked.precision)) (uses (map (write_with Some) writes)) are.1 in
      let counts = among_both pairs (count_uses (count_of Some asked.width)) (count_uses (count_of Some asked.precision)) behind.0 in
      rw (value_found pairs (put_pair (Some place) asked.by) are.0, count_read asked.width counts.0, count_read asked.precision counts.1, writes_read writes behind.1) refl

-- each use of pieces is among their pairs
pub reads_back : ReadsBack
reads_back writes = writes_read (pairs_of (map (write_with Some) writes)) writes (uses_among (map (write_with Some) writes))

-- canonical bytes decode to the items
pub means_writes : MeansWrites
means_writes writes bytes canonical = ap (writes_over (values_of (pairs_of (map (write_with Some) writes)))) canonical.decodes ∙ reads_back writes

-- the bytes of pieces without a placeholder are their writes
text_bytes : (writes : List (Write ℕ)) → has_placeholder (map (write_with Some) writes) ≡ false
    → map Byte (text_of (map (write_with Some) writes)) ≡ map (write_with At) writes
text_bytes [] none = refl
text_bytes (Byte b ∷ writes) none = ap (λ l. Byte b ∷ l) (text_bytes writes none)
text_bytes (Put place asked ∷ writes) none = cc

-- a text means its bytes
pub text_means : TextMeans
text_means writes none = ap Some (text_bytes writes none)
