-- Pairs are equal where their numbers are; a set of pairs that only grows keeps the place of each; and each pair can be read back at its place.
use Rattle.std.proofs.Common.{◌≡◌, ℕ, suc, ◌<◌, ◌≤◌, nat_eq, eqb-true, eq-eqb, Bool, true, false, ◌&&◌, ◌||◌, cond, IsTrue, List, [], ◌∷◌, ◌++◌, append_assoc, append-nil, length, length-append, map, slice_get, Option, Some, None, refl, sym, ◌∙◌, ap, ap₂, subst, arith}
use Rattle.std.proofs.lemmas.Option.{slice_get_within}
use Rattle.code_meaning.specs.Write.{Trait, Display, Debug, LowerExp, UpperExp, Octal, Pointer, Binary, LowerHex, UpperHex, Count, NoCount, Is, Of, Asked, Write, Byte, Put}
use Rattle.code_meaning.specs.Value.{Use, By, AsCount}
use Rattle.code_meaning.specs.Template.{Slot, TemplateItem, ByteItem, SlotItem}
use Rattle.template_bytes.specs.Canonical.{Reference}
use Rattle.template_bytes.specs.Pairs.{Pair, number_of, is_same_reference, is_same_pair, put_pair, count_pair, count_uses, uses_of, uses, without, distinct, pairs_of, place_among, count_among, slot_among, items_among, is_among, added, added_all, AreAmong}

-- Equal pairs

-- the use of a number
abbrev use_of : ℕ → Use
use_of n =
    cond (nat_eq n 0) (By Display) (cond (nat_eq n 1) (By Debug) (cond (nat_eq n 2) (By LowerExp) (cond (nat_eq n 3) (By UpperExp)
    (cond (nat_eq n 4) (By Octal) (cond (nat_eq n 5) (By Pointer) (cond (nat_eq n 6) (By Binary) (cond (nat_eq n 7) (By LowerHex)
    (cond (nat_eq n 8) (By UpperHex) AsCount))))))))

-- a use is that of its number
use_back : (u : Use) → use_of (number_of u) ≡ u
use_back (By Display) = refl
use_back (By Debug) = refl
use_back (By LowerExp) = refl
use_back (By UpperExp) = refl
use_back (By Octal) = refl
use_back (By Pointer) = refl
use_back (By Binary) = refl
use_back (By LowerHex) = refl
use_back (By UpperHex) = refl
use_back AsCount = refl

-- uses of one number are equal
same_use : (u v : Use) → nat_eq (number_of u) (number_of v) ≡ true → u ≡ v
same_use u v h = sym (use_back u) ∙ ap use_of (eqb-true (number_of u) (number_of v) h) ∙ use_back v

-- references that pass the test are equal
same_reference : (r s : Reference) → is_same_reference r s ≡ true → r ≡ s
same_reference None None h = refl
same_reference (Some m) (Some n) h = ap Some (eqb-true m n h)
same_reference None (Some n) h = cc
same_reference (Some m) None h = cc

-- a reference passes the test with itself
same_reference_itself : (r : Reference) → is_same_reference r r ≡ true
same_reference_itself None = refl
same_reference_itself (Some n) = eq-eqb n n refl

-- both parts of a test that holds
both : (a b : Bool) → (a && b) ≡ true → (a ≡ true) × (b ≡ true)
both true true h = (refl, refl)
both true false h = cc
both false b h = cc

-- pairs that pass the test are equal
pub same_pair_is : (p q : Pair) → IsTrue (is_same_pair p q) → p ≡ q
same_pair_is p q h =
    let parts = both (is_same_reference p.argument q.argument) (nat_eq (number_of p.usage) (number_of q.usage)) h in
    let arguments = same_reference p.argument q.argument parts.0 in
    let usages = same_use p.usage q.usage parts.1 in
    λ i. record { argument = arguments i; usage = usages i }

-- a pair passes the test with itself
pub same_pair_itself : (p : Pair) → is_same_pair p p ≡ true
same_pair_itself p = ap₂ (λ a b. a && b) (same_reference_itself p.argument) (eq-eqb (number_of p.usage) (number_of p.usage) refl)

-- two tests that hold together are one
same_test : (a b : Bool) → (a ≡ true → b ≡ true) → (b ≡ true → a ≡ true) → a ≡ b
same_test true b there back = sym (there refl)
same_test false true there back = back refl
same_test false false there back = refl

-- the test does not ask for an order
pub same_pair_either_way : (p q : Pair) → is_same_pair p q ≡ is_same_pair q p
same_pair_either_way p q = same_test (is_same_pair p q) (is_same_pair q p) (turned p q) (turned q p)
  where
    turned : (p q : Pair) → is_same_pair p q ≡ true → is_same_pair q p ≡ true
    turned p q h = subst (λ r. is_same_pair r p ≡ true) (same_pair_is p q h) (same_pair_itself p)

-- A pair among others

-- a test that holds still does behind another
true_behind : (b : Bool) {c : Bool} → c ≡ true → (b || c) ≡ true
true_behind true h = refl
true_behind false h = h

-- a pair is among pairs that have it behind some
is_behind : (pairs : List Pair) (p : Pair) (more : List Pair) → is_among (pairs ++ p ∷ more) p ≡ true
is_behind [] p more = ap (λ b. b || is_among more p) (same_pair_itself p)
is_behind (q ∷ pairs) p more = true_behind (is_same_pair q p) (is_behind pairs p more)

-- a pair that is there keeps its place as more come behind
pub place_stays : (pairs more : List Pair) (p : Pair) → IsTrue (is_among pairs p) → place_among (pairs ++ more) p ≡ place_among pairs p
place_stays [] more p h = cc
place_stays (q ∷ pairs) more p h = by (is_same_pair q p) h (place_stays pairs more p)
  where
    by : (b : Bool) → (b || is_among pairs p) ≡ true → (is_among pairs p ≡ true → place_among (pairs ++ more) p ≡ place_among pairs p)
        → cond b 0 (suc (place_among (pairs ++ more) p)) ≡ cond b 0 (suc (place_among pairs p))
    by true h stays = refl
    by false h stays = ap suc (stays h)

-- a pair that is not there has the place behind all
place_behind : (pairs more : List Pair) (p : Pair) → is_among pairs p ≡ false → place_among (pairs ++ p ∷ more) p ≡ place_among pairs p
place_behind [] more p h = ap (λ b. cond b 0 (suc (place_among more p))) (same_pair_itself p)
place_behind (q ∷ pairs) more p h = by (is_same_pair q p) h (place_behind pairs more p)
  where
    by : (b : Bool) → (b || is_among pairs p) ≡ false → (is_among pairs p ≡ false → place_among (pairs ++ p ∷ more) p ≡ place_among pairs p)
        → cond b 0 (suc (place_among (pairs ++ p ∷ more) p)) ≡ cond b 0 (suc (place_among pairs p))
    by true h stays = refl
    by false h stays = ap suc (stays h)

-- a pair that is added has the place that it had, or the one behind all, whatever comes behind it
pub place_added : (pairs more : List Pair) (p : Pair) → place_among (added pairs p ++ more) p ≡ place_among pairs p
place_added pairs more p = by (is_among pairs p) refl
  where
    by : (b : Bool) → is_among pairs p ≡ b → place_among (cond b pairs (pairs ++ p ∷ []) ++ more) p ≡ place_among pairs p
    by true h = place_stays pairs more p h
    by false h = ap (λ l. place_among l p) (append_assoc pairs (p ∷ []) more) ∙ place_behind pairs more p h

-- a pair stands at its place
pub pair_at_place : (pairs : List Pair) (p : Pair) → IsTrue (is_among pairs p) → slice_get pairs (place_among pairs p) ≡ Some p
pair_at_place [] p h = cc
pair_at_place (q ∷ pairs) p h = by (is_same_pair q p) (same_pair_is q p) h (pair_at_place pairs p)
  where
    by : (b : Bool) → (b ≡ true → q ≡ p) → (b || is_among pairs p) ≡ true → (is_among pairs p ≡ true → slice_get pairs (place_among pairs p) ≡ Some p)
        → slice_get (q ∷ pairs) (cond b 0 (suc (place_among pairs p))) ≡ Some p
    by true same h there = ap Some (same refl)
    by false same h there = there h

-- the place of a pair that is there is below their number
pub place_below : (pairs : List Pair) (p : Pair) → IsTrue (is_among pairs p) → place_among pairs p < length pairs
place_below pairs p h = slice_get_within pairs (place_among pairs p) p (pair_at_place pairs p h)

-- Distinct pairs

-- pairs but for one, of two lists one behind the other
without_append : (x : Pair) (pairs more : List Pair) → without x (pairs ++ more) ≡ without x pairs ++ without x more
without_append x [] more = refl
without_append x (q ∷ pairs) more = by (is_same_pair x q) (without_append x pairs more)
  where
    by : (b : Bool) → without x (pairs ++ more) ≡ without x pairs ++ without x more
        → cond b (without x (pairs ++ more)) (q ∷ without x (pairs ++ more)) ≡ cond b (without x pairs) (q ∷ without x pairs) ++ without x more
    by true e = e
    by false e = ap (λ l. q ∷ l) e

-- another pair is among pairs but for one where it is among all
among_without : (x y : Pair) (pairs : List Pair) → is_same_pair x y ≡ false → is_among (without x pairs) y ≡ is_among pairs y
among_without x y [] other = refl
among_without x y (q ∷ pairs) other = by (is_same_pair x q) (same_pair_is x q) (among_without x y pairs other)
  where
    by : (b : Bool) → (b ≡ true → x ≡ q) → is_among (without x pairs) y ≡ is_among pairs y
        → is_among (cond b (without x pairs) (q ∷ without x pairs)) y ≡ (is_same_pair q y || is_among pairs y)
    by true same e = e ∙ ap (λ b. b || is_among pairs y) (sym (subst (λ r. is_same_pair r y ≡ false) (same refl) other))
    by false same e = ap (λ b. is_same_pair q y || b) e

-- a pair that is taken away may as well be added first
without_added_same : (x : Pair) (pairs : List Pair) → without x (added pairs x) ≡ without x pairs
without_added_same x pairs = by (is_among pairs x)
  where
    by : (b : Bool) → without x (cond b pairs (pairs ++ x ∷ [])) ≡ without x pairs
    by true = refl
    by false =
        without_append x pairs (x ∷ [])
        ∙ ap (λ b. without x pairs ++ cond b [] (x ∷ [])) (same_pair_itself x)
        ∙ append-nil (without x pairs)

-- a pair in front stays in front as one is added
without_added : (x y : Pair) (pairs : List Pair) → x ∷ without x (added pairs y) ≡ added (x ∷ without x pairs) y
without_added x y pairs = by (is_same_pair x y) refl
  where
    by : (b : Bool) → is_same_pair x y ≡ b → x ∷ without x (added pairs y) ≡ cond (b || is_among (without x pairs) y) (x ∷ without x pairs) (x ∷ without x pairs ++ y ∷ [])
    by true e = ap (λ l. x ∷ l) (subst (λ r. without x (added pairs r) ≡ without x pairs) (same_pair_is x y e) (without_added_same x pairs))
    by false e = other (is_among pairs y) ∙ ap (λ b. cond b (x ∷ without x pairs) (x ∷ without x pairs ++ y ∷ [])) (sym (among_without x y pairs e))
      where
        other : (b : Bool) → x ∷ without x (cond b pairs (pairs ++ y ∷ [])) ≡ cond b (x ∷ without x pairs) (x ∷ without x pairs ++ y ∷ [])
        other true = refl
        other false = ap (λ l. x ∷ l) (without_append x pairs (y ∷ []) ∙ ap (λ b. without x pairs ++ cond b [] (y ∷ [])) e)

-- the distinct pairs of a list with one more behind it
distinct_push : (xs : List Pair) (y : Pair) → distinct (xs ++ y ∷ []) ≡ added (distinct xs) y
distinct_push [] y = refl
distinct_push (x ∷ xs) y = ap (λ l. x ∷ without x l) (distinct_push xs y) ∙ without_added x y (distinct xs)

-- the distinct pairs of two lists: those of the first, with those of the second added one after the other
pub distinct_all : (xs ys : List Pair) → distinct (xs ++ ys) ≡ added_all (distinct xs) ys
distinct_all xs [] = ap distinct (append-nil xs)
distinct_all xs (y ∷ ys) =
    ap distinct (sym (append_assoc xs (y ∷ []) ys))
    ∙ distinct_all (xs ++ y ∷ []) ys
    ∙ ap (λ l. added_all l ys) (distinct_push xs y)

-- Pairs that grow

-- pairs stay in front as one is added
front_added : (pairs : List Pair) (p : Pair) → (behind : List Pair) × (added pairs p ≡ pairs ++ behind)
front_added pairs p = by (is_among pairs p)
  where
    by : (b : Bool) → (behind : List Pair) × (cond b pairs (pairs ++ p ∷ []) ≡ pairs ++ behind)
    by true = ([], sym (append-nil pairs))
    by false = (p ∷ [], refl)

-- pairs stay in front as more are added
front_all : (pairs xs : List Pair) → (behind : List Pair) × (added_all pairs xs ≡ pairs ++ behind)
front_all pairs [] = ([], sym (append-nil pairs))
front_all pairs (x ∷ xs) =
    let one = front_added pairs x in
    let rest = front_all (added pairs x) xs in
    (one.0 ++ rest.0, rest.1 ∙ ap (λ l. l ++ rest.0) one.1 ∙ append_assoc pairs one.0 rest.0)

-- there are no fewer pairs as more are added
grown : (pairs xs : List Pair) → length pairs ≤ length (added_all pairs xs)
grown pairs xs =
    let front = front_all pairs xs in
    omega (arith, ap length front.1, length-append pairs front.0)

-- a longer list has no fewer distinct pairs
pub no_fewer : (xs ys : List Pair) → length (distinct xs) ≤ length (distinct (xs ++ ys))
no_fewer xs ys = subst (λ l. length (distinct xs) ≤ length l) (sym (distinct_all xs ys)) (grown (distinct xs) ys)

-- what pairs give whatever comes behind them is given as more are added
pub kept : {A : Type 0} (given : List Pair → A) (pairs xs news : List Pair) {a : A} → news ≡ added_all pairs xs
    → ((behind : List Pair) → given (pairs ++ behind) ≡ a) → (behind : List Pair) → given (news ++ behind) ≡ a
kept given pairs xs news are is behind =
    let front = front_all pairs xs in
    ap (λ l. given (l ++ behind)) (are ∙ front.1) ∙ ap given (append_assoc pairs front.0 behind) ∙ is (front.0 ++ behind)

-- the places of a placeholder, each told as its pair was added, are those of its slot
pub slot_kept : (first second third : List Pair) (r : Reference) (asked : Asked Reference) (place : ℕ) (width precision : Count ℕ)
    → second ≡ added_all first (count_uses asked.width) → third ≡ added_all second (count_uses asked.precision)
    → ((behind : List Pair) → place_among (first ++ behind) (put_pair r asked.by) ≡ place)
    → ((behind : List Pair) → count_among (second ++ behind) asked.width ≡ width)
    → ((behind : List Pair) → count_among (third ++ behind) asked.precision ≡ precision)
    → (behind : List Pair) → slot_among (third ++ behind) r asked ≡ record { place = place; options = asked.options; width = width; precision = precision }
slot_kept first second third r asked place width precision second_is third_is place_is width_is precision_is behind =
    let value = put_pair r asked.by in
    let place_then = kept (λ l. place_among l value) first (count_uses asked.width) second second_is place_is in
    let place_last = kept (λ l. place_among l value) second (count_uses asked.precision) third third_is place_then behind in
    let width_last = kept (λ l. count_among l asked.width) second (count_uses asked.precision) third third_is width_is behind in
    λ i. record { place = place_last i; options = asked.options; width = width_last i; precision = precision_is behind i }

-- a pair is among distinct pairs where it is among all
among_distinct : (xs : List Pair) (p : Pair) → is_among (distinct xs) p ≡ is_among xs p
among_distinct [] p = refl
among_distinct (x ∷ xs) p = by (is_same_pair x p) refl (among_distinct xs p)
  where
    by : (b : Bool) → is_same_pair x p ≡ b → is_among (distinct xs) p ≡ is_among xs p → (b || is_among (without x (distinct xs)) p) ≡ (b || is_among xs p)
    by true e same = refl
    by false e same = among_without x p (distinct xs) e ∙ same

-- Pieces read back

-- pairs that are among some are among these with one more in front
among_more : (p : Pair) (pairs xs : List Pair) → AreAmong pairs xs → AreAmong (p ∷ pairs) xs
among_more p pairs [] there = tt
among_more p pairs (x ∷ xs) there = (true_behind (is_same_pair p x) there.0, among_more p pairs xs there.1)

-- pairs are among themselves
among_themselves : (xs : List Pair) → AreAmong xs xs
among_themselves [] = tt
among_themselves (x ∷ xs) = (is_behind [] x xs, among_more x xs xs (among_themselves xs))

-- pairs are among their distinct ones
all_among : (xs some : List Pair) → AreAmong xs some → AreAmong (distinct xs) some
all_among xs [] there = tt
all_among xs (p ∷ some) there = (among_distinct xs p ∙ there.0, all_among xs some there.1)

-- each use of pieces is among their pairs
pub uses_among : (pieces : List (Write Reference)) → AreAmong (pairs_of pieces) (uses pieces)
uses_among pieces = all_among (uses pieces) (uses pieces) (among_themselves (uses pieces))

-- both parts of pairs that are there
front_among : (pairs xs ys : List Pair) → AreAmong pairs (xs ++ ys) → AreAmong pairs xs
front_among pairs [] ys there = tt
front_among pairs (x ∷ xs) ys there = (there.0, front_among pairs xs ys there.1)

rest_among : (pairs xs ys : List Pair) → AreAmong pairs (xs ++ ys) → AreAmong pairs ys
rest_among pairs [] ys there = there
rest_among pairs (x ∷ xs) ys there = rest_among pairs xs ys there.1

-- the argument and the trait of a pair, where there is one
abbrev argument_of : Option Pair → Reference
argument_of None = None
argument_of (Some p) = p.argument

abbrev trait_of_use : Use → Trait
trait_of_use (By by) = by
trait_of_use AsCount = Display

abbrev trait_of : Option Pair → Trait
trait_of None = Display
trait_of (Some p) = trait_of_use p.usage

-- a count, a placeholder and a piece, with arguments in place of the places of pairs
abbrev count_back : List Pair → Count ℕ → Count Reference
count_back pairs NoCount = NoCount
count_back pairs (Is n) = Is n
count_back pairs (Of place) = Of (argument_of (slice_get pairs place))

abbrev asked_back : List Pair → Slot → Asked Reference
asked_back pairs slot = record {
  by = trait_of (slice_get pairs slot.place);
  options = slot.options;
  width = count_back pairs slot.width;
  precision = count_back pairs slot.precision;
}

abbrev piece_back : List Pair → TemplateItem → Write Reference
piece_back pairs (ByteItem b) = Byte b
piece_back pairs (SlotItem slot) = Put (argument_of (slice_get pairs slot.place)) (asked_back pairs slot)

-- a count is read back
same_count : (pairs : List Pair) (count : Count Reference) → AreAmong pairs (count_uses count) → count_back pairs (count_among pairs count) ≡ count
same_count pairs NoCount there = refl
same_count pairs (Is n) there = refl
same_count pairs (Of r) there = ap (λ found. Of (argument_of found)) (pair_at_place pairs (count_pair r) there.0)

-- a placeholder is read back
same_put : (pairs : List Pair) (r : Reference) (asked : Asked Reference) → AreAmong pairs (uses_of r asked)
    → piece_back pairs (SlotItem (slot_among pairs r asked)) ≡ Put r asked
same_put pairs r asked there =
    let found = pair_at_place pairs (put_pair r asked.by) there.0 in
    let width = same_count pairs asked.width (front_among pairs (count_uses asked.width) (count_uses asked.precision) there.1) in
    let precision = same_count pairs asked.precision (rest_among pairs (count_uses asked.width) (count_uses asked.precision) there.1) in
    λ i. Put (argument_of (found i)) (record { by = trait_of (found i); options = asked.options; width = width i; precision = precision i })

-- pieces are read back from their items
same_pieces : (pairs : List Pair) (pieces : List (Write Reference)) → AreAmong pairs (uses pieces) → map (piece_back pairs) (items_among pairs pieces) ≡ pieces
same_pieces pairs [] there = refl
same_pieces pairs (Byte b ∷ pieces) there = ap (λ l. Byte b ∷ l) (same_pieces pairs pieces there)
same_pieces pairs (Put r asked ∷ pieces) there =
    let put = same_put pairs r asked (front_among pairs (uses_of r asked) (uses pieces) there) in
    let rest = same_pieces pairs pieces (rest_among pairs (uses_of r asked) (uses pieces) there) in
    λ i. put i ∷ rest i

-- canonical pieces with the same pairs and the same items are the same
pub same_items : (pieces others : List (Write Reference)) → pairs_of pieces ≡ pairs_of others
    → items_among (pairs_of pieces) pieces ≡ items_among (pairs_of others) others → pieces ≡ others
same_items pieces others pairs items =
    sym (same_pieces (pairs_of pieces) pieces (uses_among pieces))
    ∙ (λ i. map (piece_back (pairs i)) (items i))
    ∙ same_pieces (pairs_of others) others (uses_among others)
