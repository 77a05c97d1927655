-- A made script is no longer than a script may be.
use Rattle.std.proofs.Common.{ℕ, ◌+◌, ◌<◌, ◌≤◌, ◌%◌, ◌==◌, Bool, true, false, min, if◌then◌else◌, List, ◌++◌, length, codes, decimal, arith, length-append}
use Rattle.std.proofs.lemmas.Fmt.{length-decimal-le}
use Rattle.script_generator.specs.Generated.{max_script_len, plain_item, options_item, braces_item, assembly_item, item_text, items_text, name_text, names_text, script_of}
use Rattle.script_generator.proofs.Below.{length_flat}

-- five parts, of which the second and the fourth are bounded
five_parts : (a b c d e : List ℕ) (second fourth most : ℕ) → length b ≤ second → length d ≤ fourth → second + fourth + (length a + length c + length e) ≤ most
    → length ((a ++ b) ++ ((c ++ d) ++ e)) ≤ most
five_parts a b c d e second fourth most few_b few_d fits =
    omega (arith, length-append (a ++ b) ((c ++ d) ++ e), length-append a b, length-append (c ++ d) e, length-append c d)

-- five digits are enough for each number of a script
few_digits : (i : ℕ) → i < 100000 → length (decimal i) ≤ 5
few_digits i below = length-decimal-le 5 i (omega arith) below (omega arith)

length_plain : (i : ℕ) → i < 100000 → length (plain_item i) ≤ 80
length_plain i below = omega (arith, length-append (decimal i) (codes "\n"), few_digits i below)

length_options : (i : ℕ) → i < 100000 → length (options_item i) ≤ 80
length_options i below =
    five_parts (codes "cfg all(any(a, b), not(c))\nformat \"{0:>5}{0:x}{1:?}\" @") (decimal i) (codes " @") (decimal i) (codes "\n") 5 5 80 (few_digits i below) (few_digits i below) (omega arith)

length_assembly : (i : ℕ) → i < 100000 → length (assembly_item i) ≤ 80
length_assembly i below = omega (arith, length-append (decimal i) (codes "\n"), few_digits i below)

by_rest : (first second third : Bool) (i : ℕ) → i < 100000 → length (if first then plain_item i else (if second then options_item i else (if third then braces_item else assembly_item i))) ≤ 80
by_rest true second third i below = length_plain i below
by_rest false true third i below = length_options i below
by_rest false false true i below = omega arith
by_rest false false false i below = length_assembly i below

length_item : (i : ℕ) → i < 100000 → length (item_text i) ≤ 80
length_item i below = by_rest (i % 4 == 0) (i % 4 == 1) (i % 4 == 2) i below

length_name : (i : ℕ) → i < 100000 → length (name_text i) ≤ 8
length_name i below = omega (arith, length-append (decimal i) (codes "}"), few_digits i below)

length_items : (count : ℕ) → count ≤ 1000 → length (items_text count) ≤ 80000
length_items count few = omega (arith, length_flat item_text 80 0 count (λ i below. length_item i (omega arith)))

pub length_names : (count : ℕ) → count ≤ 60000 → length (names_text count) ≤ 480000
length_names count few = omega (arith, length_flat name_text 8 0 count (λ i below. length_name i (omega arith)))

-- a made script is no longer than a script may be
pub length_script : (n : ℕ) → length (script_of n) ≤ max_script_len
length_script n =
    five_parts (codes "opt a\n") (items_text (min n 1000)) (codes "format \"") (names_text (min n 60000)) (codes "\"\n") 80000 480000 16777216
    (length_items (min n 1000) (omega arith)) (length_names (min n 60000) (omega arith)) (omega arith)
