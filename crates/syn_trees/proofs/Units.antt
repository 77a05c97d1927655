-- Characters and escapes: what stands in a text is found there, and what is found stands there.
use Rattle.std.proofs.Common.{◌≡◌, ℕ, ◌+◌, ◌≤◌, ◌<◌, Bool, true, false, cond, ◌&&◌, List, [], ◌∷◌, ◌++◌, length, Option, Some, None, refl, ap, ◌∙◌, sym, subst, append_assoc, append-nil, nat_eq, nat_le, arith}
use Rattle.std.specs.Option.{option_map, option_and_then}
use Rattle.std.specs.Char.{len_utf8, IsScalar}
use Rattle.std.specs.Str.Parse.{digits_value}
use lib.Utf8.{scalar}
use Rattle.std.proofs.lemmas.Bool.{and_parts}
use Rattle.std.proofs.lemmas.Bool.Decides.{nat_tests}
use Rattle.std.proofs.lemmas.Option.{option_and_then_some, same_Some}
use Rattle.text_cut.specs.Runs.{starts, front, size, AllPass, IsLongest}
use Rattle.text_cut.specs.Place.{Place, place, first_in, first, past, Took}
use Rattle.text_cut.specs.Rules.{past_word, Spells}
use Rattle.text_cut.specs.Reading.{Spelled, texts, ReadsPieces}
use Rattle.text_cut.specs.Whole.{read_whole}
use Rattle.text_cut.proofs.OptionLaws.{mapped, chosen, none_some}
use Rattle.text_cut.proofs.Pieces.{one_read}
use Rattle.text_cut.proofs.Rules.{took_none, took_one, took_both, took_same, word_is, past_is, past_run}
use Rattle.text_cut.proofs.Runs.{front_of, front_is}
use Rattle.text_cut.proofs.Sizes.{size_append}
use Rattle.text_cut.proofs.Whole.{no_state, whole_found, whole_is}
use Rattle.syn_trees.specs.Escape.{is_hex, is_hex_or_underscore, is_space, letter, digits_of, IsUnit, self, by_letter, ascii, unicode, continuation, unit_rule, HasUnits}
use Rattle.syn_trees.specs.ReadString.{as_unit, ascii_of, ascii_in, hex_number, scalar_of, unicode_of, unicode_behind, unicode_at, escape_by, escape_at, unit_at}

-- two characters that are equal are one
is_equal : (a b : ℕ) → nat_eq a b ≡ true → a ≡ b
is_equal a b same = grind (arith, nat_tests)

-- what a bound's test says
pub passes : (n most : ℕ) → n ≤ most → nat_le n most ≡ true
passes n most small = grind (arith, nat_tests)

pub fits : (n most : ℕ) → nat_le n most ≡ true → n ≤ most
fits n most test = grind (arith, nat_tests)

-- a text is read at its front as this, and what follows it is left
abbrev IsFound : List ℕ → Option ℕ → List ℕ → ℕ → Type 0
IsFound text meant rest at = unit_at (place at (text ++ rest)) ≡ Some (meant, place (at + size text) rest)

found_as : (text other : List ℕ) (meant value : Option ℕ) (rest : List ℕ) (at : ℕ) → text ≡ other → meant ≡ value → IsFound other value rest at → IsFound text meant rest at
found_as text other meant value rest at whole stands found = subst (λ t. IsFound t meant rest at) (sym whole) (subst (λ m. IsFound other m rest at) (sym stands) found)

-- a character that stands for itself is found
self_found : (c : ℕ) (rest : List ℕ) (at : ℕ) → nat_eq c 92 ≡ false → IsFound (c ∷ []) (Some c) rest at
self_found c rest at other = rw other (ap (λ n. Some (Some c, place n rest)) (omega arith))

-- what is no letter is another character than one
no_letter : (d e c : ℕ) → letter d ≡ None → letter e ≡ Some c → nat_eq e d ≡ false
no_letter d e c none some = by_test (nat_eq e d) refl
  where
    by_test : (b : Bool) → nat_eq e d ≡ b → nat_eq e d ≡ false
    by_test true same = absurd (none_some c (sym none ∙ (ap letter (sym (is_equal e d same)) ∙ some)))
    by_test false other = other

-- a letter behind `\` is found
letter_found : (e c : ℕ) (rest : List ℕ) (at : ℕ) → letter e ≡ Some c → IsFound (92 ∷ e ∷ []) (Some c) rest at
letter_found e c rest at stands = rw (no_letter 120 e c refl stands, no_letter 117 e c refl stands, no_letter 10 e c refl stands, stands) (ap (λ n. Some (Some c, place n rest)) (omega arith))

-- the character of two digits
ascii_of_found : (high low : ℕ) → is_hex high ≡ true → is_hex low ≡ true → digits_value 16 (high ∷ low ∷ []) ≤ 127 → ascii_of high low ≡ Some (digits_value 16 (high ∷ low ∷ []))
ascii_of_found high low is_high is_low small = rw (is_high, is_low, passes (digits_value 16 (high ∷ low ∷ [])) 127 small) refl

-- two digits behind `\x` are found
ascii_found : (high low : ℕ) (rest : List ℕ) (at : ℕ) → ascii_of high low ≡ Some (digits_value 16 (high ∷ low ∷ [])) → IsFound (92 ∷ 120 ∷ high ∷ low ∷ []) (Some (digits_value 16 (high ∷ low ∷ []))) rest at
ascii_found high low rest at stands =
    ap (λ o. option_map (as_unit (place ((((at + 1) + 1) + len_utf8 high) + len_utf8 low) rest)) o) stands
    ∙ ap (λ n. Some (Some (digits_value 16 (high ∷ low ∷ [])), place n rest)) (omega arith)

-- the character of digits among which `_` may stand
unicode_of_found : (digits : List ℕ) → starts is_hex digits ≡ true → length (digits_of digits) ≤ 6 → IsScalar (digits_value 16 (digits_of digits)) → unicode_of digits ≡ Some (digits_value 16 (digits_of digits))
unicode_of_found digits begins few is_scalar =
    ap (λ b. cond b (option_and_then scalar_of (hex_number (digits_of digits))) None) begins
    ∙ (ap (λ b. option_and_then scalar_of (cond b (Some (digits_value 16 (digits_of digits))) None)) (passes (length (digits_of digits)) 6 few)
    ∙ ap (λ b. cond b (Some (digits_value 16 (digits_of digits))) None) is_scalar)

-- digits behind `\u{`, and the `}` behind them, are found
digits_found : (digits rest : List ℕ) (at n : ℕ) → AllPass is_hex_or_underscore digits → unicode_of digits ≡ Some n → unicode_behind (place at (digits ++ (125 ∷ rest))) ≡ Some (Some n, place ((at + size digits) + 1) rest)
digits_found digits rest at n are stands =
    ap (λ q. option_and_then (λ end. option_map (as_unit end) (unicode_of (front is_hex_or_underscore (digits ++ (125 ∷ rest))))) (past_word (125 ∷ []) q)) (past_run is_hex_or_underscore digits (125 ∷ rest) at longest)
    ∙ (ap (λ l. option_map (as_unit (place ((at + size digits) + 1) rest)) (unicode_of l)) (front_of is_hex_or_underscore digits (125 ∷ rest) longest)
    ∙ ap (λ o. option_map (as_unit (place ((at + size digits) + 1) rest)) o) stands)
  where
    longest : IsLongest is_hex_or_underscore digits (125 ∷ rest)
    longest = record { pass = are; stops = refl }

unicode_found : (digits rest : List ℕ) (at n : ℕ) → AllPass is_hex_or_underscore digits → unicode_of digits ≡ Some n → IsFound (92 ∷ 117 ∷ 123 ∷ (digits ++ 125 ∷ [])) (Some n) rest at
unicode_found digits rest at n are stands =
    ap (λ l. unicode_behind (place (((at + 1) + 1) + 1) l)) (append_assoc digits (125 ∷ []) rest)
    ∙ (digits_found digits rest (((at + 1) + 1) + 1) n are stands
    ∙ ap (λ m. Some (Some n, place m rest)) (omega (arith, size_append digits (125 ∷ []))))

-- `\`, a line feed and all spaces behind it are found
continuation_found : (spaces rest : List ℕ) (at : ℕ) → IsLongest is_space spaces rest → IsFound (92 ∷ 10 ∷ spaces) None rest at
continuation_found spaces rest at longest =
    ap (λ (p : Place). Some (None, p)) (past_run is_space spaces rest ((at + 1) + 1) longest)
    ∙ ap (λ n. Some (None, place n rest)) (omega arith)

-- a character or an escape is found
unit_found : (text : List ℕ) (meant : Option ℕ) (rest : List ℕ) (at : ℕ) → IsUnit text meant rest → IsFound text meant rest at
unit_found text meant rest at (self is) = found_as text _ meant _ rest at is.whole is.value (self_found is.c rest at is.other)
unit_found text meant rest at (by_letter is) = found_as text _ meant _ rest at is.whole is.value (letter_found is.e is.c rest at is.stands)
unit_found text meant rest at (ascii is) = found_as text _ meant _ rest at is.whole is.value (ascii_found is.high is.low rest at (ascii_of_found is.high is.low is.is_high is.is_low is.small))
unit_found text meant rest at (unicode is) = found_as text _ meant _ rest at is.whole is.value (unicode_found is.digits rest at _ is.are (unicode_of_found is.digits is.begins is.few is.scalar))
unit_found text meant rest at (continuation is) = found_as text _ meant _ rest at is.whole is.value (continuation_found is.spaces rest at is.longest)

-- no unit is empty
unit_some : (text : List ℕ) (meant : Option ℕ) (rest : List ℕ) → IsUnit text meant rest → 0 < length text
unit_some text meant rest (self is) = omega (arith, ap length is.whole)
unit_some text meant rest (by_letter is) = omega (arith, ap length is.whole)
unit_some text meant rest (ascii is) = omega (arith, ap length is.whole)
unit_some text meant rest (unicode is) = omega (arith, ap length is.whole)
unit_some text meant rest (continuation is) = omega (arith, ap length is.whole)

-- a text behind these characters stands between two places, and with them it is a unit
record StandsBehind (before : List ℕ) (here : Place) (r : Option ℕ × Place) : Type 0 where
  text : List ℕ
  took : Took here r.1 text
  unit : IsUnit (before ++ text) r.0 r.1.left

-- what stands behind one more character
stands_before : (before : List ℕ) (c at : ℕ) (cs : List ℕ) (r : Option ℕ × Place) → StandsBehind (before ++ c ∷ []) (place (at + len_utf8 c) cs) r → StandsBehind before (place at (c ∷ cs)) r
stands_before before c at cs r is = record {
  text = c ∷ is.text;
  took = took_both (place at (c ∷ cs)) (place (at + len_utf8 c) cs) r.1 (c ∷ []) is.text (took_one at c cs) is.took;
  unit = subst (λ l. IsUnit l r.0 r.1.left) (append_assoc before (c ∷ []) is.text) is.unit;
}

-- nothing stands behind the whole unit
stands_there : (before : List ℕ) (here : Place) (meant : Option ℕ) → IsUnit before meant here.left → StandsBehind before here (meant, here)
stands_there before here meant is = record { text = []; took = took_none here; unit = subst (λ l. IsUnit l meant here.left) (sym (append-nil before)) is }

-- two digits are those of a character
ascii_is : (high low : ℕ) (rest : List ℕ) (n : ℕ) → ascii_of high low ≡ Some n → IsUnit (92 ∷ 120 ∷ high ∷ low ∷ []) (Some n) rest
ascii_is high low rest n found = chosen ((is_hex high && is_hex low) && nat_le (digits_value 16 (high ∷ low ∷ [])) 127) (Some (digits_value 16 (high ∷ low ∷ []))) None (Some n) found
    (λ test same. let tests = and_parts _ _ test in let digits = and_parts _ _ tests.0 in
    ascii (record { high = high; low = low; whole = refl; is_high = digits.0; is_low = digits.1; small = fits (digits_value 16 (high ∷ low ∷ [])) 127 tests.1; value = ap (λ m. Some m) (sym (same_Some _ _ same)) }))
    (λ test none. absurd (none_some n none))

ascii_stands : (at : ℕ) (cs : List ℕ) (r : Option ℕ × Place) → ascii_in at cs ≡ Some r → StandsBehind (92 ∷ 120 ∷ []) (place at cs) r
ascii_stands at [] r found = absurd (none_some r found)
ascii_stands at (high ∷ []) r found = absurd (none_some r found)
ascii_stands at (high ∷ low ∷ cs) r found =
    let behind : Place = place ((at + len_utf8 high) + len_utf8 low) cs in
    mapped (as_unit behind) (ascii_of high low) r found
    (λ n stands same. subst (λ z. StandsBehind (92 ∷ 120 ∷ []) (place at (high ∷ low ∷ cs)) z) same
    (stands_before (92 ∷ 120 ∷ []) high at (low ∷ cs) (Some n, behind)
    (stands_before (92 ∷ 120 ∷ high ∷ []) low (at + len_utf8 high) cs (Some n, behind)
    (stands_there (92 ∷ 120 ∷ high ∷ low ∷ []) behind (Some n) (ascii_is high low cs n stands)))))

-- digits of a character, among which `_` may stand
record IsScalarOf (digits : List ℕ) (n : ℕ) : Type 0 where
  begins : starts is_hex digits ≡ true
  few : length (digits_of digits) ≤ 6
  scalar : IsScalar (digits_value 16 (digits_of digits))
  value : n ≡ digits_value 16 (digits_of digits)

unicode_of_is : (digits : List ℕ) (n : ℕ) → unicode_of digits ≡ Some n → IsScalarOf digits n
unicode_of_is digits n found = chosen (starts is_hex digits) (option_and_then scalar_of (hex_number (digits_of digits))) None (Some n) found
    (λ begins there. option_and_then_some scalar_of (hex_number (digits_of digits)) n there
    (λ m number stands. chosen (nat_le (length (digits_of digits)) 6) (Some (digits_value 16 (digits_of digits))) None (Some m) number
    (λ few same. chosen (scalar m) (Some m) None (Some n) stands
    (λ is as_is. record {
      begins = begins;
      few = fits (length (digits_of digits)) 6 few;
      scalar = subst (λ k. IsScalar k) (sym (same_Some _ _ same)) is;
      value = sym (same_Some _ _ as_is) ∙ sym (same_Some _ _ same);
    })
    (λ is none. absurd (none_some n none)))
    (λ few none. absurd (none_some m none))))
    (λ begins none. absurd (none_some n none))

unicode_is : (digits rest : List ℕ) (n : ℕ) → AllPass is_hex_or_underscore digits → IsScalarOf digits n → IsUnit (92 ∷ 117 ∷ 123 ∷ (digits ++ 125 ∷ [])) (Some n) rest
unicode_is digits rest n are is = unicode (record { digits = digits; whole = refl; begins = is.begins; are = are; few = is.few; scalar = is.scalar; value = ap (λ m. Some m) is.value })

digits_stand : (here : Place) (r : Option ℕ × Place) → unicode_behind here ≡ Some r → StandsBehind (92 ∷ 117 ∷ 123 ∷ []) here r
digits_stand here r found =
    let digits : List ℕ = front is_hex_or_underscore here.left in
    let behind : Place = past is_hex_or_underscore here in
    option_and_then_some (λ end. option_map (as_unit end) (unicode_of digits)) (past_word (125 ∷ []) behind) r found
    (λ end closed there. mapped (as_unit end) (unicode_of digits) r there
    (λ n stands same. subst (λ z. StandsBehind (92 ∷ 117 ∷ 123 ∷ []) here z) same
    (record {
      text = digits ++ 125 ∷ [];
      took = took_both here behind end digits (125 ∷ []) (past_is is_hex_or_underscore here) (word_is (125 ∷ []) behind.at behind.left end closed);
      unit = unicode_is digits end.left n (front_is is_hex_or_underscore here.left).pass (unicode_of_is digits n stands);
    })))

unicode_stands : (here : Place) (r : Option ℕ × Place) → unicode_at here ≡ Some r → StandsBehind (92 ∷ 117 ∷ []) here r
unicode_stands here r found = option_and_then_some unicode_behind (past_word (123 ∷ []) here) r found
    (λ behind opened there. let is : StandsBehind (92 ∷ 117 ∷ 123 ∷ []) behind r = digits_stand behind r there in
    record {
      text = 123 ∷ is.text;
      took = took_both here behind r.1 (123 ∷ []) is.text (word_is (123 ∷ []) here.at here.left behind opened) is.took;
      unit = is.unit;
    })

continuation_stands : (here : Place) → StandsBehind (92 ∷ 10 ∷ []) here (None, past is_space here)
continuation_stands here = record {
  text = front is_space here.left;
  took = past_is is_space here;
  unit = continuation (record { spaces = front is_space here.left; whole = refl; longest = front_is is_space here.left; value = refl });
}

-- what an escape is found to be stands behind its `\` and the character behind that
escape_by_stands : (e : ℕ) (behind : Place) (r : Option ℕ × Place) → escape_by e behind ≡ Some r → StandsBehind (92 ∷ e ∷ []) behind r
escape_by_stands e behind r found = chosen (nat_eq e 120) _ _ _ found
    (λ is there. as_character 120 e (is_equal e 120 is) (ascii_stands behind.at behind.left r there))
    (λ other found. chosen (nat_eq e 117) _ _ _ found
    (λ is there. as_character 117 e (is_equal e 117 is) (unicode_stands behind r there))
    (λ other found. chosen (nat_eq e 10) _ _ _ found
    (λ is there. as_character 10 e (is_equal e 10 is) (subst (λ z. StandsBehind (92 ∷ 10 ∷ []) behind z) (same_Some _ _ there) (continuation_stands behind)))
    (λ other found. mapped (as_unit behind) (letter e) r found
    (λ c stands same. subst (λ z. StandsBehind (92 ∷ e ∷ []) behind z) same
    (stands_there (92 ∷ e ∷ []) behind (Some c) (by_letter (record { e = e; c = c; whole = refl; stands = stands; value = refl })))))))
  where
    as_character : (d e : ℕ) → e ≡ d → StandsBehind (92 ∷ d ∷ []) behind r → StandsBehind (92 ∷ e ∷ []) behind r
    as_character d e same is = subst (λ c. StandsBehind (92 ∷ c ∷ []) behind r) (sym same) is

escape_stands : (at : ℕ) (cs : List ℕ) (r : Option ℕ × Place) → escape_at (place at cs) ≡ Some r → StandsBehind (92 ∷ []) (place at cs) r
escape_stands at [] r found = absurd (none_some r found)
escape_stands at (e ∷ cs) r found = stands_before (92 ∷ []) e at cs r (escape_by_stands e (place (at + len_utf8 e) cs) r found)

-- what a character or an escape is found to be stands there
unit_stands : (at : ℕ) (cs : List ℕ) (r : Option ℕ × Place) → unit_at (place at cs) ≡ Some r → StandsBehind [] (place at cs) r
unit_stands at [] r found = absurd (none_some r found)
unit_stands at (c ∷ cs) r found =
    let behind : Place = place (at + len_utf8 c) cs in
    stands_before [] c at cs r (chosen (nat_eq c 92) (escape_at behind) (Some (as_unit behind c)) (Some r) found
    (λ is there. subst (λ d. StandsBehind (d ∷ []) behind r) (sym (is_equal c 92 is)) (escape_stands (at + len_utf8 c) cs r there))
    (λ other same. subst (λ z. StandsBehind (c ∷ []) behind z) (same_Some _ _ same)
    (stands_there (c ∷ []) behind (Some c) (self (record { c = c; whole = refl; other = other; value = refl })))))

unit_is : (front : List (Spelled (Option ℕ))) (here : Place) (r : Option ℕ × Place) → unit_at here ≡ Some r → Spells (λ at. unit_rule front) here r
unit_is front here r found = let is : StandsBehind [] here r = unit_stands here.at here.left r found in
    record { text = is.text; took = is.took; rule = is.unit }

-- the reader finds the characters and escapes, and only them
pub units_read : ReadsPieces unit_rule no_state (λ state. unit_at)
units_read = record {
  found = λ front text meant rest is. unit_found text meant rest (size (texts front)) is;
  is = λ front left r found. unit_is front (place (size (texts front)) left) r found;
  some = λ front text meant rest is. unit_some text meant rest is;
}

-- what stands between plain quotes is read
pub read_units : (inside : List ℕ) (units : List (Option ℕ)) → HasUnits inside units → read_whole unit_at inside ≡ Some units
read_units inside units has = whole_found unit_rule unit_at units_read inside units has

-- what is read between plain quotes stands there
pub units_are : (inside : List ℕ) (units : List (Option ℕ)) → read_whole unit_at inside ≡ Some units → HasUnits inside units
units_are inside units found = whole_is unit_rule unit_at units_read inside units found

-- two lists of units of one text are equal
pub one_units : (inside : List ℕ) (units others : List (Option ℕ)) → HasUnits inside units → HasUnits inside others → units ≡ others
one_units inside units others has also = one_read unit_rule no_state (λ state. unit_at) units_read inside units others has also

-- what two characters behind `\x` stand for, where both are read
pub ascii_in-two : (here : Place) (high low : ℕ) (behind end : Place) (o : Option ℕ) → first here ≡ Some (high, behind) → first behind ≡ Some (low, end) → o ≡ ascii_of high low → ascii_in here.at here.left ≡ option_map (as_unit end) o
ascii_in-two here high low behind end o first_is second_is same = two here.at here.left first_is
  where
    second : (at : ℕ) (cs : List ℕ) → first_in (at + len_utf8 high) cs ≡ Some (low, end) → ascii_in at (high ∷ cs) ≡ option_map (as_unit end) o
    second at [] is = absurd (none_some (low, end) is)
    second at (d ∷ cs) is =
        ap (λ (r : ℕ × Place). option_map (as_unit r.1) (ascii_of high r.0)) (same_Some _ _ is) ∙ ap (λ x. option_map (as_unit end) x) (sym same)

    two : (at : ℕ) (cs : List ℕ) → first_in at cs ≡ Some (high, behind) → ascii_in at cs ≡ option_map (as_unit end) o
    two at [] is = absurd (none_some (high, behind) is)
    two at (c ∷ cs) is =
        let pair : (c, place (at + len_utf8 c) cs) ≡ (high, behind) = same_Some _ _ is in
        let same_c : c ≡ high = ap (λ r. r.0) pair in
        ap (λ d. ascii_in at (d ∷ cs)) same_c
        ∙ second at cs (ap (λ d. first_in (at + len_utf8 d) cs) (sym same_c) ∙ (ap (λ r. first r.1) pair ∙ second_is))

-- what hexadecimal digits and `_` stand for, where they and `}` are read
pub unicode_behind-read : (here end behind : Place) (text : List ℕ) (o : Option ℕ) → end ≡ past is_hex_or_underscore here → Some behind ≡ past_word (125 ∷ []) end → Took here end text → o ≡ unicode_of text → option_map (as_unit behind) o ≡ unicode_behind here
unicode_behind-read here end behind text o same closed took stands =
    ap (λ x. option_map (as_unit behind) x) (stands ∙ ap (λ l. unicode_of l) text_is)
    ∙ ap (λ x. option_and_then (λ e. option_map (as_unit e) (unicode_of (front is_hex_or_underscore here.left))) x) (closed ∙ ap (λ p. past_word (125 ∷ []) p) same)
  where
    text_is : text ≡ front is_hex_or_underscore here.left
    text_is = took_same here (past is_hex_or_underscore here) text (front is_hex_or_underscore here.left) (subst (λ p. Took here p text) same took) (past_is is_hex_or_underscore here)
