-- Lines of a script: how the reading begins, goes on and stops, and what it has then read.
use Rattle.std.proofs.Common.{◌≡◌, ℕ, ◌≤◌, ◌<◌, List, [], ◌∷◌, ◌++◌, length, take, drop, count_by, nat_eq, Option, Some, None, refl, ap, ◌∙◌, sym, subst, append_assoc, length-append, suc, arith}
use Rattle.std.specs.Str.{IsUtf8, chars, encode_utf8_all}
use Rattle.std.proofs.lemmas.List.{append-nil, take_at}
use Rattle.std.proofs.lemmas.Str.{encodes-chars, chars-append, chars_from_encodes, IsUtf8-take}
use Rattle.text_cut.specs.Runs.{size}
use Rattle.text_cut.specs.Place.{Place, place}
use Rattle.text_cut.specs.Reading.{Spelled, texts, items, Reach, SoFar}
use Rattle.text_cut.proofs.Lists.{longer_begins}
use Rattle.text_cut.proofs.Sizes.{size_bytes, front_bytes, cut_at}
use Rattle.text_cut.proofs.Pieces.{furthest, one_reading}
use Rattle.text_cut.proofs.Longer.{spelled_before, reach_longer}
use Rattle.text_cut.proofs.SoFar.{so_far_begins, so_far_more, so_far_smaller}
use Rattle.script_tokens.specs.Items.{item_at}
use Rattle.script_grammar.specs.declared.item.Item.{Item}
use Rattle.script_grammar.specs.Items.{item_of}
use Rattle.script_grammar.specs.Script.{IsItem, calls_in, counted}
use Rattle.script_grammar.proofs.Script.{items_read, items_ignore_rest}
use Rattle.script.specs.declared.reading.Reading.{Reading}
use Rattle.script.specs.Contents.{Contents, contents_of}
use Rattle.script.specs.Script.{AreLines, Says, BreaksAt}
use Rattle.script.specs.ReadLines.{GoesOn, HasRead, ReadSoFar, StopsBehind, IsValidFront}
use Rattle.script.proofs.SoFar.{has_read_more, one_call, one_macro, calls_counted, steps_by}

-- a reader of lines behind so many calls
abbrev line_at : ℕ → Place → Option (Option Item × Place)
line_at number = item_at (item_of number)

-- nothing is read yet
pub reading_begins : (text : List ℕ) (reading : Reading) → HasRead reading [] → length reading.calls.items ≡ 0 → length reading.macros ≡ 0 → ReadSoFar text reading (place 0 text)
reading_begins text reading is no_calls no_macros = record {
  lines = [];
  so_far = subst (λ n. SoFar IsItem calls_in text [] n (place 0 text)) (sym no_calls) (so_far_begins IsItem calls_in text);
  has_read = is;
  few_calls = omega (arith, no_calls);
  few_macros = omega (arith, no_macros);
}

-- less is left behind a line
pub less_left : (text : List ℕ) (reading : Reading) (here : Place) (line : Option Item) (e : Place) → ReadSoFar text reading here → line_at (length reading.calls.items) here ≡ Some (line, e) → size e.left < size here.left
less_left text reading here line e so_far found = so_far_smaller IsItem calls_in line_at items_read text so_far.lines (length reading.calls.items) here line e so_far.so_far found

-- one more line is read
pub reading_goes_on : (text : List ℕ) (old new : Reading) (here : Place) (line : Option Item) (e : Place) → ReadSoFar text old here → line_at (length old.calls.items) here ≡ Some (line, e) → GoesOn old line new → ReadSoFar text new e
reading_goes_on text old new here line e so_far found goes =
    let less : size e.left < size here.left = less_left text old here line e so_far found in
    record {
      lines = so_far.lines ++ line ∷ [];
      so_far = subst (λ n. SoFar IsItem calls_in text (so_far.lines ++ line ∷ []) n e) (calls_counted old new line goes)
          (so_far_more IsItem calls_in line_at (λ number l. counted l number) items_read steps_by text so_far.lines (length old.calls.items) here line e so_far.so_far found);
      has_read = has_read_more old new so_far.lines line so_far.has_read goes;
      few_calls = omega (arith, so_far.few_calls, less, one_call old new line goes);
      few_macros = omega (arith, so_far.few_macros, less, one_macro old new line goes);
    }

-- what stands in front of some characters of a text is a text of its own
front_utf8 : (text front rest : List ℕ) → IsUtf8 text → chars text ≡ front ++ rest → IsUtf8 (encode_utf8_all front)
front_utf8 text front rest utf8 there =
    subst (λ l. IsUtf8 l)
    (ap (λ l. take (size front) l) (front_bytes text front rest utf8 there) ∙ take_at (encode_utf8_all front) (encode_utf8_all rest) (size front) (size_bytes front))
    (IsUtf8-take text (size front) utf8 (cut_at text front rest utf8 there))

-- lines up to a place in a text are lines of the bytes in front of it
front_lines : (text rest : List ℕ) (spelled : List (Spelled (Option Item))) → IsUtf8 text → Reach IsItem (chars text) spelled rest → AreLines (encode_utf8_all (texts spelled)) spelled
front_lines text rest spelled utf8 reach =
    let front : IsUtf8 (encode_utf8_all (texts spelled)) = front_utf8 text (texts spelled) rest utf8 reach.there in
    record {
      utf8 = front;
      reading = record {
        there = sym (chars_from_encodes (texts spelled) (encode_utf8_all (texts spelled)) front refl) ∙ sym (append-nil (texts spelled));
        are = spelled_before IsItem items_ignore_rest [] spelled rest [] reach.are;
      };
    }

-- the bytes of lines
lines_size : (bytes : List ℕ) (spelled : List (Spelled (Option Item))) → AreLines bytes spelled → length bytes ≡ size (texts spelled)
lines_size bytes spelled are =
    ap length (sym (encodes-chars bytes are.utf8)) ∙ (size_bytes (chars bytes) ∙ ap size (are.reading.there ∙ append-nil (texts spelled)))

-- lines in front of the bytes reach no further than where the reader stops
lines_within : (bytes text : List ℕ) (reading : Reading) (at : ℕ) → IsValidFront bytes text → StopsBehind (chars text) reading at → (other left : List ℕ) (others : List (Spelled (Option Item))) → bytes ≡ other ++ left → AreLines other others → length other ≤ at
lines_within bytes text reading at valid stops other left others there are =
    let so_far = stops.so_far.so_far in
    let split : text ≡ other ++ drop (length other) text = longer_begins text valid.rest other left (sym valid.there ∙ there) (valid.longest other left are.utf8 there) in
    let parts : chars text ≡ chars other ++ chars (drop (length other) text) = ap (λ l. chars l) split ∙ chars-append other (drop (length other) text) are.utf8 in
    let reach : Reach IsItem (chars text) others (chars (drop (length other) text)) = subst (λ l. Reach IsItem l others (chars (drop (length other) text))) (sym parts)
    (reach_longer IsItem items_ignore_rest (chars other) others [] (chars (drop (length other) text)) are.reading) in
    let stuck : line_at (calls_in so_far.front) (place (size (texts so_far.front)) stops.left) ≡ None =
    subst (λ n. line_at n (place (size (texts so_far.front)) stops.left) ≡ None) so_far.left_by (subst (λ n. line_at (length reading.calls.items) (place n stops.left) ≡ None) so_far.at stops.none) in
    let most : size (texts others) ≤ size (texts so_far.front) = furthest IsItem calls_in line_at items_read (chars text) so_far.front stops.left so_far.reach stuck others (chars (drop (length other) text)) reach in
    omega (arith, most, lines_size other others are, so_far.at)

no_more : (bytes : List ℕ) → length bytes ≤ 0 → bytes ≡ []
no_more [] none = refl
no_more (b ∷ bytes) none = absurd (omega arith)

-- the bytes of a text up to where the reader stops
front_is : (bytes text : List ℕ) (reading : Reading) (at : ℕ) → (valid : IsValidFront bytes text) → (stops : StopsBehind (chars text) reading at) → bytes ≡ encode_utf8_all (texts stops.so_far.so_far.front) ++ (encode_utf8_all stops.left ++ valid.rest)
front_is bytes text reading at valid stops =
    let so_far = stops.so_far.so_far in
    valid.there ∙ (ap (λ l. l ++ valid.rest) (front_bytes text (texts so_far.front) stops.left valid.utf8 so_far.reach.there) ∙ append_assoc (encode_utf8_all (texts so_far.front)) (encode_utf8_all stops.left) valid.rest)

-- what the code has read, as what a script says
abbrev pub read_contents : Reading → Contents
read_contents reading = record { options = reading.options; macros = reading.macros; limit = reading.limit; items = reading.items; calls = reading.calls.items }

-- it is what the lines say
has_contents : (reading : Reading) (lines : List (Option Item)) → HasRead reading lines → read_contents reading ≡ contents_of lines
has_contents reading lines has = λ i. record { options = has.options i; macros = has.macros i; limit = has.limit i; items = has.items i; calls = has.calls i }

-- where the reader stops behind all bytes, they are lines that say this
pub whole_read : (bytes text : List ℕ) (reading : Reading) (at : ℕ) → IsValidFront bytes text → StopsBehind (chars text) reading at → length bytes ≤ at → Says bytes (read_contents reading)
whole_read bytes text reading at valid stops all =
    let so_far = stops.so_far.so_far in
    let front = encode_utf8_all (texts so_far.front) in
    let whole : bytes ≡ front ++ (encode_utf8_all stops.left ++ valid.rest) = front_is bytes text reading at valid stops in
    let none : encode_utf8_all stops.left ++ valid.rest ≡ [] = no_more (encode_utf8_all stops.left ++ valid.rest) (omega (arith, ap length whole, length-append front (encode_utf8_all stops.left ++ valid.rest), size_bytes (texts so_far.front), so_far.at)) in
    let same : bytes ≡ front = whole ∙ (ap (λ l. front ++ l) none ∙ append-nil front) in
    record {
      spelled = so_far.front;
      are = subst (λ l. AreLines l so_far.front) (sym same) (front_lines text stops.left so_far.front valid.utf8 so_far.reach);
      is = has_contents reading stops.so_far.lines stops.so_far.has_read ∙ ap (λ l. contents_of l) so_far.are;
    }

-- where the reader stops in front of some bytes, they break there
pub breaks_at : (bytes text : List ℕ) (reading : Reading) (at line : ℕ) → IsValidFront bytes text → StopsBehind (chars text) reading at → at < length bytes → line ≡ suc (count_by (λ b. nat_eq b 10) (take at bytes)) → BreaksAt bytes line
breaks_at bytes text reading at line valid stops more counts =
    let so_far = stops.so_far.so_far in
    let front = encode_utf8_all (texts so_far.front) in
    let whole : bytes ≡ front ++ (encode_utf8_all stops.left ++ valid.rest) = front_is bytes text reading at valid stops in
    let size_is : length front ≡ at = size_bytes (texts so_far.front) ∙ sym so_far.at in
    record {
      none = λ contents says. let within : length bytes ≤ at = lines_within bytes text reading at valid stops bytes [] says.spelled (sym (append-nil bytes)) says.are in omega (arith, within, more);
      front = front;
      is_longest = record {
        rest = encode_utf8_all stops.left ++ valid.rest;
        there = whole;
        spelled = so_far.front;
        are = front_lines text stops.left so_far.front valid.utf8 so_far.reach;
        longest = λ other left others there are. let within : length other ≤ at = lines_within bytes text reading at valid stops other left others there are in omega (arith, within, size_is);
      };
      counts = counts ∙ ap (λ l. suc (count_by (λ b. nat_eq b 10) l)) (ap (λ l. take at l) whole ∙ take_at front (encode_utf8_all stops.left ++ valid.rest) at size_is);
    }

-- bytes are lines in one way
one_list : (bytes : List ℕ) (spelled others : List (Spelled (Option Item))) → AreLines bytes spelled → AreLines bytes others → spelled ≡ others
one_list bytes spelled others are also = one_reading IsItem calls_in line_at items_read (chars bytes) spelled others are.reading also.reading

-- and say one thing
pub one_contents : (bytes : List ℕ) (contents other : Contents) → Says bytes contents → Says bytes other → contents ≡ other
one_contents bytes contents other a b = a.is ∙ (ap (λ l. contents_of (items l)) (one_list bytes a.spelled b.spelled a.are b.are) ∙ sym b.is)
