-- The steps of a reading: past a line without meaning, past an item, and where neither stands.
use Rattle.std.proofs.Common.{◌≡◌, ℕ, ◌≤◌, ◌<◌, List, length, Some, None, refl, ap, ◌∙◌, sym, arith}
use Rattle.std.specs.Str.{IsUtf8, chars}
use Rattle.std.proofs.lemmas.List.{append-nil}
use Rattle.std.proofs.lemmas.Str.{encodes-chars}
use Rattle.text_cut.specs.Runs.{size}
use Rattle.text_cut.specs.Place.{Place}
use Rattle.text_cut.proofs.Sizes.{size_bytes}
use Rattle.script_tokens.specs.Lines.{past_blank_line}
use Rattle.script_tokens.specs.Items.{taken_at, item_at}
use Rattle.script_tokens.proofs.Items.{item_taken, nothing_there, blank_there}
use Rattle.script_grammar.specs.declared.item.Item.{Item}
use Rattle.script_grammar.specs.Items.{item_of}
use Rattle.script_grammar.proofs.Script.{skips}
use Rattle.script.specs.declared.reading.Reading.{Reading}
use Rattle.script.specs.ReadLines.{GoesOn, ReadSoFar, StopsBehind}
use Rattle.script.proofs.Lines.{reading_goes_on, less_left}

-- a line without meaning adds nothing
nothing_added : (reading : Reading) → GoesOn reading None reading
nothing_added reading = record { options = refl; macros = refl; limit = refl; items = refl; waiting = refl; calls = sym (append-nil reading.calls.items) }

module _ (text : List ℕ) (reading : Reading) (here e : Place) (so_far : ReadSoFar text reading here) where
  module _ (found : Some e ≡ past_blank_line here) where
    blank_stands : item_at (item_of (length reading.calls.items)) here ≡ Some (None, e)
    blank_stands = blank_there (item_of (length reading.calls.items)) (skips (length reading.calls.items)) here e (sym found)

    pub blank_less : size e.left < size here.left
    blank_less = less_left text reading here None e so_far blank_stands

    pub blank_passed : ReadSoFar text reading e
    blank_passed = reading_goes_on text reading reading here None e so_far blank_stands (nothing_added reading)

  module _ (number : ℕ) (next : number ≡ length reading.calls.items) (item : Item) (found : Some (item, e) ≡ taken_at (item_of number) here) where
    item_stands : item_at (item_of (length reading.calls.items)) here ≡ Some (Some item, e)
    item_stands = item_taken (item_of (length reading.calls.items)) here (item, e) (ap (λ n. taken_at (item_of n) here) (sym next) ∙ sym found)

    pub item_less : size e.left < size here.left
    item_less = less_left text reading here (Some item) e so_far item_stands

    pub item_passed : (new : Reading) → GoesOn reading (Some item) new → ReadSoFar text new e
    item_passed new goes = reading_goes_on text reading new here (Some item) e so_far item_stands goes

-- where neither stands, the reading stops
pub stops : (text : List ℕ) (reading : Reading) (here : Place) → ReadSoFar text reading here → None ≡ past_blank_line here → (number : ℕ) → number ≡ length reading.calls.items → None ≡ taken_at (item_of number) here → StopsBehind text reading here.at
stops text reading here so_far blank number next none = record {
  left = here.left;
  so_far = so_far;
  none = nothing_there (item_of (length reading.calls.items)) here (ap (λ n. taken_at (item_of n) here) (sym next) ∙ sym none) (sym blank);
}

-- the characters of a text are its bytes
text_size : (text : List ℕ) → IsUtf8 text → size (chars text) ≡ length text
text_size text utf8 = sym (size_bytes (chars text)) ∙ ap length (encodes-chars text utf8)

-- there are no more calls than bytes, and no more macros
pub few_calls : (text : List ℕ) (reading : Reading) (here : Place) (most : ℕ) → IsUtf8 text → ReadSoFar (chars text) reading here → length text ≤ most → length reading.calls.items ≤ most
few_calls text reading here most utf8 so_far small = omega (arith, so_far.few_calls, text_size text utf8, small)

pub few_macros : (text : List ℕ) (reading : Reading) (here : Place) (most : ℕ) → IsUtf8 text → ReadSoFar (chars text) reading here → length text ≤ most → length reading.macros ≤ most
few_macros text reading here most utf8 so_far small = omega (arith, so_far.few_macros, text_size text utf8, small)
