-- How far a script is read: what the lines so far say, and where the reader finds no line.
use Rattle.std.specs.Prelude.{◌≡◌, ℕ, ◌+◌, ◌≤◌, List, [], ◌∷◌, ◌++◌, length, Option, None}
use Rattle.std.specs.List.{fold}
use Rattle.std.specs.Str.{IsUtf8}
use Rattle.text_cut.specs.Runs.{size}
use Rattle.text_cut.specs.Place.{Place, place}
use Rattle.text_cut.specs.Reading.{SoFar}
use Rattle.ra_cfg.specs.Options.{only_true}
use Rattle.gated_calls.specs.declared.call.Call.{Call}
use Rattle.script_tokens.specs.Items.{item_at}
use Rattle.script_grammar.specs.Limits.{usual_limit}
use Rattle.script_grammar.specs.declared.item.Item.{Item}
use Rattle.script_grammar.specs.Items.{item_of}
use Rattle.script_grammar.specs.Script.{IsItem, calls_in}
use Rattle.script.specs.declared.reading.Reading.{Reading}
use Rattle.script.specs.Contents.{options_with, macros_with, limit_with, items_with, all_items, waiting_with, calls_at, calls_behind}

-- a line was added to what the lines in front of it say
pub record GoesOn (old : Reading) (line : Option Item) (new : Reading) : Type 0 where
  pub options : new.options ≡ options_with old.options line
  pub macros : new.macros ≡ macros_with old.macros line
  pub limit : new.limit ≡ limit_with old.limit line
  pub items : new.items ≡ items_with old.items line
  pub waiting : new.waiting ≡ waiting_with old.waiting line
  pub calls : new.calls.items ≡ old.calls.items ++ calls_at old.waiting line

-- a call was added to what the lines in front of it say, with the predicates that waited for it
pub record AddsCall (old : Reading) (call : Call) (new : Reading) : Type 0 where
  pub same_options : new.options ≡ old.options
  pub same_macros : new.macros ≡ old.macros
  pub same_limit : new.limit ≡ old.limit
  pub same_items : new.items ≡ old.items
  pub none_waits : new.waiting ≡ []
  pub calls : new.calls.items ≡ old.calls.items ++ record { cfgs = old.waiting; call = call } ∷ []

-- these lines were read
pub record HasRead (reading : Reading) (lines : List (Option Item)) : Type 0 where
  pub options : reading.options ≡ fold options_with only_true lines
  pub macros : reading.macros ≡ fold macros_with [] lines
  pub limit : reading.limit ≡ fold limit_with usual_limit lines
  pub items : reading.items ≡ fold items_with all_items lines
  pub waiting : reading.waiting ≡ fold waiting_with [] lines
  pub calls : reading.calls.items ≡ calls_behind [] lines

-- the lines up to this place were read; there are no more calls and no more macros than characters that were passed
pub record ReadSoFar (text : List ℕ) (reading : Reading) (here : Place) : Type 0 where
  pub lines : List (Option Item)
  pub so_far : SoFar IsItem calls_in text lines (length reading.calls.items) here
  pub has_read : HasRead reading lines
  pub few_calls : length reading.calls.items + size here.left ≤ size text
  pub few_macros : length reading.macros + size here.left ≤ size text

-- the lines up to this byte were read, and none follows them
pub record StopsBehind (text : List ℕ) (reading : Reading) (at : ℕ) : Type 0 where
  pub left : List ℕ
  pub so_far : ReadSoFar text reading (place at left)
  pub none : item_at (item_of (length reading.calls.items)) (place at left) ≡ None

-- the text is the longest front of the bytes that is UTF-8
pub record IsValidFront (bytes text : List ℕ) : Type 0 where
  pub rest : List ℕ
  pub there : bytes ≡ text ++ rest
  pub utf8 : IsUtf8 text
  pub longest : (other left : List ℕ) → IsUtf8 other → bytes ≡ other ++ left → length other ≤ length text
