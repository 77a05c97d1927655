-- A script is a list of lines, one after the other, that covers its text; a string may go on over several lines of the text.
use Rattle.std.specs.Prelude.{◌≡◌, ℕ, ◌≤◌, Bool, false, nat_eq, suc, List, [], ◌∷◌, ◌++◌, length, count_by, cond, Option}
use Rattle.std.specs.Str.{IsUtf8, chars}
use Rattle.text_cut.specs.Reading.{Spelled, items, IsReading}
use Rattle.script_grammar.specs.declared.item.Item.{Item}
use Rattle.script_grammar.specs.Script.{IsItem}
use Rattle.script.specs.declared.script.Script.{Script}
use Rattle.script.specs.Contents.{Contents, contents_of}

-- what a script that was read says
abbrev pub contents : Script → Contents
contents script = record { options = script.options; macros = script.macros; limit = script.limit; items = script.items; calls = script.calls.items }

-- the bytes are these lines with their spellings
pub record AreLines (bytes : List ℕ) (spelled : List (Spelled (Option Item))) : Type 0 where
  pub utf8 : IsUtf8 bytes
  pub reading : IsReading IsItem (chars bytes) spelled

-- the bytes are lines, and this is what they say
pub record Says (bytes : List ℕ) (contents : Contents) : Type 0 where
  pub spelled : List (Spelled (Option Item))
  pub are : AreLines bytes spelled
  pub is : contents ≡ contents_of (items spelled)

-- whether the last of the bytes is a line feed
abbrev pub ends_line : List ℕ → Bool
ends_line [] = false
ends_line (b ∷ []) = nat_eq b 10
ends_line (b ∷ c ∷ bytes) = ends_line (c ∷ bytes)

-- the bytes, with a line feed behind them where there are some and the last one is none
abbrev pub with_end : List ℕ → List ℕ
with_end [] = []
with_end (b ∷ bytes) = cond (ends_line (b ∷ bytes)) (b ∷ bytes) ((b ∷ bytes) ++ 10 ∷ [])

-- the bytes are a script that says this
abbrev pub IsScript : List ℕ → Contents → Type 0
IsScript bytes contents = Says (with_end bytes) contents

-- this is the longest front of the bytes that is a list of whole lines
pub record IsLongestFront (bytes front : List ℕ) : Type 0 where
  pub rest : List ℕ
  pub there : bytes ≡ front ++ rest
  pub spelled : List (Spelled (Option Item))
  pub are : AreLines front spelled
  pub longest : (other left : List ℕ) (others : List (Spelled (Option Item))) → bytes ≡ other ++ left → AreLines other others
      → length other ≤ length front

-- the bytes are no lines of a script, and the first broken one begins in this line of the text, counted from 1
pub record BreaksAt (bytes : List ℕ) (line : ℕ) : Type 0 where
  pub none : (contents : Contents) → Says bytes contents → ⊥
  pub front : List ℕ
  pub is_longest : IsLongestFront bytes front
  pub counts : line ≡ suc (count_by (λ b. nat_eq b 10) front)

-- the bytes are no script, and the first broken item begins in this line, counted from 1
abbrev pub IsFaultLine : List ℕ → ℕ → Type 0
IsFaultLine bytes line = BreaksAt (with_end bytes) line
