-- Items of a text, for any grammar on the tokens of a line: each is a line that the grammar takes whole, or one without meaning.
use Rattle.std.specs.Prelude.{◌≡◌, ℕ, Bool, List, [], ◌∷◌, Option, Some, None, option_map}
use Rattle.text_cut.specs.Place.{Place}
use Rattle.text_cut.specs.Reading.{Spelled}
use Rattle.syn_trees.specs.declared.token_tree.Spacing.{Spacing}
use Rattle.script_tokens.specs.Tokens.{Mark, Tok}
use Rattle.script_tokens.specs.Ahead.{toks_at, end_at}
use Rattle.script_tokens.specs.Lines.{IsLine, IsBlankLine, past_line, past_blank_line}

-- the grammar takes nothing of a line without meaning: no empty list, and none whose first token is `#`
pub record SkipsBlankLines {I : Type 0} (item_of : List Tok → Option I) : Type 0 where
  pub no_tokens : item_of [] ≡ None
  pub comment : (spaced : Bool) (spacing : Spacing) (toks : List Tok) → item_of (record { spaced = spaced; kind = Mark 35 spacing } ∷ toks) ≡ None

-- the text is a line whose tokens are this item
pub record IsTaken {I : Type 0} (item_of : List Tok → Option I) (text : List ℕ) (item : I) : Type 0 where
  pub toks : List Tok
  pub line : IsLine text toks
  pub taken : item_of toks ≡ Some item

-- the spellings of an item, or of a line without meaning; the grammar may look at the state that the lines in front leave
abbrev pub IsItem : {I S : Type 0} → (List (Spelled (Option I)) → S) → (S → List Tok → Option I) → List (Spelled (Option I)) → List ℕ → Option I → List ℕ → Type 0
IsItem state_of item_of front text None rest = IsBlankLine text
IsItem state_of item_of front text (Some item) rest = IsTaken (item_of (state_of front)) text item

-- an item that ends there
abbrev pub ended : {I : Type 0} → Option I → Option Place → Option (I × Place)
ended None end = None
ended (Some item) None = None
ended (Some item) (Some e) = Some (item, e)

-- the item that stands at a place, by a grammar on tokens, and the place behind its line
abbrev pub taken_at : {I : Type 0} → (List Tok → Option I) → Place → Option (I × Place)
taken_at item_of p = ended (item_of (toks_at p)) (past_line (end_at p))

-- an item, or else a line without meaning
abbrev pub or_blank : {I : Type 0} → Option (I × Place) → Option Place → Option (Option I × Place)
or_blank (Some taken) blank = Some (Some taken.0, taken.1)
or_blank None blank = option_map (λ e. (None, e)) blank

-- the item, or the line without meaning, that stands at a place, and the place behind it
abbrev pub item_at : {I : Type 0} → (List Tok → Option I) → Place → Option (Option I × Place)
item_at item_of p = or_blank (taken_at item_of p) (past_blank_line p)
