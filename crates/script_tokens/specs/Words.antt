-- The characters of a script's words and comments (Unicode Standard Annex 31).
use Rattle.std.specs.Prelude.{◌≡◌, ℕ, Bool, true, ◌||◌, not, nat_eq, List, [], ◌∷◌}
use Rattle.unicode_ident.specs.Ident.{is_xid_start, is_xid_continue}
use Rattle.text_cut.specs.Runs.{AllPass}

-- a character that Unicode lets begin a word (XID_Start), or `_`
abbrev pub begins_word : ℕ → Bool
begins_word c = is_xid_start c || nat_eq c 95

-- a character that Unicode lets go on a word (XID_Continue); `_` is one
abbrev pub continues_word : ℕ → Bool
continues_word c = is_xid_continue c

-- a character that begins a word, and characters that go on one
abbrev pub IsWord : List ℕ → Type 0
IsWord [] = ⊥
IsWord (c ∷ cs) = (begins_word c ≡ true) × AllPass continues_word cs

-- a character that does not end a line
abbrev pub is_in_line : ℕ → Bool
is_in_line c = not (nat_eq c 10)

-- nothing, or a comment: `#` and any characters of its line
abbrev pub IsComment : List ℕ → Type 0
IsComment [] = Unit {0}
IsComment (c ∷ cs) = (c ≡ 35) × AllPass is_in_line cs
