-- A text is a list of characters: how it begins, its longest run of some kind, and how many bytes it takes.
use Rattle.std.specs.Prelude.{◌≡◌, ℕ, ◌+◌, Bool, true, false, List, [], ◌∷◌, if◌then◌else◌, ◌==◌, ◌||◌}
use Rattle.std.specs.Char.{len_utf8}

-- the text begins with a character that passes
abbrev pub starts : (ℕ → Bool) → List ℕ → Bool
starts p [] = false
starts p (c ∷ cs) = p c

-- the text without its first character
abbrev pub tail : List ℕ → List ℕ
tail [] = []
tail (c ∷ cs) = cs

-- the longest run of passing characters that the text begins with
abbrev pub front : (ℕ → Bool) → List ℕ → List ℕ
front p [] = []
front p (c ∷ cs) = if p c then c ∷ front p cs else []

-- what follows that run
abbrev pub behind : (ℕ → Bool) → List ℕ → List ℕ
behind p [] = []
behind p (c ∷ cs) = if p c then behind p cs else c ∷ cs

-- every character passes
abbrev pub AllPass : (ℕ → Bool) → List ℕ → Type 0
AllPass p [] = Unit {0}
AllPass p (c ∷ cs) = (p c ≡ true) × AllPass p cs

-- the text passes whole, and what follows it does not go on passing
pub record IsLongest (p : ℕ → Bool) (text rest : List ℕ) : Type 0 where
  pub pass : AllPass p text
  pub stops : starts p rest ≡ false

-- the bytes that the text takes in UTF-8
abbrev pub size : List ℕ → ℕ
size [] = 0
size (c ∷ cs) = len_utf8 c + size cs

-- the character is a space, a TAB or a CR
abbrev pub is_blank : ℕ → Bool
is_blank c = (c == 32) || ((c == 9) || (c == 13))

-- each answer to a character is the test's
abbrev pub AnswersAs : (ℕ → Bool → Type 0) → (ℕ → Bool) → Type 0
AnswersAs answers p = (c : ℕ) (r : Bool) → answers c r → r ≡ p c
