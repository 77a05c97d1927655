-- A rule says what a text stands for; a reader finds what stands at a place.
use Rattle.std.specs.Prelude.{◌≡◌, ℕ, ◌+◌, Bool, true, false, List, [], ◌∷◌, ◌++◌, Option, Some, None, nat_eq, if◌then◌else◌, option_and_then, option_map}
use Rattle.std.specs.Char.{len_utf8}
use Rattle.text_cut.specs.Runs.{front, size, IsLongest}
use Rattle.text_cut.specs.Place.{Place, place, past, Took}

-- what a text stands for: the offset where it begins, the text, its value, and the characters that follow it
abbrev pub Rule : Type 0 → Type 1
Rule X = ℕ → List ℕ → X → List ℕ → Type 0

-- what stands at a place and the place behind it, or nothing
abbrev pub Reader : Type 0 → Type 0
Reader X = Place → Option (X × Place)

-- by the rule, some text stands at p, stands for r.0, and ends at r.1
pub record Spells {X : Type 0} (A : ℕ → List ℕ → X → List ℕ → Type 0) (p : Place) (r : X × Place) : Type 0 where
  pub text : List ℕ
  pub took : Took p r.1 text
  pub rule : A p.at text r.0 r.1.left

-- the reader finds what the rule says, and only that
pub record Reads {X : Type 0} (A : ℕ → List ℕ → X → List ℕ → Type 0) (f : Place → Option (X × Place)) : Type 0 where
  pub found : (at : ℕ) (text : List ℕ) (v : X) (rest : List ℕ) → A at text v rest → f (place at (text ++ rest)) ≡ Some (v, place (at + size text) rest)
  pub is : (p : Place) (r : X × Place) → f p ≡ Some r → Spells A p r

-- one rule, and behind it another
pub record Both {X Y : Type 0} (A : ℕ → List ℕ → X → List ℕ → Type 0) (B : ℕ → List ℕ → Y → List ℕ → Type 0) (at : ℕ) (text : List ℕ) (v : X × Y) (rest : List ℕ) : Type 0 where
  pub former_text : List ℕ
  pub latter_text : List ℕ
  pub whole : text ≡ former_text ++ latter_text
  pub former : A at former_text v.0 (latter_text ++ rest)
  pub latter : B (at + size former_text) latter_text v.1 rest

-- the pair of a first value and what is read behind it
abbrev pub paired : {X Y : Type 0} → (Place → Option (Y × Place)) → X × Place → Option ((X × Y) × Place)
paired g r = option_map (λ s. ((r.0, s.0), s.1)) (g r.1)

-- one reader, and behind it another
abbrev pub both_at : {X Y : Type 0} → (Place → Option (X × Place)) → (Place → Option (Y × Place)) → Place → Option ((X × Y) × Place)
both_at f g p = option_and_then (paired g) (f p)

-- a test of a character and of what follows it; an empty text fails it
abbrev pub sees : (ℕ → List ℕ → Bool) → List ℕ → Bool
sees test [] = false
sees test (c ∷ cs) = test c cs

-- one character where the test holds of it and of what follows, else none
abbrev pub IsOne : {X : Type 0} → (ℕ → List ℕ → Bool) → (ℕ → X) → X → ℕ → List ℕ → X → List ℕ → Type 0
IsOne test make none at [] v rest = (sees test rest ≡ false) × (v ≡ none)
IsOne test make none at (c ∷ []) v rest = (test c rest ≡ true) × (v ≡ make c)
IsOne test make none at (c ∷ d ∷ text) v rest = ⊥

-- the same as a function of the characters behind an offset
abbrev pub one_in : {X : Type 0} → (ℕ → List ℕ → Bool) → (ℕ → X) → X → ℕ → List ℕ → Option (X × Place)
one_in test make none at [] = Some (none, place at [])
one_in test make none at (c ∷ cs) = if test c cs then Some (make c, place (at + len_utf8 c) cs) else Some (none, place at (c ∷ cs))

-- the reader of one character or none
abbrev pub one_at : {X : Type 0} → (ℕ → List ℕ → Bool) → (ℕ → X) → X → Place → Option (X × Place)
one_at test make none p = one_in test make none p.at p.left

-- the text is exactly the word
abbrev pub IsWord : List ℕ → ℕ → List ℕ → Unit {0} → List ℕ → Type 0
IsWord word at text v rest = text ≡ word

-- the place behind the word, if the characters behind an offset begin with it
abbrev pub word_in : List ℕ → ℕ → List ℕ → Option Place
word_in [] at text = Some (place at text)
word_in (d ∷ word) at [] = None
word_in (d ∷ word) at (c ∷ cs) = if nat_eq c d then word_in word (at + len_utf8 c) cs else None

-- the place behind the word, if it stands at this place, which `eat` finds
abbrev pub past_word : List ℕ → Place → Option Place
past_word word p = word_in word p.at p.left

-- the reader of a word
abbrev pub word_at : List ℕ → Place → Option (Unit {0} × Place)
word_at word p = option_map (λ e. (tt, e)) (past_word word p)

-- the text is the longest run of passing characters, and stands for itself
pub record IsRun (p : ℕ → Bool) (at : ℕ) (text : List ℕ) (v : List ℕ) (rest : List ℕ) : Type 0 where
  pub longest : IsLongest p text rest
  pub value : v ≡ text

-- the reader of a longest run
abbrev pub run_at : (ℕ → Bool) → Place → Option (List ℕ × Place)
run_at p here = Some (front p here.left, past p here)
