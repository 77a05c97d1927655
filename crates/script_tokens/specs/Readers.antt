-- Readers: functions that take a value from the front of a list of tokens, or find none there.
use Rattle.std.specs.Prelude.{ℕ, Bool, true, false, ◌==◌, List, Option, Some, None}
use Rattle.syn_trees.specs.declared.token_tree.Spacing.TheVariants.{Joint}
use Rattle.syn_trees.specs.ReadQuoted.{Str}
use Rattle.script_tokens.specs.declared.token.Bracket.TheVariants.{Round}
use Rattle.script_tokens.specs.Tokens.{Kind, Word, Numeral, Text, Mark, Open, Close, Tok}
use Rattle.script_tokens.specs.Ahead.{uncons}

-- what an answer leads on to
infixl 10 ◌>>=◌
abbrev pub ◌>>=◌ : {A B : Type 0} → Option A → (A → Option B) → Option B
None >>= f = None
(Some a) >>= f = f a

-- an answer's own way on, or else another
abbrev pub if_there : {A B : Type 0} → Option A → (A → B) → B → B
if_there None go other = other
if_there (Some a) go other = go a

-- what a test makes of the first token, and the tokens behind it
abbrev pub take : {A : Type 0} → (Tok → Option A) → List Tok → Option (A × List Tok)
take f toks = do
  first ← uncons toks
  a ← f first.0
  Some (a, first.1)

-- the bytes of a word
abbrev pub word_of : Kind → Option (List ℕ)
word_of (Word text) = Some text
word_of other = None

-- the bytes of a numeral
abbrev pub numeral_of : Kind → Option (List ℕ)
numeral_of (Numeral text) = Some text
numeral_of other = None

-- the bytes of a string token
abbrev pub text_of : Kind → Option Str
text_of (Text token) = Some token
text_of other = None

-- whether it is this mark
abbrev pub is_mark : ℕ → Kind → Bool
is_mark d (Mark c spacing) = c == d
is_mark d other = false

-- whether it is this mark with another directly behind it
abbrev pub is_joint_mark : ℕ → Kind → Bool
is_joint_mark d (Mark c Joint) = c == d
is_joint_mark d other = false

-- whether it opens, or closes, a pair of `(` and `)`
abbrev pub opens_round : Kind → Bool
opens_round (Open Round) = true
opens_round other = false

abbrev pub closes_round : Kind → Bool
closes_round (Close Round) = true
closes_round other = false

-- nothing but that a test holds
abbrev pub when : Bool → Option (Unit {0})
when true = Some tt
when false = None

-- a word and its bytes; a string token
abbrev pub word : List Tok → Option (List ℕ × List Tok)
word toks = take (λ tok. word_of tok.kind) toks

abbrev pub text : List Tok → Option (Str × List Tok)
text toks = take (λ tok. text_of tok.kind) toks

-- this mark; this mark with another directly behind it
abbrev pub mark : ℕ → List Tok → Option (Unit {0} × List Tok)
mark c toks = take (λ tok. when (is_mark c tok.kind)) toks

abbrev pub joint_mark : ℕ → List Tok → Option (Unit {0} × List Tok)
joint_mark c toks = take (λ tok. when (is_joint_mark c tok.kind)) toks

-- a round bracket that opens, or that closes
abbrev pub open_round : List Tok → Option (Unit {0} × List Tok)
open_round toks = take (λ tok. when (opens_round tok.kind)) toks

abbrev pub close_round : List Tok → Option (Unit {0} × List Tok)
close_round toks = take (λ tok. when (closes_round tok.kind)) toks

-- an arrow: `=` and `>` directly behind it
abbrev pub arrow : List Tok → Option (Unit {0} × List Tok)
arrow toks = joint_mark 61 toks >>= λ equals. mark 62 equals.1

-- what is read behind a mark
abbrev pub behind : {V : Type 0} → ℕ → (List Tok → Option (V × List Tok)) → List Tok → Option (V × List Tok)
behind c read toks = mark c toks >>= λ m. read m.1

-- the value, where no token is left
abbrev pub whole : {V : Type 0} → V × List Tok → Option V
whole r = if_there (uncons r.1) (λ more. None) (Some r.0)

-- what a reader makes of a whole list of tokens
abbrev pub whole_by : {V : Type 0} → (List Tok → Option (V × List Tok)) → List Tok → Option V
whole_by read toks = read toks >>= λ r. whole r
