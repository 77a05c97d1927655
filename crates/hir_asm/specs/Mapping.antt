-- Which operands the templates of a call of inline assembly put. (Rust reference, inline assembly, "Template string arguments".)
use Rattle.std.specs.Prelude.{◌≡◌, ◌⊎◌, ℕ, ◌+◌, ◌==◌, Bool, true, false, not, if◌then◌else◌, MatchBool, List, [], ◌∷◌, ◌++◌, slice_get, Option, Some, None}
use Rattle.std.specs.Int.RustNames.{bit_and}
use Rattle.std.specs.Option.{option_and_then, option_or}
use Rattle.sym_core.specs.declared.name.Name.{Name}
use Rattle.sym_core.specs.declared.text_range.TextRange.{TextRange}
use Rattle.syn_trees.specs.Literal.{HasValue, HasNoValue}
use Rattle.syn_trees.specs.declared.format_call.Template.{Template}
use Rattle.fmt_parse.specs.declared.piece.Position.{Position}
use Rattle.fmt_parse.specs.declared.piece.Position.TheVariants as position
use Rattle.fmt_parse.specs.declared.piece.Argument.{Argument}
use Rattle.fmt_parse.specs.declared.piece.Piece.{Piece}
use Rattle.fmt_parse.specs.declared.piece.Piece.TheVariants.{Lit, NextArgument}
use Rattle.fmt_parse.specs.declared.asm.AsmRead.{AsmRead}
use Rattle.fmt_parse.specs.Asm.{IsAsmRead}
use Rattle.hir_fmt.specs.References.{Source, span_in, name_in}
use Rattle.hir_fmt.specs.Parsed.{HasShift}
use Rattle.hir_fmt.specs.Firsts.{same_name}
use Rattle.hir_expander.specs.Reached.{is_direct}
use Rattle.hir_store.specs.declared.asm.AsmRow.{AsmRow}
use Rattle.hir_store.specs.declared.asm.InlineAsmRegOrRegClass.{InlineAsmRegOrRegClass}
use Rattle.hir_store.specs.declared.asm.InlineAsmRegOrRegClass.TheVariants.{Reg, RegClass}
use Rattle.hir_store.specs.Tree.{Shape, In, Out, InOut, SplitInOut, Label, Const, Sym}

-- an operand as templates see it: its name where it has one, and what it is
abbrev pub Head : Type 0
Head = Option Name × Shape

-- a register that is named itself, and not by its class
abbrev pub is_explicit : InlineAsmRegOrRegClass → Bool
is_explicit (Reg token) = true
is_explicit (RegClass word) = false

-- an operand in such a register
abbrev pub has_register : Shape → Bool
has_register (In register) = is_explicit register
has_register (Out register late) = is_explicit register
has_register (InOut register late) = is_explicit register
has_register (SplitInOut register late) = is_explicit register
has_register Label = false
has_register Const = false
has_register (Sym path) = false

-- numbers denote operands that have neither a name nor a register of their own
abbrev pub is_numbered : Head → Bool
is_numbered (Some name, shape) = false
is_numbered (None, shape) = not (has_register shape)

-- the operand that a number denotes: the one at that place, if it is one that numbers denote
abbrev pub by_number : List Head → ℕ → Option ℕ
by_number heads number = option_and_then (λ head. if is_numbered head then Some number else None) (slice_get heads number)

-- a place, where the operand there bears the name
abbrev pub place_if : ℕ → Name → Option Name → Option ℕ
place_if place name None = None
place_if place name (Some other) = if same_name name other then Some place else None

-- the place of the last operand that bears a name; the first operand stands at this place
abbrev pub last_from : ℕ → List Head → Name → Option ℕ
last_from place [] name = None
last_from place (head ∷ heads) name = option_or (last_from (place + 1) heads name) (place_if place name head.0)

-- the operand that a placeholder denotes, if it denotes one
abbrev pub denoted : List Head → Source → Position → Option ℕ
denoted heads source (position.ImplicitlyIs number) = by_number heads number
denoted heads source (position.Is number) = by_number heads number
denoted heads source (position.Named range) = last_from 0 heads (name_in source range)

-- the places of a row
abbrev pub Places : Type 0
Places = List (TextRange × ℕ)

-- a span with an operand, where both are there
abbrev pub both : Option TextRange → Option ℕ → Places
both (Some span) (Some place) = (span, place) ∷ []
both (Some span) None = []
both None place = []

-- what a placeholder puts
abbrev pub puts : List Head → Source → Argument → Places
puts heads source argument = both (span_in source argument.position_span) (denoted heads source argument.position)

-- where the pieces of a text put operands: at each placeholder that denotes one and has a span
abbrev pub places_in : List Head → Source → List Piece → Places
places_in heads source [] = []
places_in heads source (Lit range ∷ pieces) = places_in heads source pieces
places_in heads source (NextArgument argument ∷ pieces) = puts heads source argument ++ places_in heads source pieces

-- the row of a literal whose value is read, from the counter on, as far as it can be
pub record IsRead (heads : List Head) (token : List ℕ) (direct : Bool) (counter : ℕ) (places : Places) (after : ℕ) : Type 0 where
  pub source : Source
  pub value : HasValue token source.text
  pub shift : HasShift token direct source.shift
  pub read : AsmRead
  pub is : IsAsmRead counter source.text read
  pub puts : places ≡ places_in heads source read.pieces.items
  pub counts : after ≡ read.curarg

-- the row of a literal without a value, which leaves the counter
pub record IsUnread (token : List ℕ) (counter : ℕ) (places : Places) (after : ℕ) : Type 0 where
  pub none : HasNoValue token
  pub puts : places ≡ []
  pub counts : after ≡ counter

-- the row of a literal
abbrev pub IsLiteralRow : List Head → List ℕ → Bool → ℕ → Places → ℕ → Type 0
IsLiteralRow heads token direct counter places after = IsRead heads token direct counter places after ⊎ IsUnread token counter places after

-- the row of a template that reaches this literal or none; it has none where it reaches none
abbrev pub IsReachedRow : List Head → Option (List ℕ) → Bool → ℕ → Option Places → ℕ → Type 0
IsReachedRow heads None direct counter row after = (row ≡ None) × (after ≡ counter)
IsReachedRow heads (Some token) direct counter row after = (places : Places) × (row ≡ Some places) × IsLiteralRow heads token direct counter places after

-- the rows of templates, one after the other: each literal that is read goes on with the counter that the last one left
abbrev pub AreRows : List Head → (Template → Option (List ℕ)) → ℕ → List Template → List (Option Places) → ℕ → Type 0
AreRows heads reaches counter [] [] last = last ≡ counter
AreRows heads reaches counter [] (row ∷ rows) last = ⊥
AreRows heads reaches counter (template ∷ templates) [] last = ⊥
AreRows heads reaches counter (template ∷ templates) (row ∷ rows) last = (after : ℕ) × IsReachedRow heads (reaches template) (is_direct template) counter row after × AreRows heads reaches after templates rows last

-- a row in front of others; an empty one where there is none, unless nothing follows
abbrev pub in_front : Option Places → List AsmRow → List AsmRow
in_front (Some places) rows = record { places = places } ∷ rows
in_front None [] = []
in_front None (row ∷ rows) = record { places = [] } ∷ row ∷ rows

-- the rows up to the last one that is there
abbrev pub up_to_last : List (Option Places) → List AsmRow
up_to_last [] = []
up_to_last (row ∷ rows) = in_front row (up_to_last rows)

-- the mapping of templates: a row for each, up to the last that reaches a literal
pub record AreMapped (heads : List Head) (reaches : Template → Option (List ℕ)) (templates : List Template) (mapping : List AsmRow) : Type 0 where
  pub rows : List (Option Places)
  pub last : ℕ
  pub are : AreRows heads reaches 0 templates rows last
  pub is : mapping ≡ up_to_last rows

-- the bit of raw templates
abbrev pub raw_bit : ℕ
raw_bit = 128

-- the mapping of a call: raw templates put no operands
abbrev pub IsMapping : ℕ → List Head → (Template → Option (List ℕ)) → List Template → List AsmRow → Type 0
IsMapping bits heads reaches templates mapping = MatchBool (bit_and bits raw_bit == raw_bit) (mapping ≡ []) (AreMapped heads reaches templates mapping)
