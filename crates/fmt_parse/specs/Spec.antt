-- What stands behind the colon of a placeholder (std::fmt, section "Syntax": format_spec).
use Rattle.std.specs.Prelude.{◌≡◌, ◌+◌, ◌⊎◌, ℕ, Bool, true, false, not, ◌==◌, ◌||◌, ◌&&◌, if◌then◌else◌, List, [], ◌∷◌, ◌++◌, Option, Some, None}
use Rattle.std.specs.Char.{len_utf8, is_ascii_digit}
use Rattle.unicode_ident.specs.Ident.{is_xid_continue}
use Rattle.sym_core.specs.declared.text_range.TextRange.{TextRange}
use Rattle.text_cut.specs.Runs.{starts, tail, behind}
use Rattle.text_cut.specs.Rules.{Both, IsOne}
use Rattle.fmt_parse.specs.declared.piece.Alignment.{Alignment}
use Rattle.fmt_parse.specs.declared.piece.Alignment.TheVariants.{Left, Right, Center, Unknown}
use Rattle.fmt_parse.specs.declared.piece.Sign.{Sign}
use Rattle.fmt_parse.specs.declared.piece.Sign.TheVariants.{Plus, Minus}
use Rattle.fmt_parse.specs.declared.piece.DebugHex.{DebugHex}
use Rattle.fmt_parse.specs.declared.piece.DebugHex.TheVariants.{Lower, Upper}
use Rattle.fmt_parse.specs.declared.piece.Count.{Count}
use Rattle.fmt_parse.specs.declared.piece.Count.TheVariants as count
use Rattle.fmt_parse.specs.declared.piece.FormatSpec.{FormatSpec}
use Rattle.fmt_parse.specs.Tokens.{range, IsInt, IsName, starts_name, is_colon, is_dollar, is_dot, is_star, is_question, is_x, is_align}

-- FILL AND ALIGNMENT: where the second character is an alignment, the first is the fill, whatever it is; else the first may be one
abbrev pub align_of : ℕ → Alignment
align_of c = if c == 60 then Left else (if c == 94 then Center else Right)

abbrev pub IsAlign : ℕ → List ℕ → Option ℕ × Alignment → List ℕ → Type 0
IsAlign at [] v rest = (starts is_align (tail rest) ≡ false) × (starts is_align rest ≡ false) × (v ≡ (None, Unknown))
IsAlign at (c ∷ []) v rest = (starts is_align rest ≡ false) × (is_align c ≡ true) × (v ≡ (None, align_of c))
IsAlign at (c ∷ d ∷ []) v rest = (is_align d ≡ true) × (v ≡ (Some c, align_of d))
IsAlign at (c ∷ d ∷ e ∷ text) v rest = ⊥

-- SIGN
abbrev pub sign_test : ℕ → List ℕ → Bool
sign_test c cs = (c == 43) || (c == 45)

abbrev pub sign_of : ℕ → Option Sign
sign_of c = Some (if c == 43 then Plus else Minus)

-- the flag `#`
abbrev pub hash_test : ℕ → List ℕ → Bool
hash_test c cs = c == 35

-- the flag `0`: a `0` that no `$` follows
abbrev pub zero_test : ℕ → List ℕ → Bool
zero_test c cs = (c == 48) && not (starts is_dollar cs)

abbrev pub flag : ℕ → Bool
flag c = true

-- COUNT: INT, INT `$`, NAME `$`, or none; with the range of the INT or NAME
abbrev pub Counted : Type 0
Counted = Count × Option TextRange

abbrev pub no_count : Counted
no_count = (count.Implied, None)

-- a name stands at the front of the characters, and `$` behind it
abbrev pub starts_dollar_name : List ℕ → Bool
starts_dollar_name cs = starts_name cs && starts is_dollar (behind is_xid_continue (tail cs))

pub record IsNoCount (text : List ℕ) (v : Counted) (rest : List ℕ) : Type 0 where
  pub empty : text ≡ []
  pub no_digit : starts is_ascii_digit rest ≡ false
  pub no_name : starts_dollar_name rest ≡ false
  pub value : v ≡ no_count

pub record IsNumber (at : ℕ) (text : List ℕ) (v : Counted) (rest : List ℕ) : Type 0 where
  pub number : ℕ
  pub int : IsInt at text number rest
  pub no_dollar : starts is_dollar rest ≡ false
  pub value : v ≡ (count.Is number, Some (range at text))

pub record IsParam (at : ℕ) (text : List ℕ) (v : Counted) (rest : List ℕ) : Type 0 where
  pub digits : List ℕ
  pub number : ℕ
  pub whole : text ≡ digits ++ 36 ∷ []
  pub int : IsInt at digits number (36 ∷ rest)
  pub value : v ≡ (count.IsParam number, Some (range at digits))

pub record IsNamedCount (at : ℕ) (text : List ℕ) (v : Counted) (rest : List ℕ) : Type 0 where
  pub name : List ℕ
  pub whole : text ≡ name ++ 36 ∷ []
  pub no_digit : starts is_ascii_digit name ≡ false
  pub is : IsName name (36 ∷ rest)
  pub value : v ≡ (count.IsName (range at name), Some (range at name))

abbrev pub IsCount : ℕ → List ℕ → Counted → List ℕ → Type 0
IsCount at text v rest = IsNoCount text v rest ⊎ (IsNumber at text v rest ⊎ (IsParam at text v rest ⊎ IsNamedCount at text v rest))

-- PRECISION: `.` and a COUNT that is one, or `.*`, which takes the next argument
abbrev pub is_counted : Count → Bool
is_counted count.Implied = false
is_counted (count.Is n) = true
is_counted (count.IsName r) = true
is_counted (count.IsParam n) = true
is_counted (count.IsStar n) = true

pub record IsStarred (number at : ℕ) (text : List ℕ) (v : Counted) : Type 0 where
  pub is : text ≡ 42 ∷ []
  pub value : v ≡ (count.IsStar number, Some (range at text))

pub record IsCounted (at : ℕ) (text : List ℕ) (v : Counted) (rest : List ℕ) : Type 0 where
  pub no_star : starts is_star (text ++ rest) ≡ false
  pub some : is_counted v.0 ≡ true
  pub is : IsCount at text v rest

abbrev pub IsPrecision : ℕ → ℕ → List ℕ → Counted → List ℕ → Type 0
IsPrecision number at [] v rest = (starts is_dot rest ≡ false) × (v ≡ no_count)
IsPrecision number at (c ∷ text) v rest = (is_dot c ≡ true) × (IsStarred number (at + len_utf8 c) text v ⊎ IsCounted (at + len_utf8 c) text v rest)

-- TYPE: `?`, `x?`, `X?`, `x`, `X`, or a NAME that begins with neither `x` nor `X`; with the range of its text, of `x?` that of the `?`
abbrev pub hex_of : ℕ → DebugHex
hex_of c = if c == 120 then Lower else Upper

abbrev pub Typed : Type 0
Typed = Option DebugHex × TextRange

pub record IsNoType (at : ℕ) (v : Typed) (rest : List ℕ) : Type 0 where
  pub no_question : starts is_question rest ≡ false
  pub no_x : starts is_x rest ≡ false
  pub no_name : starts_name rest ≡ false
  pub value : v ≡ (None, range at [])

pub record IsQuestion (at c : ℕ) (text : List ℕ) (v : Typed) : Type 0 where
  pub is : is_question c ≡ true
  pub alone : text ≡ []
  pub value : v ≡ (None, range at (c ∷ []))

pub record IsHexQuestion (at c : ℕ) (text : List ℕ) (v : Typed) : Type 0 where
  pub no_question : is_question c ≡ false
  pub hex : is_x c ≡ true
  pub question : text ≡ 63 ∷ []
  pub value : v ≡ (Some (hex_of c), range (at + len_utf8 c) (63 ∷ []))

pub record IsHex (at c : ℕ) (text : List ℕ) (v : Typed) (rest : List ℕ) : Type 0 where
  pub no_question : is_question c ≡ false
  pub hex : is_x c ≡ true
  pub alone : text ≡ []
  pub no_more : starts is_question rest ≡ false
  pub value : v ≡ (None, range at (c ∷ []))

pub record IsNamedType (at c : ℕ) (text : List ℕ) (v : Typed) (rest : List ℕ) : Type 0 where
  pub no_question : is_question c ≡ false
  pub no_hex : is_x c ≡ false
  pub name : IsName (c ∷ text) rest
  pub value : v ≡ (None, range at (c ∷ text))

abbrev pub IsType : ℕ → List ℕ → Typed → List ℕ → Type 0
IsType at [] v rest = IsNoType at v rest
IsType at (c ∷ text) v rest = IsQuestion at c text v ⊎ (IsHexQuestion at c text v ⊎ (IsHex at c text v rest ⊎ IsNamedType at c text v rest))

-- all parts in their order
abbrev pub SpecParts : Type 0
SpecParts = (Option ℕ × Alignment) × (Option Sign × (Bool × (Bool × (Counted × (Counted × Typed)))))

abbrev pub spec_of : SpecParts → FormatSpec
spec_of v = record {
  fill = v.0.0;
  align = v.0.1;
  sign = v.1.0;
  alternate = v.1.1.0;
  zero_pad = v.1.1.1.0;
  width = v.1.1.1.1.0.0;
  width_span = v.1.1.1.1.0.1;
  precision = v.1.1.1.1.1.0.0;
  precision_span = v.1.1.1.1.1.0.1;
  debug_hex = v.1.1.1.1.1.1.0;
  ty = v.1.1.1.1.1.1.1;
}

abbrev pub AreParts : ℕ → ℕ → List ℕ → SpecParts → List ℕ → Type 0
AreParts number = Both IsAlign (Both (IsOne sign_test sign_of None) (Both (IsOne hash_test flag false) (Both (IsOne zero_test flag false) (Both IsCount (Both (IsPrecision number) IsType)))))

-- the parts that give a type alone
abbrev pub typed_parts : TextRange → SpecParts
typed_parts ty = ((None, Unknown), (None, (false, (false, (no_count, (no_count, (None, ty)))))))

-- the parts of a placeholder without a colon
abbrev pub plain_parts : ℕ → SpecParts
plain_parts at = typed_parts (range at [])

-- a colon with the parts behind it, or no colon; `number` is the number of the next argument
abbrev pub IsFormat : ℕ → ℕ → List ℕ → SpecParts → List ℕ → Type 0
IsFormat number at [] v rest = (starts is_colon rest ≡ false) × (v ≡ plain_parts at)
IsFormat number at (c ∷ text) v rest = (is_colon c ≡ true) × AreParts number (at + len_utf8 c) text v rest
