-- The flags of a placeholder are read back from their word, and a word of flags is that of what is read from it.
use Rattle.std.proofs.Common.{◌≡◌, ℕ, ap₂, ◌+◌, ◌*◌, ◌/◌, ◌%◌, ◌<◌, Bool, true, false, ◌&&◌, not, List, [], ◌∷◌, Option, Some, None, refl, sym, ap, ◌∙◌, arith}
use Rattle.code_meaning.specs.Write.{Alignment, Left, Right, Center, Sign, Plus, Minus, DebugHex, Lower, Upper, FormattingOptions}
use Rattle.code_meaning.specs.Template.{bit, is_scalar, are_flags, fill_of, sign_of, debug_hex_of, alignment_of, options_of}
use Rattle.template_bytes.specs.Flags.{flag_if, sign_flags, debug_hex_flags, alignment_flags, flags_word}
use Rattle.template_bytes.proofs.Bits.{one_if, bits, bit_in, bit_at, bits_from, bits_back, bit_above}
use Rattle.std.proofs.lemmas.Bool.Decides.{nat_tests}
use Rattle.std.proofs.lemmas.Bool.{not-true}

-- whether a sign sets the first of its bits
abbrev is_plus : Option Sign → Bool
is_plus (Some Plus) = true
is_plus (Some Minus) = false
is_plus None = false

-- whether a sign sets the second of its bits
abbrev is_minus : Option Sign → Bool
is_minus (Some Plus) = false
is_minus (Some Minus) = true
is_minus None = false

-- whether debug hexadecimal sets the first of its bits
abbrev is_lower : Option DebugHex → Bool
is_lower (Some Lower) = true
is_lower (Some Upper) = false
is_lower None = false

-- whether debug hexadecimal sets the second of its bits
abbrev is_upper : Option DebugHex → Bool
is_upper (Some Lower) = false
is_upper (Some Upper) = true
is_upper None = false

-- the low bit of an alignment
abbrev low_bit : Option Alignment → Bool
low_bit (Some Left) = false
low_bit (Some Right) = true
low_bit (Some Center) = false
low_bit None = true

-- the high bit of an alignment
abbrev high_bit : Option Alignment → Bool
high_bit (Some Left) = false
high_bit (Some Right) = false
high_bit (Some Center) = true
high_bit None = true

-- bits 21 to 31 of a word of flags
abbrev flag_bits : FormattingOptions → Bool → Bool → List Bool
flag_bits o width precision =
    is_plus o.sign ∷ is_minus o.sign ∷ o.alternate ∷ o.zero_pad ∷ is_lower o.debug_hex ∷ is_upper o.debug_hex
    ∷ width ∷ precision ∷ low_bit o.alignment ∷ high_bit o.alignment ∷ false ∷ []

-- a sign, by its bits
sign_is : (sign : Option Sign) → sign_flags sign ≡ 2097152 * one_if (is_plus sign) + 4194304 * one_if (is_minus sign)
sign_is (Some Plus) = refl
sign_is (Some Minus) = refl
sign_is None = refl

-- debug hexadecimal, by its bits
hex_is : (hex : Option DebugHex) → debug_hex_flags hex ≡ 33554432 * one_if (is_lower hex) + 67108864 * one_if (is_upper hex)
hex_is (Some Lower) = refl
hex_is (Some Upper) = refl
hex_is None = refl

-- an alignment, by its bits
alignment_is : (alignment : Option Alignment) → alignment_flags alignment ≡ 536870912 * one_if (low_bit alignment) + 1073741824 * one_if (high_bit alignment)
alignment_is (Some Left) = refl
alignment_is (Some Right) = refl
alignment_is (Some Center) = refl
alignment_is None = refl

-- a flag, by its bit
pub flag_is : (b : Bool) (flag : ℕ) → flag_if b flag ≡ flag * one_if b
flag_is true flag = omega arith
flag_is false flag = omega arith

-- a word of flags is the fill, and its bits above it
word_is : (o : FormattingOptions) (width precision : Bool) → flags_word o width precision ≡ o.fill + 2097152 * bits (flag_bits o width precision)
word_is o width precision =
    omega (
      arith,
      sign_is o.sign,
      flag_is o.alternate 8388608,
      flag_is o.zero_pad 16777216,
      hex_is o.debug_hex,
      flag_is width 134217728,
      flag_is precision 268435456,
      alignment_is o.alignment,
    )

-- a character has at most 21 bits
scalar_small : (c : ℕ) → is_scalar c ≡ true → c < 2097152
scalar_small c is = grind (arith, nat_tests)

-- a bit of a word of flags, from bit 21 on
flag_bit : (o : FormattingOptions) (width precision : Bool) → is_scalar o.fill ≡ true → (place : ℕ)
    → bit (21 + place) (flags_word o width precision) ≡ bit_in (flag_bits o width precision) place
flag_bit o width precision scalar place =
    ap (bit (21 + place)) (word_is o width precision)
    ∙ (bit_above 21 o.fill (bits (flag_bits o width precision)) place (scalar_small o.fill scalar)
    ∙ bit_at (flag_bits o width precision) place)

-- the fill is what stands below the bits
fill_back : (o : FormattingOptions) (width precision : Bool) → is_scalar o.fill ≡ true → fill_of (flags_word o width precision) ≡ o.fill
fill_back o width precision scalar = omega (arith, word_is o width precision, scalar_small o.fill scalar)

-- a sign is read back from its bits
sign_back : (sign : Option Sign) → sign_of (is_plus sign) (is_minus sign) ≡ sign
sign_back (Some Plus) = refl
sign_back (Some Minus) = refl
sign_back None = refl

-- debug hexadecimal is read back from its bits
hex_back : (hex : Option DebugHex) → debug_hex_of (is_lower hex) (is_upper hex) ≡ hex
hex_back (Some Lower) = refl
hex_back (Some Upper) = refl
hex_back None = refl

-- an alignment is read back from its bits
alignment_back : (alignment : Option Alignment) → alignment_of (low_bit alignment) (high_bit alignment) ≡ alignment
alignment_back (Some Left) = refl
alignment_back (Some Right) = refl
alignment_back (Some Center) = refl
alignment_back None = refl

-- the options are read back from their word
pub options_back : (o : FormattingOptions) (width precision : Bool) → is_scalar o.fill ≡ true → options_of (flags_word o width precision) ≡ o
options_back o width precision scalar =
    let at : (place : ℕ) → bit (21 + place) (flags_word o width precision) ≡ bit_in (flag_bits o width precision) place = flag_bit o width precision scalar in
    let sign : sign_of (bit 21 (flags_word o width precision)) (bit 22 (flags_word o width precision)) ≡ o.sign = ap₂ sign_of (at 0) (at 1) ∙ sign_back o.sign in
    let hex : debug_hex_of (bit 25 (flags_word o width precision)) (bit 26 (flags_word o width precision)) ≡ o.debug_hex = ap₂ debug_hex_of (at 4) (at 5) ∙ hex_back o.debug_hex in
    let alignment : alignment_of (bit 29 (flags_word o width precision)) (bit 30 (flags_word o width precision)) ≡ o.alignment = ap₂ alignment_of (at 8) (at 9) ∙ alignment_back o.alignment in
    λ i. record { fill = fill_back o width precision scalar i; alignment = alignment i; sign = sign i; alternate = at 2 i; zero_pad = at 3 i; debug_hex = hex i }

-- whether a width is given is read back
pub width_back : (o : FormattingOptions) (width precision : Bool) → is_scalar o.fill ≡ true → bit 27 (flags_word o width precision) ≡ width
width_back o width precision scalar = flag_bit o width precision scalar 6

-- whether a precision is given is read back
pub precision_back : (o : FormattingOptions) (width precision : Bool) → is_scalar o.fill ≡ true → bit 28 (flags_word o width precision) ≡ precision
precision_back o width precision scalar = flag_bit o width precision scalar 7

-- a bit as a number is 0 or 1
one_if_small : (b : Bool) → one_if b < 2
one_if_small true = omega arith
one_if_small false = omega arith

-- a word of flags has 32 bits
pub flags_fit : (o : FormattingOptions) (width precision : Bool) → is_scalar o.fill ≡ true → flags_word o width precision < 4294967296
flags_fit o width precision scalar =
    omega (
      arith,
      word_is o width precision,
      scalar_small o.fill scalar,
      one_if_small (is_plus o.sign),
      one_if_small (is_minus o.sign),
      one_if_small o.alternate,
      one_if_small o.zero_pad,
      one_if_small (is_lower o.debug_hex),
      one_if_small (is_upper o.debug_hex),
      one_if_small width,
      one_if_small precision,
      one_if_small (low_bit o.alignment),
      one_if_small (high_bit o.alignment),
    )

-- a sign sets at most one of its bits
one_sign : (sign : Option Sign) → not (is_plus sign && is_minus sign) ≡ true
one_sign (Some Plus) = refl
one_sign (Some Minus) = refl
one_sign None = refl

-- debug hexadecimal sets at most one of its bits
one_hex : (hex : Option DebugHex) → not (is_lower hex && is_upper hex) ≡ true
one_hex (Some Lower) = refl
one_hex (Some Upper) = refl
one_hex None = refl

-- a word of flags is one
pub flags_are : (o : FormattingOptions) (width precision : Bool) → is_scalar o.fill ≡ true → are_flags (flags_word o width precision) ≡ true
flags_are o width precision scalar =
    let at : (place : ℕ) → bit (21 + place) (flags_word o width precision) ≡ bit_in (flag_bits o width precision) place = flag_bit o width precision scalar in
    let fill : is_scalar (fill_of (flags_word o width precision)) ≡ true = ap is_scalar (fill_back o width precision scalar) ∙ scalar in
    let sign : not (bit 21 (flags_word o width precision) && bit 22 (flags_word o width precision)) ≡ true = ap₂ (λ a b. not (a && b)) (at 0) (at 1) ∙ one_sign o.sign in
    let hex : not (bit 25 (flags_word o width precision) && bit 26 (flags_word o width precision)) ≡ true = ap₂ (λ a b. not (a && b)) (at 4) (at 5) ∙ one_hex o.debug_hex in
    λ i. fill i && (not (at 10 i) && (sign i && hex i))

-- the first bit of a sign is the one that it was read from
plus_back : (a b : Bool) → is_plus (sign_of a b) ≡ a
plus_back true b = refl
plus_back false true = refl
plus_back false false = refl

-- and so is the second one, if not both are set
minus_back : (a b : Bool) → not (a && b) ≡ true → is_minus (sign_of a b) ≡ b
minus_back true true no_both = absurd (cc)
minus_back true false no_both = refl
minus_back false true no_both = refl
minus_back false false no_both = refl

-- the first bit of debug hexadecimal is the one that it was read from
lower_back : (a b : Bool) → is_lower (debug_hex_of a b) ≡ a
lower_back true b = refl
lower_back false true = refl
lower_back false false = refl

-- and so is the second one, if not both are set
upper_back : (a b : Bool) → not (a && b) ≡ true → is_upper (debug_hex_of a b) ≡ b
upper_back true true no_both = absurd (cc)
upper_back true false no_both = refl
upper_back false true no_both = refl
upper_back false false no_both = refl

-- the low bit of an alignment is the one that it was read from
low_back : (a b : Bool) → low_bit (alignment_of a b) ≡ a
low_back false false = refl
low_back true false = refl
low_back false true = refl
low_back true true = refl

-- and so is the high one
high_back : (a b : Bool) → high_bit (alignment_of a b) ≡ b
high_back false false = refl
high_back true false = refl
high_back false true = refl
high_back true true = refl

-- two tests that hold together hold
both : (a b : Bool) → (a && b) ≡ true → (a ≡ true) × (b ≡ true)
both true b e = (refl, e)
both false b e = absurd (cc)

-- a word of flags is that of what is read from it
pub word_back : (n : ℕ) → n < 4294967296 → are_flags n ≡ true → flags_word (options_of n) (bit 27 n) (bit 28 n) ≡ n
word_back n small are =
    let tests = both (is_scalar (fill_of n)) (not (bit 31 n) && (not (bit 21 n && bit 22 n) && not (bit 25 n && bit 26 n))) are in
    let last = both (not (bit 31 n)) (not (bit 21 n && bit 22 n) && not (bit 25 n && bit 26 n)) tests.1 in
    let pairs = both (not (bit 21 n && bit 22 n)) (not (bit 25 n && bit 26 n)) last.1 in
    let unused : false ≡ bit 31 n = sym (not-true (bit 31 n) last.0) in
    let same : flag_bits (options_of n) (bit 27 n) (bit 28 n) ≡ bits_from n 21 11 =
    λ i. plus_back (bit 21 n) (bit 22 n) i ∷ minus_back (bit 21 n) (bit 22 n) pairs.0 i ∷ bit 23 n ∷ bit 24 n
    ∷ lower_back (bit 25 n) (bit 26 n) i ∷ upper_back (bit 25 n) (bit 26 n) pairs.1 i ∷ bit 27 n ∷ bit 28 n
    ∷ low_back (bit 29 n) (bit 30 n) i ∷ high_back (bit 29 n) (bit 30 n) i ∷ unused i ∷ [] in
    let above : bits (flag_bits (options_of n) (bit 27 n) (bit 28 n)) ≡ n / 2097152 = ap bits same ∙ bits_back 11 n 21 small in
    word_is (options_of n) (bit 27 n) (bit 28 n) ∙ (ap (λ m. n % 2097152 + 2097152 * m) above ∙ omega arith)
