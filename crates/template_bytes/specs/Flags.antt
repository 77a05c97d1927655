-- The flags of a placeholder as a word: the fill, and one flag for each thing that is set.
use Rattle.std.specs.Prelude.{◌≡◌, ℕ, ◌+◌, IsTrue, Bool, true, false, Option, Some, None}
use Rattle.code_meaning.specs.Write.{Alignment, Left, Right, Center, Sign, Plus, Minus, DebugHex, Lower, Upper, FormattingOptions}
use Rattle.code_meaning.specs.Template.{bit, is_scalar, are_flags, options_of}

-- a flag where it is set
abbrev pub flag_if : Bool → ℕ → ℕ
flag_if true flag = flag
flag_if false flag = 0

-- bit 21 or 22
abbrev pub sign_flags : Option Sign → ℕ
sign_flags None = 0
sign_flags (Some Plus) = 2097152
sign_flags (Some Minus) = 4194304

-- bit 25 or 26
abbrev pub debug_hex_flags : Option DebugHex → ℕ
debug_hex_flags None = 0
debug_hex_flags (Some Lower) = 33554432
debug_hex_flags (Some Upper) = 67108864

-- bits 29 and 30: 0 left, 1 right, 2 center, 3 none
abbrev pub alignment_flags : Option Alignment → ℕ
alignment_flags (Some Left) = 0
alignment_flags (Some Right) = 536870912
alignment_flags (Some Center) = 1073741824
alignment_flags None = 1610612736

-- the word of these options, where a width or a precision is given or not: bit 23 alternate, 24 zero flag, 27 width, 28 precision
abbrev pub flags_word : FormattingOptions → Bool → Bool → ℕ
flags_word options width precision =
    options.fill
    + (sign_flags options.sign
    + (flag_if options.alternate 8388608
    + (flag_if options.zero_pad 16777216
    + (debug_hex_flags options.debug_hex
    + (flag_if width 134217728
    + (flag_if precision 268435456
    + alignment_flags options.alignment))))))

-- the options of a placeholder come back from its flags, and so does whether a width and a precision are given
abbrev pub OptionsComeBack : Type 0
OptionsComeBack = (options : FormattingOptions) (width precision : Bool) → IsTrue (is_scalar options.fill) →
    IsTrue (are_flags (flags_word options width precision))
    × (options_of (flags_word options width precision) ≡ options)
    × (bit 27 (flags_word options width precision) ≡ width)
    × (bit 28 (flags_word options width precision) ≡ precision)
