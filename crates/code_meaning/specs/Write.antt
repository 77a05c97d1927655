-- A write is one byte, or an argument's value put out by a trait under options.
use Rattle.std.specs.Prelude.{ℕ, Bool, Option}

-- the traits of std::fmt, section "Formatting traits"
pub data Trait : Type 0 where
  Display : Trait
  Debug : Trait
  LowerExp : Trait
  UpperExp : Trait
  Octal : Trait
  Pointer : Trait
  Binary : Trait
  LowerHex : Trait
  UpperHex : Trait

pub data Alignment : Type 0 where
  Left : Alignment
  Right : Alignment
  Center : Alignment

pub data Sign : Type 0 where
  Plus : Sign
  Minus : Sign

-- the `x` and `X` of `x?` and `X?`
pub data DebugHex : Type 0 where
  Lower : DebugHex
  Upper : DebugHex

-- the options of a placeholder but for its counts: std::fmt, section "Formatting Parameters"
pub record FormattingOptions : Type 0 where
  -- a character; a space where none is written
  pub fill : ℕ
  pub alignment : Option Alignment
  pub sign : Option Sign
  pub alternate : Bool
  pub zero_pad : Bool
  pub debug_hex : Option DebugHex

-- a width or a precision: none, a number, or what something else gives
pub data Count (A : Type 0) : Type 0 where
  NoCount : Count A
  Is : ℕ → Count A
  Of : A → Count A

-- what is asked of one value: a trait, options and counts
pub record Asked (A : Type 0) : Type 0 where
  pub by : Trait
  pub options : FormattingOptions
  pub width : Count A
  pub precision : Count A

-- values of a type V are put
pub data Write (V : Type 0) : Type 0 where
  Byte : ℕ → Write V
  Put : V → Asked V → Write V

module _ {A B : Type 0} where
  -- a count with what it refers to in place of the reference
  abbrev pub count_of : (A → B) → Count A → Count B
  count_of value NoCount = NoCount
  count_of value (Is n) = Is n
  count_of value (Of a) = Of (value a)

  abbrev pub asked_of : (A → B) → Asked A → Asked B
  asked_of value asked = record {
    by = asked.by;
    options = asked.options;
    width = count_of value asked.width;
    precision = count_of value asked.precision;
  }
