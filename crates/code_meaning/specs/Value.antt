-- What evaluation gives: events, in order, and a value.
use Rattle.std.specs.Prelude.{ℕ, zero, suc, List, Option, Some, None}
use Rattle.hir_store.specs.declared.lang_item.LangFn.{LangFn}
use Rattle.hir_store.specs.declared.lang_item.LangFn.TheVariants.{New, FromStr, NewDisplay, NewDebug, NewLowerExp, NewUpperExp, NewOctal, NewPointer, NewBinary, NewLowerHex, NewUpperHex, FromUsize}
use Rattle.code_meaning.specs.Write.{Trait, Display, Debug, LowerExp, UpperExp, Octal, Pointer, Binary, LowerHex, UpperHex}

-- an argument expression is evaluated: an opaque one by its number, or a name of the surroundings, by its bytes
pub data Event : Type 0 where
  LeafEvent : ℕ → Event
  NameEvent : List ℕ → Event

-- how an argument is used: written by a trait, or read as a width or a precision
pub data Use : Type 0 where
  By : Trait → Use
  AsCount : Use

mutual
  pub data Value : Type 0 where
    -- what the event of this number gave; two evaluations of one expression give two values
    At : ℕ → Value
    TextValue : List ℕ → Value
    BytesValue : List ℕ → Value
    RefValue : Value → Value
    TupleValue : Values → Value
    ListValue : Values → Value
    -- an argument for a template, with its use
    Made : Use → Value → Value
    -- template bytes with the list of their arguments
    Arguments : List ℕ → Values → Value
    -- a text without placeholders
    FromText : List ℕ → Value

  -- values in a row
  pub data Values : Type 0 where
    Empty : Values
    More : Value → Values → Values

-- the use that a function of `Argument` makes an argument for
abbrev pub use_of : LangFn → Option Use
use_of New = None
use_of FromStr = None
use_of NewDisplay = Some (By Display)
use_of NewDebug = Some (By Debug)
use_of NewLowerExp = Some (By LowerExp)
use_of NewUpperExp = Some (By UpperExp)
use_of NewOctal = Some (By Octal)
use_of NewPointer = Some (By Pointer)
use_of NewBinary = Some (By Binary)
use_of NewLowerHex = Some (By LowerHex)
use_of NewUpperHex = Some (By UpperHex)
use_of FromUsize = Some AsCount

-- the value at a place, where there is one
abbrev pub value_at : Values → ℕ → Option Value
value_at Empty place = None
value_at (More v vs) zero = Some v
value_at (More v vs) (suc place) = value_at vs place
