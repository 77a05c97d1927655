-- The code of a format call, as a tree, and the values that stand behind it.
use Rattle.std.specs.Prelude.{ℕ, ◌<◌, Bool, true, false, cond, List, [], ◌∷◌, ◌++◌, Some, None, map}
use Rattle.sym_core.specs.declared.name.Name.TheVariants as name
use Rattle.hir_store.specs.declared.lang_item.LangItem.TheVariants.{FormatArguments, FormatArgument}
use Rattle.hir_store.specs.declared.lang_item.LangItems.{LangItems}
use Rattle.hir_store.specs.declared.lang_item.LangFn.{LangFn}
use Rattle.hir_store.specs.declared.lang_item.LangFn.TheVariants.{New, FromStr, NewDisplay, NewDebug, NewLowerExp, NewUpperExp, NewOctal, NewPointer, NewBinary, NewLowerHex, NewUpperHex, FromUsize}
use Rattle.hir_store.specs.Tree.{Tree, Trees, Steps, Leaf, Path, Text, Bytes, Ref, Tuple, Field, Array, Call, Block, Empty, More, Tail, Let, Do}
use Rattle.code_meaning.specs.Write.{Display, Debug, LowerExp, UpperExp, Octal, Pointer, Binary, LowerHex, UpperHex, Count, NoCount, Is, Of, Write, Byte, Put, asked_of}
use Rattle.code_meaning.specs.Value.{Event, LeafEvent, NameEvent, Use, By, AsCount, Values, At, Made}
use Rattle.code_meaning.specs.Value as value
use Rattle.template_bytes.specs.Canonical.{Reference}
use Rattle.template_bytes.specs.Pairs.{Pair, pairs_of}
-- a function of a language item, missing where the item is
pub use Rattle.hir_build.specs.Callee.{has_item, callee_tree as callee}

-- an argument of a call: an expression of the source, by its number, or a captured name, by its bytes
pub data Argument : Type 0 where
  LeafArgument : ℕ → Argument
  NameArgument : List ℕ → Argument

-- the event of its evaluation
abbrev pub event_of : Argument → Event
event_of (LeafArgument n) = LeafEvent n
event_of (NameArgument text) = NameEvent text

abbrev pub argument_tree : Argument → Tree
argument_tree (LeafArgument n) = Leaf n
argument_tree (NameArgument text) = Path (name.Text text)

-- the function of `Argument` that makes an argument for a use
abbrev pub function_of : Use → LangFn
function_of (By Display) = NewDisplay
function_of (By Debug) = NewDebug
function_of (By LowerExp) = NewLowerExp
function_of (By UpperExp) = NewUpperExp
function_of (By Octal) = NewOctal
function_of (By Pointer) = NewPointer
function_of (By Binary) = NewBinary
function_of (By LowerHex) = NewLowerHex
function_of (By UpperHex) = NewUpperHex
function_of AsCount = FromUsize

-- the field of the tuple of arguments: one that no tuple has, for the unresolved argument
abbrev pub field_number : Reference → ℕ
field_number (Some place) = place
field_number None = 18446744073709551615

-- `&ARG` for each argument, in order
abbrev pub references : List Tree → Trees
references [] = Empty
references (arg ∷ args) = More (Ref arg) (references args)

-- `Argument::FUNCTION(#n.PLACE)`
abbrev pub element : LangItems → ℕ → Pair → Tree
element items n pair = Call (callee items FormatArgument (function_of pair.usage)) (More (Field (Path (name.Fresh n)) (name.TupleField (field_number pair.argument))) Empty)

-- one element for each pair, in order
abbrev pub elements : LangItems → ℕ → List Pair → Trees
elements items n [] = Empty
elements items n (pair ∷ pairs) = More (element items n pair) (elements items n pairs)

-- each tree as a statement, and behind them a tail
abbrev pub statements : List Tree → Tree → Steps
statements [] tail = Tail tail
statements (t ∷ ts) tail = Do t (statements ts tail)

-- the tail behind the statements, in a block where there are statements
abbrev pub behind_statements : List Tree → Tree → Tree
behind_statements [] tail = tail
behind_statements (t ∷ ts) tail = Block false (statements (t ∷ ts) tail)

-- `unsafe { Arguments::new(BYTES, &LIST) }`
abbrev pub new_code : LangItems → List ℕ → Tree → Tree
new_code items bytes list = Block true (Tail (Call (callee items FormatArguments New) (More (Bytes bytes) (More (Ref list) Empty))))

-- `let #n = (&ARG, ..); let #n = [Argument::FUNCTION(#n.PLACE), ..]; ORPHAN; .. unsafe { Arguments::new(BYTES, &#n) }`
abbrev pub let_steps : LangItems → ℕ → List Tree → List Pair → List ℕ → List Tree → Steps
let_steps items n args pairs bytes orphans =
    Let (name.Fresh n) (Tuple (references args))
    (Let (name.Fresh n) (Array (elements items n pairs))
    (statements orphans (new_code items bytes (Path (name.Fresh n)))))

-- a block of the two `let`s, the orphans and the template; without arguments there is no `let`, and the list is `[]`
abbrev pub with_arguments : LangItems → ℕ → List Tree → List Pair → List ℕ → List Tree → Tree
with_arguments items n [] pairs bytes orphans = behind_statements orphans (new_code items bytes (Array Empty))
with_arguments items n (arg ∷ args) pairs bytes orphans = Block false (let_steps items n (arg ∷ args) pairs bytes orphans)

-- `Arguments::from_str(TEXT)`
abbrev pub from_str_code : LangItems → List ℕ → Tree
from_str_code items text = Call (callee items FormatArguments FromStr) (More (Text text) Empty)

-- a text behind all arguments as statements
abbrev pub text_code : LangItems → List Tree → List ℕ → Tree
text_code items args text = behind_statements args (from_str_code items text)

-- whether pieces have a placeholder
abbrev pub has_placeholder : List (Write Reference) → Bool
has_placeholder [] = false
has_placeholder (Byte b ∷ pieces) = has_placeholder pieces
has_placeholder (Put r asked ∷ pieces) = true

-- the bytes of pieces, without their placeholders
abbrev pub text_of : List (Write Reference) → List ℕ
text_of [] = []
text_of (Byte b ∷ pieces) = b ∷ text_of pieces
text_of (Put r asked ∷ pieces) = text_of pieces

-- the code of a format call: a template where its pieces have a placeholder, and else a text
abbrev pub format_code : LangItems → ℕ → List Tree → List ℕ → List (Write Reference) → List Tree → Tree
format_code items n args bytes pieces orphans =
    cond (has_placeholder pieces) (with_arguments items n args (pairs_of pieces) bytes orphans) (text_code items args (text_of pieces))

-- the events of a format call: its arguments in order, and behind them the orphans where its pieces have a placeholder
abbrev pub events_of : List Argument → List (Write Reference) → List Argument → List Event
events_of args pieces orphans = cond (has_placeholder pieces) (map event_of args ++ map event_of orphans) (map event_of args)

-- what the elements stand for: each argument's value, made for its pair's use
abbrev pub values_of : List Pair → Values
values_of [] = value.Empty
values_of (pair ∷ pairs) = value.More (Made pair.usage (At (field_number pair.argument))) (values_of pairs)

-- a reference is resolved, to one of this many arguments
abbrev pub IsWithin : ℕ → Reference → Type 0
IsWithin count None = ⊥
IsWithin count (Some place) = place < count

-- the reference of each pair is
abbrev pub AreWithin : ℕ → List Pair → Type 0
AreWithin count [] = Unit {0}
AreWithin count (pair ∷ pairs) = IsWithin count pair.argument × AreWithin count pairs

-- a count refers, if at all, to one of this many arguments
abbrev pub IsCountBelow : ℕ → Count ℕ → Type 0
IsCountBelow count NoCount = Unit {0}
IsCountBelow count (Is n) = Unit {0}
IsCountBelow count (Of place) = place < count

-- writes refer to this many arguments, as values and as counts
abbrev pub AreBelow : ℕ → List (Write ℕ) → Type 0
AreBelow count [] = Unit {0}
AreBelow count (Byte b ∷ writes) = AreBelow count writes
AreBelow count (Put place asked ∷ writes) =
    (place < count) × (IsCountBelow count asked.width × (IsCountBelow count asked.precision × AreBelow count writes))

module _ {A B : Type 0} where
  -- a write with something else in place of what it refers to
  abbrev pub write_with : (A → B) → Write A → Write B
  write_with value (Byte b) = Byte b
  write_with value (Put a asked) = Put (value a) (asked_of value asked)

-- Pieces that are resolved or not

-- a reference that is resolved is to one of this many arguments
abbrev pub RefersWithin : ℕ → Reference → Type 0
RefersWithin count None = Unit {0}
RefersWithin count (Some place) = place < count

abbrev pub CountRefersWithin : ℕ → Count Reference → Type 0
CountRefersWithin count NoCount = Unit {0}
CountRefersWithin count (Is n) = Unit {0}
CountRefersWithin count (Of r) = RefersWithin count r

-- the references of pieces that are resolved are to this many arguments
abbrev pub ReferWithin : ℕ → List (Write Reference) → Type 0
ReferWithin count [] = Unit {0}
ReferWithin count (Byte b ∷ pieces) = ReferWithin count pieces
ReferWithin count (Put r asked ∷ pieces) = RefersWithin count r × (CountRefersWithin count asked.width × (CountRefersWithin count asked.precision × ReferWithin count pieces))
