-- The code of format calls, what it evaluates to and what that means, on worked examples whose trees and bytes were written by hand.
use Rattle.std.specs.Prelude.{◌≡◌, ℕ, true, false, List, [], ◌∷◌, Some, None, refl}
use Rattle.sym_core.specs.declared.name.Name.TheVariants as name
use Rattle.hir_store.specs.declared.lang_item.LangItem.TheVariants.{FormatArguments, FormatArgument}
use Rattle.hir_store.specs.declared.lang_item.LangItems.{LangItems}
use Rattle.hir_store.specs.declared.lang_item.LangFn.TheVariants.{New, FromStr, NewDisplay, NewLowerHex, FromUsize}
use Rattle.hir_store.specs.Tree.{Tree, Missing, Leaf, Path, LangPath, Text, Bytes, Ref, Tuple, Field, Array, Call, Block, Empty, More, Tail, Let, Do}
use Rattle.code_meaning.specs.Write.{Display, LowerHex, FormattingOptions, Count, NoCount, Of, Write, Byte, Put}
use Rattle.code_meaning.specs.Value.{LeafEvent, By, AsCount, Values, At, Made, Arguments, FromText}
use Rattle.code_meaning.specs.Value as value
use Rattle.code_meaning.specs.Evaluation.{evaluation_of}
use Rattle.code_meaning.specs.Meaning.{meaning}
use Rattle.template_bytes.specs.Canonical.{Reference}
use Rattle.format_code.specs.Code.{LeafArgument, format_code, events_of, from_str_code}

both : LangItems
both = record { format_arguments = true; format_argument = true }

no_argument_item : LangItems
no_argument_item = record { format_arguments = true; format_argument = false }

no_items : LangItems
no_items = record { format_arguments = false; format_argument = false }

plain : FormattingOptions
plain = record { fill = 32; alignment = None; sign = None; alternate = false; zero_pad = false; debug_hex = None }

-- `{:R$}`, or `{}`, and `{:x}` of a reference
shown : {A : Type 0} → A → Count A → Write A
shown r width = Put r (record { by = Display; options = plain; width = width; precision = NoCount })

shown_hex : {A : Type 0} → A → Write A
shown_hex r = Put r (record { by = LowerHex; options = plain; width = NoCount; precision = NoCount })

-- `{0} {0:x} {0} {1}`
pieces : List (Write Reference)
pieces = shown (Some 0) NoCount ∷ Byte 32 ∷ shown_hex (Some 0) ∷ Byte 32 ∷ shown (Some 0) NoCount ∷ Byte 32 ∷ shown (Some 1) NoCount ∷ []

bytes : List ℕ
bytes = 192 ∷ 1 ∷ 32 ∷ 192 ∷ 1 ∷ 32 ∷ 200 ∷ 0 ∷ 0 ∷ 1 ∷ 32 ∷ 200 ∷ 2 ∷ 0 ∷ 0 ∷ []

-- `@1, @2`
leaves : List Tree
leaves = Leaf 1 ∷ Leaf 2 ∷ []

-- `unsafe { CALLEE(BYTES, &LIST) }`
template : Tree → List ℕ → Tree → Tree
template new bytes list = Block true (Tail (Call new (More (Bytes bytes) (More (Ref list) Empty))))

-- `CALLEE(#3.PLACE)`
made : Tree → ℕ → Tree
made function place = Call function (More (Field (Path (name.Fresh 3)) (name.TupleField place)) Empty)

-- the block of the call with two leaves, given what makes its elements
block : Tree → Tree → Tree
block display hex =
    Block false
    (Let (name.Fresh 3) (Tuple (More (Ref (Leaf 1)) (More (Ref (Leaf 2)) Empty)))
    (Let (name.Fresh 3) (Array (More (made display 0) (More (made hex 0) (More (made display 1) Empty))))
    (Tail (template (LangPath FormatArguments New) bytes (Path (name.Fresh 3))))))

-- one element for each pair
code_is : format_code both 3 leaves bytes pieces [] ≡ block (LangPath FormatArgument NewDisplay) (LangPath FormatArgument NewLowerHex)
unfolding both plain shown shown_hex pieces bytes leaves template made block
code_is = refl

values : Values
values = value.More (Made (By Display) (At 0)) (value.More (Made (By LowerHex) (At 0)) (value.More (Made (By Display) (At 1)) value.Empty))

-- each argument is evaluated once, however often it is used
code_runs : evaluation_of (format_code both 3 leaves bytes pieces []) ≡ Some (LeafEvent 1 ∷ LeafEvent 2 ∷ [], Arguments bytes values)
unfolding both plain shown shown_hex pieces bytes leaves values
code_runs = refl

code_means : meaning (Arguments bytes values)
    ≡ Some (shown (At 0) NoCount ∷ Byte 32 ∷ shown_hex (At 0) ∷ Byte 32 ∷ shown (At 0) NoCount ∷ Byte 32 ∷ shown (At 1) NoCount ∷ [])
unfolding plain shown shown_hex bytes values
code_means = refl

-- `{:1$}`: the width is an element of its own; an orphan stands in front of the template, and is an event more
count_code : format_code both 3 leaves [] (shown (Some 0) (Of (Some 1)) ∷ []) (Leaf 2 ∷ []) ≡
    Block false
    (Let (name.Fresh 3) (Tuple (More (Ref (Leaf 1)) (More (Ref (Leaf 2)) Empty)))
    (Let (name.Fresh 3) (Array (More (made (LangPath FormatArgument NewDisplay) 0) (More (made (LangPath FormatArgument FromUsize) 1) Empty)))
    (Do (Leaf 2)
    (Tail (template (LangPath FormatArguments New) [] (Path (name.Fresh 3)))))))
unfolding both plain shown leaves template made
count_code = refl

count_runs : evaluation_of (format_code both 3 leaves [] (shown (Some 0) (Of (Some 1)) ∷ []) (Leaf 2 ∷ []))
    ≡ Some (LeafEvent 1 ∷ LeafEvent 2 ∷ LeafEvent 2 ∷ [], Arguments [] (value.More (Made (By Display) (At 0)) (value.More (Made AsCount (At 1)) value.Empty)))
unfolding both plain shown leaves
count_runs = refl

-- `{0}` with no argument: the template alone, over no arguments, which runs and means nothing
unresolved_code : format_code both 3 [] (192 ∷ 0 ∷ []) (shown None NoCount ∷ []) [] ≡ template (LangPath FormatArguments New) (192 ∷ 0 ∷ []) (Array Empty)
unfolding both plain shown template
unresolved_code = refl

unresolved_runs : evaluation_of (format_code both 3 [] (192 ∷ 0 ∷ []) (shown None NoCount ∷ []) []) ≡ Some ([], Arguments (192 ∷ 0 ∷ []) value.Empty)
unfolding both plain shown
unresolved_runs = refl

unresolved_means : meaning (Arguments (192 ∷ 0 ∷ []) value.Empty) ≡ None
unresolved_means = refl

-- `{1}` with one argument: a field that the tuple does not have, on which the code is stuck
beyond_code : format_code both 3 (Leaf 1 ∷ []) [] (shown None NoCount ∷ []) [] ≡
    Block false
    (Let (name.Fresh 3) (Tuple (More (Ref (Leaf 1)) Empty))
    (Let (name.Fresh 3) (Array (More (made (LangPath FormatArgument NewDisplay) 18446744073709551615) Empty))
    (Tail (template (LangPath FormatArguments New) [] (Path (name.Fresh 3))))))
unfolding both plain shown template made
beyond_code = refl

beyond_stuck : evaluation_of (format_code both 3 (Leaf 1 ∷ []) [] (shown None NoCount ∷ []) []) ≡ None
unfolding both plain shown
beyond_stuck = refl

-- without `Argument` the elements call what is missing, and the code is stuck
absent_code : format_code no_argument_item 3 leaves bytes pieces [] ≡ block Missing Missing
unfolding no_argument_item plain shown shown_hex pieces bytes leaves template made block
absent_code = refl

absent_stuck : evaluation_of (format_code no_argument_item 3 leaves bytes pieces []) ≡ None
unfolding no_argument_item plain shown shown_hex pieces bytes leaves
absent_stuck = refl

-- a template without arguments that has no placeholder is a text
text_code_is : format_code both 3 [] [] (Byte 104 ∷ Byte 105 ∷ []) [] ≡ Call (LangPath FormatArguments FromStr) (More (Text (104 ∷ 105 ∷ [])) Empty)
unfolding both
text_code_is = refl

text_runs : evaluation_of (from_str_code both (104 ∷ 105 ∷ [])) ≡ Some ([], FromText (104 ∷ 105 ∷ []))
unfolding both
text_runs = refl

-- a text runs without `Argument`, and not without `Arguments`
text_alone : evaluation_of (from_str_code no_argument_item (104 ∷ [])) ≡ Some ([], FromText (104 ∷ []))
unfolding no_argument_item
text_alone = refl

text_stuck : evaluation_of (from_str_code no_items (104 ∷ [])) ≡ None
unfolding no_items
text_stuck = refl

-- a text with arguments: each is a statement, and the orphans are none once more
text_behind : format_code both 3 leaves [] (Byte 104 ∷ []) (Leaf 1 ∷ Leaf 2 ∷ []) ≡
    Block false (Do (Leaf 1) (Do (Leaf 2) (Tail (Call (LangPath FormatArguments FromStr) (More (Text (104 ∷ [])) Empty)))))
unfolding both leaves
text_behind = refl

text_events : events_of (LeafArgument 1 ∷ LeafArgument 2 ∷ []) (Byte 104 ∷ []) (LeafArgument 1 ∷ LeafArgument 2 ∷ []) ≡ LeafEvent 1 ∷ LeafEvent 2 ∷ []
text_events = refl
