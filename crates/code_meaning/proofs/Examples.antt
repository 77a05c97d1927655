-- The definitions computed on worked examples, whose bytes and trees were written by hand from the format.
use Rattle.std.specs.Prelude.{◌≡◌, ℕ, true, false, List, [], ◌∷◌, Some, None, refl}
use Rattle.sym_core.specs.declared.name.Name.TheVariants as name
use Rattle.hir_store.specs.declared.lang_item.LangItem.TheVariants.{FormatArguments, FormatArgument}
use Rattle.hir_store.specs.declared.lang_item.LangFn.TheVariants.{New, FromStr, NewDisplay, FromUsize}
use Rattle.hir_store.specs.declared.asm.InlineAsmKind.{InlineAsmKind}
use Rattle.hir_store.specs.declared.asm_options.AsmOptions.{AsmOptions}
use Rattle.hir_store.specs.Tree.{Tree, Missing, Leaf, Path, LangPath, Text, Bytes, Ref, Tuple, Field, Array, Call, Block, InlineAsm, Empty, More, Tail, Let, Do, Operands}
use Rattle.code_meaning.specs.Write.{Display, Right, FormattingOptions, NoCount, Is, Of, Byte, Put}
use Rattle.code_meaning.specs.Value.{LeafEvent, NameEvent, At, FromText, Arguments, Made, By, AsCount}
use Rattle.code_meaning.specs.Value as value
use Rattle.code_meaning.specs.Evaluation.{evaluation_of}
use Rattle.code_meaning.specs.Template.{TemplateItem, ByteItem, SlotItem, decoded}
use Rattle.code_meaning.specs.Meaning.{meaning}

-- a space as fill, and nothing else
plain : FormattingOptions
plain = record { fill = 32; alignment = None; sign = None; alternate = false; zero_pad = false; debug_hex = None }

zero_padded : FormattingOptions
zero_padded = record { fill = 32; alignment = None; sign = None; alternate = false; zero_pad = true; debug_hex = None }

to_the_right : FormattingOptions
to_the_right = record { fill = 32; alignment = Some Right; sign = None; alternate = false; zero_pad = false; debug_hex = None }

slot : ℕ → TemplateItem
slot place = SlotItem (record { place = place; options = plain; width = NoCount; precision = NoCount })

-- `x{}y{{`
between_letters : decoded (1 ∷ 120 ∷ 192 ∷ 2 ∷ 121 ∷ 123 ∷ 0 ∷ []) ≡ Some (ByteItem 120 ∷ slot 0 ∷ ByteItem 121 ∷ ByteItem 123 ∷ [])
unfolding slot plain
between_letters = refl

-- `{0} {0:x} {0} {1}`: a place that is not the next one has an index
places_repeat : decoded (192 ∷ 1 ∷ 32 ∷ 192 ∷ 1 ∷ 32 ∷ 200 ∷ 0 ∷ 0 ∷ 1 ∷ 32 ∷ 200 ∷ 2 ∷ 0 ∷ 0 ∷ [])
    ≡ Some (slot 0 ∷ ByteItem 32 ∷ slot 1 ∷ ByteItem 32 ∷ slot 0 ∷ ByteItem 32 ∷ slot 2 ∷ [])
unfolding slot plain
places_repeat = refl

-- `{:5}`
width_is_five : decoded (195 ∷ 32 ∷ 0 ∷ 0 ∷ 104 ∷ 5 ∷ 0 ∷ 0 ∷ [])
    ≡ Some (SlotItem (record { place = 0; options = plain; width = Is 5; precision = NoCount }) ∷ [])
unfolding plain
width_is_five = refl

-- `{:00}`: the zero flag, and a width 0 without a field
width_is_zero : decoded (193 ∷ 32 ∷ 0 ∷ 0 ∷ 105 ∷ 0 ∷ [])
    ≡ Some (SlotItem (record { place = 0; options = zero_padded; width = Is 0; precision = NoCount }) ∷ [])
unfolding zero_padded
width_is_zero = refl

-- `{x:>w$.p$}`: the counts are the places of arguments
counts_are_places : decoded (247 ∷ 32 ∷ 0 ∷ 0 ∷ 56 ∷ 1 ∷ 0 ∷ 2 ∷ 0 ∷ 0 ∷ [])
    ≡ Some (SlotItem (record { place = 0; options = to_the_right; width = Of 1; precision = Of 2 }) ∷ [])
unfolding to_the_right
counts_are_places = refl

-- a place above 65,535 takes the wide form
wide_place : decoded (129 ∷ 200 ∷ 0 ∷ 0 ∷ 1 ∷ 0 ∷ 0 ∷ []) ≡ Some (slot 65536 ∷ [])
unfolding slot plain
wide_place = refl

-- a wide width that is a place takes four bytes, with an index of four bytes behind it
wide_count : decoded (129 ∷ 219 ∷ 32 ∷ 0 ∷ 0 ∷ 104 ∷ 1 ∷ 0 ∷ 1 ∷ 0 ∷ 0 ∷ 0 ∷ 0 ∷ 0 ∷ 0 ∷ [])
    ≡ Some (SlotItem (record { place = 0; options = plain; width = Of 65537; precision = NoCount }) ∷ [])
unfolding plain
wide_count = refl

-- a long literal has its length in two bytes
long_literal : decoded (128 ∷ 2 ∷ 0 ∷ 195 ∷ 169 ∷ 0 ∷ []) ≡ Some (ByteItem 195 ∷ ByteItem 169 ∷ [])
long_literal = refl

-- without an end, behind an end, with a literal cut short, with a byte that begins nothing
no_end : decoded [] ≡ None
no_end = refl

behind_the_end : decoded (0 ∷ 0 ∷ []) ≡ None
behind_the_end = refl

cut_short : decoded (2 ∷ 120 ∷ []) ≡ None
cut_short = refl

begins_nothing : decoded (130 ∷ 0 ∷ []) ≡ None
begins_nothing = refl

-- both signs; a fill that is a surrogate; bit 31; a width without its flag; an indirect bit without a field
both_signs : decoded (193 ∷ 32 ∷ 0 ∷ 96 ∷ 96 ∷ 0 ∷ []) ≡ None
both_signs = refl

surrogate_fill : decoded (193 ∷ 0 ∷ 216 ∷ 0 ∷ 96 ∷ 0 ∷ []) ≡ None
surrogate_fill = refl

last_bit : decoded (193 ∷ 32 ∷ 0 ∷ 0 ∷ 224 ∷ 0 ∷ []) ≡ None
last_bit = refl

width_without_flag : decoded (194 ∷ 5 ∷ 0 ∷ 0 ∷ []) ≡ None
width_without_flag = refl

indirect_without_field : decoded (209 ∷ 32 ∷ 0 ∷ 0 ∷ 104 ∷ 0 ∷ []) ≡ None
indirect_without_field = refl

-- `{ let #0 = (&@7, &x); let #0 = [Argument::new_display(#0.1), Argument::from_usize(#0.0)]; @7; unsafe { Arguments::new(BYTES, &#0) } }`
code : List ℕ → Tree
code bytes =
    Block false
    (Let (name.Fresh 0) (Tuple (More (Ref (Leaf 7)) (More (Ref (Path (name.Text (120 ∷ [])))) Empty)))
    (Let (name.Fresh 0)
    (Array
    (More (Call (LangPath FormatArgument NewDisplay) (More (Field (Path (name.Fresh 0)) (name.TupleField 1)) Empty))
    (More (Call (LangPath FormatArgument FromUsize) (More (Field (Path (name.Fresh 0)) (name.TupleField 0)) Empty)) Empty)))
    (Do (Leaf 7)
    (Tail (Block true (Tail (Call (LangPath FormatArguments New) (More (Bytes bytes) (More (Ref (Path (name.Fresh 0))) Empty)))))))))

arguments : value.Values
arguments = value.More (Made (By Display) (At 1)) (value.More (Made AsCount (At 0)) value.Empty)

-- the arguments come once each, in order, and an unused one once more; the second `let` hides the first
code_runs : (bytes : List ℕ) → evaluation_of (code bytes)
    ≡ Some (LeafEvent 7 ∷ NameEvent (120 ∷ []) ∷ LeafEvent 7 ∷ [], Arguments bytes arguments)
unfolding code arguments
code_runs bytes = refl

-- `{:0$}`: a put of the second argument with the first one's value as width
puts : meaning (Arguments (211 ∷ 32 ∷ 0 ∷ 0 ∷ 104 ∷ 1 ∷ 0 ∷ 0 ∷ []) arguments)
    ≡ Some (Put (At 1) (record { by = Display; options = plain; width = Of (At 0); precision = NoCount }) ∷ [])
unfolding arguments plain
puts = refl

-- a count is no value to put, and an argument that is not there is nothing
put_of_a_count : meaning (Arguments (200 ∷ 1 ∷ 0 ∷ 0 ∷ []) arguments) ≡ None
unfolding arguments
put_of_a_count = refl

put_of_nothing : meaning (Arguments (200 ∷ 2 ∷ 0 ∷ 0 ∷ []) arguments) ≡ None
unfolding arguments
put_of_nothing = refl

-- a text means its bytes, and a missing callee is stuck
text_runs : evaluation_of (Call (LangPath FormatArguments FromStr) (More (Text (104 ∷ 105 ∷ [])) Empty)) ≡ Some ([], FromText (104 ∷ 105 ∷ []))
text_runs = refl

text_means : meaning (FromText (104 ∷ 105 ∷ [])) ≡ Some (Byte 104 ∷ Byte 105 ∷ [])
text_means = refl

missing_is_stuck : evaluation_of (Call Missing (More (Text []) Empty)) ≡ None
missing_is_stuck = refl

unbound_is_stuck : evaluation_of (Path (name.Fresh 0)) ≡ None
unbound_is_stuck = refl

assembly_is_stuck : (kind : InlineAsmKind) (options : AsmOptions) (operands : Operands) → evaluation_of (InlineAsm kind options operands) ≡ None
assembly_is_stuck kind options operands = refl
