-- What the parts of inline assembly are printed as: its macro, its operands, given the texts of their expressions, and its options.
use Rattle.std.specs.Prelude.{ℕ, Bool, true, false, cond, ◌==◌, List, [], ◌∷◌, ◌++◌, codes, Option, Some, None}
use Rattle.std.specs.Int.RustNames.{bit_and}
use Rattle.sym_core.specs.declared.name.Name.{Name}
use Rattle.sym_core.specs.Name.{name_text}
use Rattle.hir_store.specs.declared.asm.InlineAsmKind.{InlineAsmKind}
use Rattle.hir_store.specs.declared.asm.InlineAsmKind.TheVariants.{Asm, GlobalAsm, NakedAsm}
use Rattle.hir_store.specs.declared.asm.InlineAsmRegOrRegClass.{InlineAsmRegOrRegClass}
use Rattle.hir_store.specs.declared.asm.InlineAsmRegOrRegClass.TheVariants.{Reg, RegClass}
use Rattle.hir_store.specs.Tree.{Shape, In, Out, InOut, SplitInOut, Label, Const, Sym}
use Rattle.ra_cfg.specs.Text.{joined}

-- the macro that inline assembly is written with
abbrev pub macro_word : InlineAsmKind → List ℕ
macro_word Asm = codes "asm!"
macro_word GlobalAsm = codes "global_asm!"
macro_word NakedAsm = codes "naked_asm!"

-- a register by its token, or a class of registers by its name
abbrev pub register_text : InlineAsmRegOrRegClass → List ℕ
register_text (Reg token) = token
register_text (RegClass name) = name

-- whether an operand that is only stored is late
abbrev pub out_word : Bool → List ℕ
out_word false = codes "out"
out_word true = codes "lateout"

-- whether an operand that is read and stored is late
abbrev pub inout_word : Bool → List ℕ
inout_word false = codes "inout"
inout_word true = codes "inlateout"

-- the name of an operand and an equals sign, where it has one
abbrev pub name_front : Option Name → List ℕ
name_front (Some name) = name_text name ++ codes " = "
name_front None = []

-- the word of an operand, its register in brackets, and a space
abbrev pub register_front : List ℕ → InlineAsmRegOrRegClass → List ℕ
register_front word register = word ++ codes "(" ++ register_text register ++ codes ") "

-- the first of an operand's expressions, `_` where there is none
abbrev pub first_text : List (List ℕ) → List ℕ
first_text [] = codes "_"
first_text (text ∷ texts) = text

-- what is read, and behind an arrow where it is stored
abbrev pub split_text : List (List ℕ) → List ℕ
split_text [] = codes "_"
split_text (text ∷ texts) = text ++ codes " => " ++ first_text texts

-- an operand without its name, given the texts of its expressions
abbrev pub shape_text : Shape → List (List ℕ) → List ℕ
shape_text (In register) texts = register_front (codes "in") register ++ first_text texts
shape_text (Out register late) texts = register_front (out_word late) register ++ first_text texts
shape_text (InOut register late) texts = register_front (inout_word late) register ++ first_text texts
shape_text (SplitInOut register late) texts = register_front (inout_word late) register ++ split_text texts
shape_text Label texts = codes "label " ++ first_text texts
shape_text Const texts = codes "const " ++ first_text texts
shape_text (Sym name) texts = codes "sym " ++ name_text name

-- an operand, given the texts of its expressions
abbrev pub operand_text : Option Name → Shape → List (List ℕ) → List ℕ
operand_text name shape texts = name_front name ++ shape_text shape texts

-- the options that have a word, each by its bit, in the order of the bits
abbrev pub option_words : List (ℕ × List ℕ)
option_words = (1, codes "att_syntax") ∷ (2, codes "may_unwind") ∷ (4, codes "nomem") ∷ (8, codes "noreturn") ∷ (16, codes "nostack") ∷ (32, codes "preserves_flags") ∷ (64, codes "pure") ∷ (128, codes "raw") ∷ (256, codes "readonly") ∷ []

-- the words of the bits that are set, among these
abbrev pub set_words : ℕ → List (ℕ × List ℕ) → List (List ℕ)
set_words bits [] = []
set_words bits ((bit, word) ∷ words) = cond (bit_and bits bit == bit) (word ∷ set_words bits words) (set_words bits words)

-- the words of options in brackets, where there are any
abbrev pub options_in_brackets : List (List ℕ) → List ℕ
options_in_brackets [] = []
options_in_brackets (word ∷ words) = codes "; options(" ++ joined (word ∷ words) ++ codes ")"

-- what stands in front of a word: whether it is the first
abbrev pub option_front : Bool → List ℕ
option_front true = codes "; options("
option_front false = codes ", "

-- the options that are set, by their words, where one is
abbrev pub options_text : ℕ → List ℕ
options_text bits = options_in_brackets (set_words bits option_words)

-- inline assembly, given the texts of its operands
abbrev pub assembly_text : InlineAsmKind → List (List ℕ) → ℕ → List ℕ
assembly_text kind operands bits = macro_word kind ++ codes "(" ++ joined operands ++ options_text bits ++ codes ")"
