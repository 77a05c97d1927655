-- A tree is an expression with its parts in place of their indexes.
use Rattle.std.specs.Prelude.{ℕ, Bool, true, false, ◌&&◌, List, [], ◌∷◌, Option}
use Rattle.sym_core.specs.declared.name.Name.{Name}
use Rattle.hir_store.specs.declared.lang_item.LangItem.{LangItem}
use Rattle.hir_store.specs.declared.lang_item.LangFn.{LangFn}
use Rattle.hir_store.specs.declared.asm_options.AsmOptions.{AsmOptions}
use Rattle.hir_store.specs.declared.asm.InlineAsmKind.{InlineAsmKind}
use Rattle.hir_store.specs.declared.asm.InlineAsmRegOrRegClass.{InlineAsmRegOrRegClass}

-- what an operand of inline assembly is, its expressions aside
pub data Shape : Type 0 where
  In : InlineAsmRegOrRegClass → Shape
  -- whether it is late
  Out : InlineAsmRegOrRegClass → Bool → Shape
  InOut : InlineAsmRegOrRegClass → Bool → Shape
  SplitInOut : InlineAsmRegOrRegClass → Bool → Shape
  Label : Shape
  Const : Shape
  Sym : Name → Shape

mutual
  -- one constructor for each kind of expression
  pub data Tree : Type 0 where
    -- no expression, or one of which a part does not stand before it
    Bad : Tree
    Missing : Tree
    Leaf : ℕ → Tree
    Path : Name → Tree
    LangPath : LangItem → LangFn → Tree
    -- a string, by its bytes
    Text : List ℕ → Tree
    Bytes : List ℕ → Tree
    Ref : Tree → Tree
    Tuple : Trees → Tree
    Field : Tree → Name → Tree
    Array : Trees → Tree
    Call : Tree → Trees → Tree
    -- whether it is unsafe, and its statements with its tail
    Block : Bool → Steps → Tree
    -- the kind of its macro, its options, and its operands
    InlineAsm : InlineAsmKind → AsmOptions → Operands → Tree

  -- parts in a row
  pub data Trees : Type 0 where
    Empty : Trees
    More : Tree → Trees → Trees

  -- the statements of a block, and its tail where it has one
  pub data Steps : Type 0 where
    End : Steps
    Tail : Tree → Steps
    -- a `let` binds a name
    Let : Name → Tree → Steps → Steps
    -- a `let` whose pattern binds no name in the store
    Nameless : Tree → Steps → Steps
    Do : Tree → Steps → Steps

  -- the operands of inline assembly in a row
  pub data Operands : Type 0 where
    NoOperand : Operands
    -- the name of an operand, what it is, its expressions in their order, and the operands behind it
    Operand : Option Name → Shape → Trees → Operands → Operands

-- trees in a row, as parts
abbrev pub trees : List Tree → Trees
trees [] = Empty
trees (t ∷ ts) = More t (trees ts)

-- operands in a row, each by its name, what it is, and the trees of its expressions
abbrev pub operands : List (Option Name × Shape × Trees) → Operands
operands [] = NoOperand
operands ((name, shape, ts) ∷ rest) = Operand name shape ts (operands rest)

-- whether every part stands before what it is a part of, and every `let` binds a name
abbrev mutual
  pub is_whole : Tree → Bool
  is_whole Bad = false
  is_whole Missing = true
  is_whole (Leaf n) = true
  is_whole (Path name) = true
  is_whole (LangPath item function) = true
  is_whole (Text bytes) = true
  is_whole (Bytes bytes) = true
  is_whole (Ref t) = is_whole t
  is_whole (Tuple ts) = all_whole ts
  is_whole (Field t name) = is_whole t
  is_whole (Array ts) = all_whole ts
  is_whole (Call t ts) = is_whole t && all_whole ts
  is_whole (Block is_unsafe steps) = steps_whole steps
  is_whole (InlineAsm kind options operands) = operands_whole operands

  pub all_whole : Trees → Bool
  all_whole Empty = true
  all_whole (More t ts) = is_whole t && all_whole ts

  pub steps_whole : Steps → Bool
  steps_whole End = true
  steps_whole (Tail t) = is_whole t
  steps_whole (Let name t steps) = is_whole t && steps_whole steps
  steps_whole (Nameless t steps) = false
  steps_whole (Do t steps) = is_whole t && steps_whole steps

  pub operands_whole : Operands → Bool
  operands_whole NoOperand = true
  operands_whole (Operand name shape ts operands) = all_whole ts && operands_whole operands
