-- Operands of a call, piece by piece, and what they make of the tree.
use Rattle.std.proofs.Common.{◌≡◌, ℕ, ◌+◌, ◌<◌, Bool, true, List, [], ◌∷◌, ◌++◌, length, map, take, Option, Some, None, refl, sym, ap, ap₂, ◌∙◌, subst, get_or, append-nil, option_map}
use Rattle.std.specs.List.{flat_map}
use Rattle.std.specs.Int.RustNames.{bit_or}
use Rattle.std.proofs.lemmas.Grind.{flat_map-append}
use Rattle.std.proofs.lemmas.List.{take_more}
use Rattle.sym_core.specs.declared.files.HirFileId.{HirFileId}
use Rattle.sym_core.specs.declared.name.Name.{Name}
use Rattle.sym_core.specs.declared.name.Name.TheVariants.{Text}
use Rattle.syn_trees.specs.declared.format_call.LeafSyntax.{LeafSyntax}
use Rattle.syn_trees.specs.declared.asm_call.AsmExprs.{AsmExprs}
use Rattle.syn_trees.specs.declared.asm_call.AsmPiece.{AsmPiece}
use Rattle.syn_trees.specs.declared.asm_call.AsmPieceKind.{AsmPieceKind}
use Rattle.ra_cfg.specs.Options.{OptionSet}
use Rattle.hir_store.specs.declared.ids.ExprId.{ExprId}
use Rattle.hir_store.specs.declared.asm.AsmOperand.{AsmOperand}
use Rattle.hir_store.specs.declared.asm.InlineAsmRegOrRegClass.{InlineAsmRegOrRegClass}
use Rattle.hir_store.specs.declared.store.ExpressionStore.{ExpressionStore}
use Rattle.hir_store.specs.Tree.{Trees, Empty, More, trees, SplitInOut}
use Rattle.hir_store.specs.Unfolding.{operand_exprs}
use Rattle.hir_store.specs.PartsBelow.{AllBelow, OperandsBelow}
use Rattle.hir_store.specs.Store.{Grows, AllStand}
use Rattle.hir_build.specs.Frame.{Frame}
use Rattle.hir_build.specs.Building.{Builds}
use Rattle.hir_build.specs.Placed.{Placed, AllPlaced, OperandsPlaced}
use Rattle.hir_build.proofs.Placed.{placed_later, all_placed_later, all_placed_cons}
use Rattle.hir_asm.specs.Operands.{Part, Written, collected, stored, both_ways, named, operand_in, words_in, bit_of, with_bits, if_on, operands_written, words_written, bits_written}
use Rattle.hir_asm.specs.Code.{leaf_tree, leaf_origin, operand_trees, operand_origins}
use Rattle.hir_asm.specs.Heads.{heads_of}
use Rattle.hir_asm.specs.Lowered.{written_head}
use Rattle.hir_asm.specs.Placing.{IsPart, MayBePart, AreOperands, Adds}
use Rattle.hir_asm.specs.declared.piece.Pieces.{Pieces}

-- Options

pub bits_both : (bits : ℕ) (words more : List (List ℕ)) → with_bits bits (words ++ more) ≡ with_bits (with_bits bits words) more
bits_both bits [] more = refl
bits_both bits (word ∷ words) more = bits_both (bit_or bits (bit_of word)) words more

pub bits_on : (bits : ℕ) (words : List (List ℕ)) (word : List ℕ) → with_bits bits (words ++ word ∷ []) ≡ bit_or (with_bits bits words) (bit_of word)
bits_on bits words word = bits_both bits words (word ∷ [])

-- Expressions

-- what is split, where an arrow is written
pub split_part : (register : InlineAsmRegOrRegClass) (late : Bool) (exprs : AsmExprs) → exprs.arrow ≡ true → (SplitInOut register late, collected exprs.first ∷ stored exprs.second) ≡ both_ways register late exprs
split_part register late exprs is = rw is refl

-- an expression that was placed in front of others
pub placed_in_front : {old mid new : Frame} (id : ExprId) (ids : List ExprId) (leaf : Option LeafSyntax) (leaves : List (Option LeafSyntax)) → {most lets more : ℕ} → Builds old mid most lets → Builds mid new more lets
    → Placed mid.store id (leaf_tree leaf) (leaf_origin old.file leaf ∷ []) → AllPlaced new.store ids (trees (map leaf_tree leaves)) (map (leaf_origin mid.file) leaves)
    → AllPlaced new.store (id ∷ ids) (trees (map leaf_tree (leaf ∷ leaves))) (map (leaf_origin old.file) (leaf ∷ leaves))
placed_in_front {old} {mid} {new} id ids leaf leaves first second one all =
    all_placed_cons new.store id ids _ _ _ _ (placed_later mid.store new.store second.grows id _ _ one) (subst (λ file. AllPlaced new.store ids (trees (map leaf_tree leaves)) (map (leaf_origin file) leaves)) first.file all)

-- Operands

module _ (file : HirFileId) where
  module _ (old new : ExpressionStore) (grows : Grows old new) where
    pub part_later : (part : Part) (operand : AsmOperand) → IsPart old file part operand → IsPart new file part operand
    part_later part operand was = record { shape = was.shape; placed = all_placed_later old new grows _ _ _ was.placed }

    pub operands_later : (written : List Written) (operands : List (Option Name × AsmOperand)) → AreOperands old file written operands → AreOperands new file written operands
    operands_later [] [] were = tt
    operands_later (one ∷ written) (operand ∷ operands) were = (were.0, part_later one.part operand.1 were.1, operands_later written operands were.2)
    operands_later [] (operand ∷ operands) were = absurd were
    operands_later (one ∷ written) [] were = absurd were

  pub operands_both : (store : ExpressionStore) (xs ys : List Written) (front back : List (Option Name × AsmOperand)) → AreOperands store file xs front → AreOperands store file ys back → AreOperands store file (xs ++ ys) (front ++ back)
  operands_both store [] ys [] back first second = second
  operands_both store (x ∷ xs) ys (operand ∷ front) back first second = (first.0, first.1, operands_both store xs ys front back first.2 second)
  operands_both store [] ys (operand ∷ front) back first second = absurd first
  operands_both store (x ∷ xs) ys [] back first second = absurd first

module _ (store : ExpressionStore) (file : HirFileId) where
  -- the operands stand for those of the tree, and come from where they are written
  pub operands_placed : (written : List Written) (operands : List (Option Name × AsmOperand)) → AreOperands store file written operands → OperandsPlaced store operands (operand_trees written) (flat_map (operand_origins file) written)
  operands_placed [] [] are = record { make = tt; come = refl }
  operands_placed (one ∷ written) ((name, operand) ∷ operands) are =
      let rest = operands_placed written operands are.2 in
      record {
        make = (sym are.0, sym are.1.shape, are.1.placed.stand, rest.make);
        come = ap₂ (λ a b. a ++ b) are.1.placed.come rest.come;
      }
  operands_placed [] (operand ∷ operands) are = absurd are
  operands_placed (one ∷ written) [] are = absurd are

  row_below : (ids : List ExprId) (ts : Trees) → AllStand store ids ts → AllBelow (length store.exprs) ids
  row_below [] ts all = tt
  row_below (id ∷ ids) (More t ts) all = (all.0.within, row_below ids ts all.1)
  row_below (id ∷ ids) Empty all = absurd all

  -- their expressions are in the store
  pub operands_below : (written : List Written) (operands : List (Option Name × AsmOperand)) → AreOperands store file written operands → OperandsBelow (length store.exprs) operands
  operands_below [] [] are = tt
  operands_below (one ∷ written) ((name, operand) ∷ operands) are = (row_below (operand_exprs operand) _ are.1.placed.stand, operands_below written operands are.2)
  operands_below [] (operand ∷ operands) are = absurd are
  operands_below (one ∷ written) [] are = absurd are

  -- templates see them as they are written
  pub heads_are : (written : List Written) (operands : List (Option Name × AsmOperand)) → AreOperands store file written operands → heads_of operands ≡ map written_head written
  heads_are [] [] are = refl
  heads_are (one ∷ written) ((name, operand) ∷ operands) are = ap₂ (λ head heads. head ∷ heads) (ap₂ (λ n shape. (n, shape)) are.0 are.1.shape) (heads_are written operands are.2)
  heads_are [] (operand ∷ operands) are = absurd are
  heads_are (one ∷ written) [] are = absurd are

-- One word more

pub bits_next : (bits all : ℕ) (words : List (List ℕ)) (i : ℕ) (word : List ℕ) → i < length words → word ≡ get_or words i word → all ≡ with_bits bits (take i words) → bit_or all (bit_of word) ≡ with_bits bits (take (i + 1) words)
bits_next bits all words i word lt is so_far =
    ap (λ n. bit_or n (bit_of word)) so_far ∙ sym (bits_on bits (take i words) word)
    ∙ ap (with_bits bits) (sym (take_more words i word lt ∙ ap (λ (x : List ℕ). take i words ++ x ∷ []) (sym is)))

-- One piece more

pub adds_none : (store : ExpressionStore) (file : HirFileId) (said : Pieces) → Adds store file [] [] said said
adds_none store file said = record { added = []; are = tt; operands = sym (append-nil said.operands); options = refl }

-- an operand that is dropped adds nothing, and any other one itself
pub adds_dropped : (store : ExpressionStore) (file : HirFileId) (name : Option (List ℕ)) (part : Option Part) (said : Pieces) → MayBePart store file part None → Adds store file (named name part) [] said said
adds_dropped store file name None said none = adds_none store file said
adds_dropped store file name (Some part) said none = absurd none

pub adds_operand : (store : ExpressionStore) (file : HirFileId) (name : Option (List ℕ)) (part : Option Part) (said : Pieces) (copy : Option Name) (operand : AsmOperand) (list : List (Option Name × AsmOperand))
    → copy ≡ option_map Text name → MayBePart store file part (Some operand) → list ≡ said.operands ++ (copy, operand) ∷ [] → Adds store file (named name part) [] said (record said { operands = list })
adds_operand store file name (Some part) said copy operand list same is pushed = record { added = (copy, operand) ∷ []; are = (same, is, tt); operands = pushed; options = refl }
adds_operand store file name None said copy operand list same is pushed = absurd is

module _ (options : OptionSet) (pieces : List AsmPiece) (i : ℕ) (piece : AsmPiece) (lt : i < length pieces) (is : piece ≡ get_or pieces i piece) where
  pieces_on : {A : Type 0} (read : AsmPieceKind → List A) → flat_map (if_on options read) (take (i + 1) pieces) ≡ flat_map (if_on options read) (take i pieces) ++ if_on options read piece
  pieces_on read =
      let next : take (i + 1) pieces ≡ take i pieces ++ piece ∷ [] = take_more pieces i piece lt ∙ ap (λ (x : AsmPiece). take i pieces ++ x ∷ []) (sym is) in
      ap (flat_map (if_on options read)) next ∙ flat_map-append (if_on options read) (take i pieces) (piece ∷ []) ∙ ap (λ l. flat_map (if_on options read) (take i pieces) ++ l) (append-nil (if_on options read piece))

  module _ {old mid new : Frame} {most lets more : ℕ} (first : Builds old mid most lets) (second : Builds mid new more lets) (said after : Pieces)
      (adds : Adds new.store mid.file (if_on options operand_in piece) (if_on options words_in piece) said after) where
    pub operands_next : AreOperands mid.store old.file (operands_written options (take i pieces)) said.operands → AreOperands new.store old.file (operands_written options (take (i + 1) pieces)) after.operands
    operands_next were =
        let before = operands_later old.file mid.store new.store second.grows (operands_written options (take i pieces)) said.operands were in
        let here = subst (λ file. AreOperands new.store file (if_on options operand_in piece) adds.added) first.file adds.are in
        let all = operands_both old.file new.store (operands_written options (take i pieces)) (if_on options operand_in piece) said.operands adds.added before here in
        subst (AreOperands new.store old.file (operands_written options (take (i + 1) pieces))) (sym adds.operands) (subst (λ written. AreOperands new.store old.file written (said.operands ++ adds.added)) (sym (pieces_on operand_in)) all)

    pub options_next : said.options.0 ≡ bits_written options (take i pieces) → after.options.0 ≡ bits_written options (take (i + 1) pieces)
    options_next were =
        adds.options ∙ ap (λ bits. with_bits bits (if_on options words_in piece)) were ∙ sym (bits_both 0 (words_written options (take i pieces)) (if_on options words_in piece)) ∙ ap (with_bits 0) (sym (pieces_on words_in))
