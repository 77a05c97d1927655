-- Worked examples of lines of scripts, as their tokens.
use Rattle.std.proofs.Common.{◌≡◌, ℕ, true, false, List, [], ◌∷◌, Some, None, refl, codes}
use Rattle.std.specs.Str.{chars}
use Rattle.std.proofs.Math.Utf8.{encode}
use Rattle.syn_trees.specs.ReadQuoted.{Str}
use Rattle.syn_trees.specs.declared.token_tree.Spacing.TheVariants.{Alone, Joint}
use Rattle.syn_trees.specs.declared.token_tree.TokenTree as tree
use Rattle.syn_trees.specs.declared.cfg_predicate.CfgPredicate.{Atom, Composite}
use Rattle.syn_trees.specs.declared.cfg_predicate.CfgPredicate as pred
use Rattle.syn_trees.specs.declared.cfg_predicate.CfgAtomKey.TheVariants as key
use Rattle.syn_trees.specs.declared.format_call.Template.TheVariants as code
use Rattle.syn_trees.specs.declared.asm_call.AsmDir.TheVariants.{In, InOut}
use Rattle.syn_trees.specs.declared.asm_call.AsmRegSyntax.TheVariants as register
use Rattle.syn_trees.specs.declared.asm_call.AsmExprSyntax.TheVariants.{Leaf, Underscore}
use Rattle.syn_trees.specs.declared.asm_call.AsmOperandSyntax.TheVariants as operand_syntax
use Rattle.syn_trees.specs.declared.asm_call.AsmPieceKind.TheVariants as kinds
use Rattle.script_tokens.specs.declared.token.Bracket.TheVariants.{Round, Square}
use Rattle.script_tokens.specs.Tokens.{Kind, Word, Numeral, Text, Mark, Open, Close, Tok}
use Rattle.script_grammar.specs.declared.item.Item.TheVariants.{Flag, Pair, Version, Limit, NoLang, Macro, Cfg, Attr, Format, Asm}
use Rattle.hir_store.specs.declared.lang_item.LangItem.TheVariants.{FormatArguments}
use Rattle.script_grammar.specs.Templates.{node}
use Rattle.script_grammar.specs.Trees.{group_in, trees_in}
use Rattle.script_grammar.specs.Preds.{brackets_in, pred_in}
use Rattle.script_grammar.specs.AsmOperands.{operand}
use Rattle.script_grammar.specs.AsmPieces.{piece}
use Rattle.script_grammar.specs.Items.{item_of}

-- a token behind blanks, and one without
abbrev tok : Kind → Tok
tok kind = record { spaced = true; kind = kind }

abbrev joined : Kind → Tok
joined kind = record { spaced = false; kind = kind }

abbrev a_word : List ℕ → Tok
a_word text = tok (Word text)

abbrev a_mark : ℕ → Tok
a_mark c = tok (Mark c Alone)

-- `"x"`
abbrev x : Str
x = record { text = codes "\"x\""; inside = codes "x" }

-- `opt unix`
a_flag : item_of 0 (a_word (codes "opt") ∷ a_word (codes "unix") ∷ []) ≡ Some (Flag (codes "unix"))
unfolding item_of
a_flag = refl

-- `opt unix x` has a token too much
too_much : item_of 0 (a_word (codes "opt") ∷ a_word (codes "unix") ∷ a_word (codes "x") ∷ []) ≡ None
unfolding item_of
too_much = refl

-- `opt a = "x"`
a_pair : item_of 0 (a_word (codes "opt") ∷ a_word (codes "a") ∷ a_mark 61 ∷ tok (Text x) ∷ []) ≡ Some (Pair (codes "a") (codes "x"))
unfolding item_of chars encode
a_pair = refl

-- `version "x" no`
a_version : item_of 0 (a_word (codes "version") ∷ tok (Text x) ∷ a_word (codes "no") ∷ []) ≡ Some (Version (codes "x") false)
unfolding item_of chars encode
a_version = refl

-- `limit 1024`, `limit 1025`
a_limit : item_of 0 (a_word (codes "limit") ∷ tok (Numeral (codes "1024")) ∷ []) ≡ Some (Limit 1024)
unfolding item_of
a_limit = refl

no_limit : item_of 0 (a_word (codes "limit") ∷ tok (Numeral (codes "1025")) ∷ []) ≡ None
unfolding item_of
no_limit = refl

-- `nolang arguments`
no_lang : item_of 0 (a_word (codes "nolang") ∷ a_word (codes "arguments") ∷ []) ≡ Some (NoLang FormatArguments)
unfolding item_of
no_lang = refl

-- `macro m => ?`, `macro m = > ?`
a_macro : item_of 0 (a_word (codes "macro") ∷ a_word (codes "m") ∷ tok (Mark 61 Joint) ∷ joined (Mark 62 Alone) ∷ a_mark 63 ∷ []) ≡ Some (Macro (codes "m") None)
unfolding item_of
a_macro = refl

no_macro : item_of 0 (a_word (codes "macro") ∷ a_word (codes "m") ∷ a_mark 61 ∷ a_mark 62 ∷ a_mark 63 ∷ []) ≡ None
unfolding item_of
no_macro = refl

-- `format "x" @7 a = ?`, as call number 3
a_call : item_of 3 (a_word (codes "format") ∷ tok (Text x) ∷ a_mark 64 ∷ joined (Numeral (codes "7")) ∷ a_word (codes "a") ∷ a_mark 61 ∷ a_mark 63 ∷ []) ≡ Some (Format (record {
  template = Some (code.Str (codes "\"x\""));
  template_ptr = node 3;
  args = record { name = None; expr = Some (record { leaf = 7; ptr = node 3 }) } ∷ record { name = Some (codes "a"); expr = None } ∷ [];
  ptr = node 3;
}))
unfolding item_of
a_call = refl

-- `format m!` calls a macro
a_macro_call : item_of 0 (a_word (codes "format") ∷ a_word (codes "m") ∷ a_mark 33 ∷ []) ≡ Some (Format (record {
  template = Some (code.Macro (record { path = Some (codes "m") }));
  template_ptr = node 0;
  args = [];
  ptr = node 0;
}))
unfolding item_of
a_macro_call = refl

-- `asm global "x", ?; cfg(a) cfg = inout r @7 => _`, as call number 3
an_asm : item_of 3 (a_word (codes "asm") ∷ a_word (codes "global") ∷ tok (Text x) ∷ joined (Mark 44 Alone) ∷ a_mark 63 ∷ joined (Mark 59 Alone)
    ∷ a_word (codes "cfg") ∷ joined (Open Round) ∷ joined (Word (codes "a")) ∷ joined (Close Round) ∷ a_word (codes "cfg") ∷ a_mark 61
    ∷ a_word (codes "inout") ∷ a_word (codes "r") ∷ a_mark 64 ∷ joined (Numeral (codes "7")) ∷ tok (Mark 61 Joint) ∷ joined (Mark 62 Alone) ∷ a_word (codes "_") ∷ []) ≡ Some (Asm (record {
      global = true;
      naked = false;
      templates = code.Str (codes "\"x\"") ∷ code.Other ∷ [];
      pieces = record {
        cfgs = Atom (Some (key.Ident (codes "a"))) None ∷ [];
        kind = kinds.Operand (Some (codes "cfg")) (Some (operand_syntax.Reg (Some InOut) (Some (register.Class (codes "r"))) (Some (record {
          first = Some (Leaf (record { leaf = 7; ptr = node 3 }));
          arrow = true;
          second = Some Underscore;
        }))));
      } ∷ [];
      ptr = node 3;
    }))
unfolding item_of piece operand
an_asm = refl

-- `asm naked!` calls the macro `naked`; `asm naked !` is a naked call whose template is a macro call without a path
a_naked_macro : item_of 0 (a_word (codes "asm") ∷ a_word (codes "naked") ∷ joined (Mark 33 Alone) ∷ []) ≡ Some (Asm (record {
  global = false;
  naked = false;
  templates = code.Macro (record { path = Some (codes "naked") }) ∷ [];
  pieces = [];
  ptr = node 0;
}))
unfolding item_of
a_naked_macro = refl

a_naked_call : item_of 0 (a_word (codes "asm") ∷ a_word (codes "naked") ∷ a_mark 33 ∷ []) ≡ Some (Asm (record {
  global = false;
  naked = true;
  templates = code.Macro (record { path = None }) ∷ [];
  pieces = [];
  ptr = node 0;
}))
unfolding item_of
a_naked_call = refl

-- `in _`, `in ? ?`
a_class : operand 0 (a_word (codes "in") ∷ a_word (codes "_") ∷ []) ≡ Some (Some (operand_syntax.Reg (Some In) (Some (register.Class (codes "_"))) None), [])
unfolding operand
a_class = refl

no_class : operand 0 (a_word (codes "in") ∷ a_mark 63 ∷ a_mark 63 ∷ []) ≡ Some (Some (operand_syntax.Reg (Some In) None (Some (record { first = None; arrow = false; second = None }))), [])
unfolding operand
no_class = refl

-- `options(a,)` is no piece, `options()` is one
no_options : piece 0 (a_word (codes "options") ∷ joined (Open Round) ∷ joined (Word (codes "a")) ∷ joined (Mark 44 Alone) ∷ joined (Close Round) ∷ []) ≡ None
unfolding piece operand
no_options = refl

empty_options : piece 0 (a_word (codes "options") ∷ joined (Open Round) ∷ joined (Close Round) ∷ []) ≡ Some (record { cfgs = []; kind = kinds.Options [] }, [])
unfolding piece operand
empty_options = refl

-- `cfg` alone has no trees
no_trees : item_of 0 (a_word (codes "cfg") ∷ []) ≡ Some (Cfg [])
unfolding item_of trees_in
no_trees = refl

-- `a(1, "x")` to a depth of 1; a group that is not closed is none
some_trees : trees_in 1 (a_word (codes "a") ∷ joined (Open Round) ∷ joined (Numeral (codes "1")) ∷ joined (Mark 44 Alone) ∷ tok (Text x) ∷ joined (Close Round) ∷ []) ≡
    (tree.Ident (codes "a") ∷ tree.Subtree (tree.Literal (record { text = codes "1" }) ∷ tree.Punct 44 Alone ∷ tree.Literal (record { text = codes "x" }) ∷ []) ∷ [], [])
unfolding trees_in group_in
some_trees = refl

too_deep : trees_in 0 (joined (Open Round) ∷ joined (Close Round) ∷ []) ≡ ([], joined (Open Round) ∷ joined (Close Round) ∷ [])
unfolding trees_in group_in
too_deep = refl

other_bracket : trees_in 1 (joined (Open Round) ∷ joined (Close Square) ∷ []) ≡ ([], joined (Open Round) ∷ joined (Close Square) ∷ [])
unfolding trees_in group_in
other_bracket = refl

-- `all(a, version("x"),)` to a depth of 2
a_pred : pred_in 2 (a_word (codes "all") ∷ joined (Open Round) ∷ joined (Word (codes "a")) ∷ joined (Mark 44 Alone) ∷ a_word (codes "version") ∷ joined (Open Round) ∷ joined (Text x) ∷ joined (Close Round) ∷ joined (Mark 44 Alone) ∷ joined (Close Round) ∷ []) ≡
    Some (Composite (Some (codes "all")) (Atom (Some (key.Ident (codes "a"))) None ∷ pred.Version (Some (codes "\"x\"")) ∷ []), [])
unfolding brackets_in
a_pred = refl

-- to a depth of 1 it is none
no_pred : pred_in 1 (a_word (codes "all") ∷ joined (Open Round) ∷ a_word (codes "version") ∷ joined (Open Round) ∷ joined (Text x) ∷ joined (Close Round) ∷ joined (Close Round) ∷ []) ≡ None
unfolding brackets_in
no_pred = refl

-- `attr true`
an_attr : item_of 0 (a_word (codes "attr") ∷ a_word (codes "true") ∷ []) ≡ Some (Attr (Atom (Some key.True) None))
unfolding item_of
an_attr = refl
