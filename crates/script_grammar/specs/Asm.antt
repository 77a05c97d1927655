-- A call of `asm!`, `global_asm!` or `naked_asm!`: its templates and its pieces; the call's number is the pointer of its nodes.
use Rattle.std.specs.Prelude.{ℕ, Bool, true, false, List, ◌∷◌, Option, Some, None, unwrap_or}
use Rattle.syn_trees.specs.declared.format_call.Template.{Template}
use Rattle.syn_trees.specs.declared.format_call.Template.TheVariants.{Other}
use Rattle.syn_trees.specs.declared.asm_call.AsmPiece.{AsmPiece}
use Rattle.syn_trees.specs.declared.asm_call.AsmCall.{AsmCall}
use Rattle.script_tokens.specs.Tokens.{Tok}
use Rattle.script_tokens.specs.Readers.{◌>>=◌, if_there, word, behind}
use Rattle.script_tokens.specs.Many.{many}
use Rattle.script_grammar.specs.declared.asm_word.AsmMacro.{AsmMacro}
use Rattle.script_grammar.specs.declared.asm_word.AsmMacro.TheVariants.{Asm, Global, Naked}
use Rattle.script_grammar.specs.AsmWords.{macro_of, direct_mark}
use Rattle.script_grammar.specs.Templates.{node, template}
use Rattle.script_grammar.specs.AsmPieces.{piece}

-- the word in front of the templates; with `!` directly behind it the word begins a template
abbrev pub macro_word : List Tok → Option (AsmMacro × List Tok)
macro_word toks = do
  name ← word toks
  called ← macro_of name.0
  if_there (direct_mark 33 name.1) (λ m. None) (Some (called, name.1))

-- which macro is called, and the tokens behind its word
abbrev pub asm_macro : List Tok → AsmMacro × List Tok
asm_macro toks = if_there (macro_word toks) (λ m. m) (Asm, toks)

-- a template; `?` is another expression than a literal or a macro call
abbrev pub asm_template : List Tok → Option (Template × List Tok)
asm_template toks = template toks >>= λ t. Some (unwrap_or t.0 Other, t.1)

-- a template, and as many behind commas as stand there
abbrev pub asm_templates : List Tok → Option (List Template × List Tok)
asm_templates toks = asm_template toks >>= λ first. Some (first.0 ∷ (many (behind 44 asm_template) first.1).0, (many (behind 44 asm_template) first.1).1)

-- whether `global_asm!`, or `naked_asm!`, is called
abbrev pub is_global : AsmMacro → Bool
is_global Global = true
is_global other = false

abbrev pub is_naked : AsmMacro → Bool
is_naked Naked = true
is_naked other = false

-- a call, by its macro, its templates and its pieces
abbrev pub asm_call_of : ℕ → AsmMacro → List Template → List AsmPiece × List Tok → AsmCall × List Tok
asm_call_of number called templates pieces = (record { global = is_global called; naked = is_naked called; templates = templates; pieces = pieces.0; ptr = node number }, pieces.1)

-- templates, and as many pieces behind semicolons as stand there
abbrev pub asm_behind : ℕ → AsmMacro × List Tok → Option (AsmCall × List Tok)
asm_behind number called = asm_templates called.1 >>= λ t. Some (asm_call_of number called.0 t.0 (many (behind 59 (piece number)) t.1))

-- the word in front of the templates if it is there, templates, and pieces
abbrev pub asm_call : ℕ → List Tok → Option (AsmCall × List Tok)
asm_call number toks = asm_behind number (asm_macro toks)
