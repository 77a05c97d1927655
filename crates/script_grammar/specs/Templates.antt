-- TEMPLATE and ARG: what a call of `format_args!` is made of; the call's number is the pointer of its nodes.
use Rattle.std.specs.Prelude.{ℕ, ◌==◌, if◌then◌else◌, List, Option, Some, None}
use Rattle.sym_core.specs.declared.files.AstPtr.{AstPtr}
use Rattle.syn_trees.specs.declared.format_call.Template.{Template}
use Rattle.syn_trees.specs.declared.format_call.Template.TheVariants.{Str, Macro, Other}
use Rattle.syn_trees.specs.declared.format_call.LeafSyntax.{LeafSyntax}
use Rattle.syn_trees.specs.declared.format_call.FormatArgSyntax.{FormatArgSyntax}
use Rattle.syn_trees.specs.declared.format_call.FormatCall.{FormatCall}
use Rattle.script_tokens.specs.Tokens.{Kind, Word, Text, Mark, Tok}
use Rattle.script_tokens.specs.Ahead.{uncons}
use Rattle.script_tokens.specs.Readers.{◌>>=◌, mark}
use Rattle.script_tokens.specs.Numbers.{direct_number}
use Rattle.script_tokens.specs.Many.{many}

-- the pointer of the nodes of the call with this number
abbrev pub node : ℕ → AstPtr
node number = record { node = number }

-- a macro call: behind its name `!` stands
abbrev pub macro_call : List ℕ → List Tok → Option (Option Template × List Tok)
macro_call name toks = mark 33 toks >>= λ bang. Some (Some (Macro (record { path = Some name })), bang.1)

-- a leaf, behind its `@`
abbrev pub other_template : List Tok → Option (Option Template × List Tok)
other_template toks = direct_number toks >>= λ number. Some (Some Other, number.1)

-- behind a mark: `!` is a macro call without a path, `?` is no template, `@` begins a leaf
abbrev pub template_by : ℕ → List Tok → Option (Option Template × List Tok)
template_by c toks =
    if c == 33 then Some (Some (Macro (record { path = None })), toks) else
    if c == 63 then Some (None, toks) else
    if c == 64 then other_template toks else
    None

-- what the first token decides
abbrev pub template_behind : Kind → List Tok → Option (Option Template × List Tok)
template_behind (Word name) toks = macro_call name toks
template_behind (Text token) toks = Some (Some (Str token.text), toks)
template_behind (Mark c spacing) toks = template_by c toks
template_behind other toks = None

-- a template
abbrev pub template : List Tok → Option (Option Template × List Tok)
template toks = uncons toks >>= λ r. template_behind r.0.kind r.1

-- a leaf of the call with this number, behind its `@`
abbrev pub leaf_expr : ℕ → List Tok → Option (Option LeafSyntax × List Tok)
leaf_expr number toks = direct_number toks >>= λ leaf. Some (Some (record { leaf = leaf.0; ptr = node number }), leaf.1)

-- behind a mark: `?` is no expression, `@` begins a leaf
abbrev pub expr_by : ℕ → ℕ → List Tok → Option (Option LeafSyntax × List Tok)
expr_by number c toks =
    if c == 63 then Some (None, toks) else
    if c == 64 then leaf_expr number toks else
    None

-- what the first token decides
abbrev pub expr_behind : ℕ → Kind → List Tok → Option (Option LeafSyntax × List Tok)
expr_behind number (Mark c spacing) toks = expr_by number c toks
expr_behind number other toks = None

-- a leaf, or `?` for none
abbrev pub expr : ℕ → List Tok → Option (Option LeafSyntax × List Tok)
expr number toks = uncons toks >>= λ r. expr_behind number r.0.kind r.1

-- an argument of this name, behind the name
abbrev pub named_arg : ℕ → List ℕ → List Tok → Option (FormatArgSyntax × List Tok)
named_arg number name toks = do
  equals ← mark 61 toks
  value ← expr number equals.1
  Some (record { name = Some name; expr = value.0 }, value.1)

-- what the first token decides
abbrev pub arg_behind : ℕ → Kind → List Tok → Option (FormatArgSyntax × List Tok)
arg_behind number (Word name) toks = named_arg number name toks
arg_behind number other toks = expr_behind number other toks >>= λ value. Some (record { name = None; expr = value.0 }, value.1)

-- an argument
abbrev pub arg : ℕ → List Tok → Option (FormatArgSyntax × List Tok)
arg number toks = uncons toks >>= λ r. arg_behind number r.0.kind r.1

-- a call, by its template and its arguments
abbrev pub call_of : ℕ → Option Template → List FormatArgSyntax × List Tok → FormatCall × List Tok
call_of number template args = (record { template = template; template_ptr = node number; args = args.0; ptr = node number }, args.1)

-- a template, and as many arguments as stand behind it
abbrev pub format_call : ℕ → List Tok → Option (FormatCall × List Tok)
format_call number toks = template toks >>= λ t. Some (call_of number t.0 (many (arg number) t.1))
