-- What the script that is made for a number says: its option, and its calls with their predicates.
use Rattle.std.specs.Prelude.{ℕ, ◌%◌, ◌==◌, if◌then◌else◌, min, false, List, [], ◌∷◌, ◌++◌, map, Some, None, codes}
use Rattle.syn_trees.specs.declared.format_call.Template.TheVariants.{Str}
use Rattle.syn_trees.specs.declared.format_call.LeafSyntax.{LeafSyntax}
use Rattle.syn_trees.specs.declared.format_call.FormatArgSyntax.{FormatArgSyntax}
use Rattle.syn_trees.specs.declared.format_call.FormatCall.{FormatCall}
use Rattle.syn_trees.specs.declared.asm_call.AsmCall.{AsmCall}
use Rattle.syn_trees.specs.declared.asm_call.AsmDir.TheVariants.{In}
use Rattle.syn_trees.specs.declared.asm_call.AsmRegSyntax.TheVariants.{Class}
use Rattle.syn_trees.specs.declared.asm_call.AsmExprSyntax.TheVariants.{Leaf}
use Rattle.syn_trees.specs.declared.asm_call.AsmOperandSyntax.TheVariants.{Reg}
use Rattle.syn_trees.specs.declared.asm_call.AsmPieceKind.TheVariants.{Operand}
use Rattle.ra_cfg.specs.declared.cfg_expr.CfgAtom.TheVariants as atom
use Rattle.ra_cfg.specs.declared.cfg_expr.CfgExpr.{CfgExpr, Atom, All, Any, Not}
use Rattle.ra_cfg.specs.Options.{with_free, only_true}
use Rattle.gated_calls.specs.declared.call.GatedCall.{GatedCall}
use Rattle.gated_calls.specs.declared.call.Call.TheVariants as called
use Rattle.script_generator.specs.Generated.{most_items, most_names, numbers_below, names_text}
use Rattle.script_grammar.specs.Limits.{usual_limit}
use Rattle.script_grammar.specs.Templates.{node}
use Rattle.script.specs.Contents.{Contents, all_items}

-- a plain string token, by what stands in it
abbrev pub quoted : List ℕ → List ℕ
quoted inside = 34 ∷ (inside ++ 34 ∷ [])

-- a leaf of the call with this number
abbrev pub leaf : ℕ → ℕ → LeafSyntax
leaf number i = record { leaf = i; ptr = node number }

-- an argument without a name
abbrev pub argument : ℕ → ℕ → FormatArgSyntax
argument number i = record { name = None; expr = Some (leaf number i) }

-- the `format_args!` call with this number, by what its string says and by the leaves of its arguments
abbrev pub format_of : ℕ → List ℕ → List ℕ → FormatCall
format_of number text leaves = record { template = Some (Str (quoted text)); template_ptr = node number; args = map (argument number) leaves; ptr = node number }

-- the `asm!` call with this number, `"{}"` with this leaf in a register
abbrev pub asm_of : ℕ → ℕ → AsmCall
asm_of number i = record {
  global = false;
  naked = false;
  templates = Str (quoted (codes "{}")) ∷ [];
  pieces = record {
    cfgs = [];
    kind = Operand None (Some (Reg (Some In) (Some (Class (codes "reg"))) (Some (record { first = Some (Leaf (leaf number i)); arrow = false; second = None }))));
  } ∷ [];
  ptr = node number;
}

-- a flag as a predicate
abbrev pub flag : List ℕ → CfgExpr
flag name = Atom (atom.Flag name)

-- `all(any(a, b), not(c))`
abbrev pub three_parts : CfgExpr
three_parts = All (Any (flag (codes "a") ∷ flag (codes "b") ∷ []) ∷ Not (flag (codes "c")) ∷ [])

-- `any(b, all(c, d))`
abbrev pub off_parts : CfgExpr
off_parts = Any (flag (codes "b") ∷ All (flag (codes "c") ∷ flag (codes "d") ∷ []) ∷ [])

-- a call of a plain text
abbrev pub plain_call : ℕ → GatedCall
plain_call i = record { cfgs = []; call = called.Format (format_of i (codes "p{}q") (i ∷ [])) }

-- a call with options and two arguments
abbrev pub options_call : ℕ → GatedCall
options_call i = record { cfgs = three_parts ∷ []; call = called.Format (format_of i (codes "{0:>5}{0:x}{1:?}") (i ∷ i ∷ [])) }

-- a call that is off
abbrev pub braces_call : ℕ → GatedCall
braces_call i = record { cfgs = off_parts ∷ []; call = called.Format (format_of i (codes "{{}}") []) }

-- a call of inline assembly
abbrev pub assembly_call : ℕ → GatedCall
assembly_call i = record { cfgs = flag (codes "a") ∷ []; call = called.Asm (asm_of i i) }

-- the call with a number, by what is left of the number modulo 4
abbrev pub call_at : ℕ → GatedCall
call_at i = if i % 4 == 0 then plain_call i else (if i % 4 == 1 then options_call i else (if i % 4 == 2 then braces_call i else assembly_call i))

-- the last call, behind so many others, with so many names
abbrev pub last_call : ℕ → ℕ → GatedCall
last_call number names = record { cfgs = []; call = called.Format (format_of number (names_text names) []) }

-- the calls of the script of a number
abbrev pub calls_of : ℕ → List GatedCall
calls_of n = map call_at (numbers_below (min n most_items)) ++ last_call (min n most_items) (min n most_names) ∷ []

-- what the script of a number says: beside its calls the flag `a`, and what is usual
abbrev pub made_contents : ℕ → Contents
made_contents n = record { options = with_free only_true (atom.Flag (codes "a")); macros = []; limit = usual_limit; items = all_items; calls = calls_of n }
