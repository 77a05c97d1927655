-- The literal that a template reaches: a literal itself; a macro call what its expansion reaches in the expansion's file, with one expansion
-- less left; nothing else reaches anything.
use Rattle.std.specs.Prelude.{◌≡◌, ◌⊎◌, ℕ, suc, zero, Bool, true, false, List, Option, Some, None, option_map}
use Rattle.std.specs.Borrow.{Bor}
use Rattle.sym_core.specs.declared.files.HirFileId.{HirFileId}
use Rattle.sym_core.specs.declared.files.HirFileId.TheVariants.{Macro}
use Rattle.sym_core.specs.declared.files.MacroCallId.{MacroCallId}
use Rattle.syn_trees.specs.declared.format_call.MacroCallSrc.{MacroCallSrc}
use Rattle.syn_trees.specs.declared.format_call.Template.{Template}
use Rattle.syn_trees.specs.declared.format_call.Template.TheVariants as template
use Rattle.hir_expander.specs.Machine.{Machine, is_macro, overflown}

module _ (resolved : HirFileId → MacroCallSrc → Option MacroCallId) (expanded : MacroCallId → Option Template) where
  -- what an expansion reaches, where `deeper` tells what a template in a file does
  abbrev pub from_expansion : (HirFileId → Template → Option (List ℕ)) → MacroCallId → Option Template → Option (List ℕ)
  from_expansion deeper id None = None
  from_expansion deeper id (Some inner) = deeper (Macro id) inner

  -- what a call reaches whose path leads to this id or to none
  abbrev pub along : (HirFileId → Template → Option (List ℕ)) → Option (List ℕ) → Option MacroCallId → Option (List ℕ)
  along deeper None found = None
  along deeper (Some path) None = None
  along deeper (Some path) (Some id) = from_expansion deeper id (expanded id)

  -- what a template in a file reaches
  abbrev pub reached_by : (HirFileId → Template → Option (List ℕ)) → HirFileId → Template → Option (List ℕ)
  reached_by deeper file (template.Str literal) = Some literal
  reached_by deeper file (template.Macro call) = along deeper call.path (resolved file call)
  reached_by deeper file template.Other = None

  -- what a template in a file reaches, with so many expansions left
  abbrev pub reached : ℕ → HirFileId → Template → Option (List ℕ)
  reached zero file inner = reached_by (λ file inner. None) file inner
  reached (suc left) file inner = reached_by (reached left) file inner

  -- what a template in a file reaches under a recursion limit: one expansion more than the limit can stand within one another
  abbrev pub literal_of : ℕ → HirFileId → Template → Option (List ℕ)
  literal_of limit file inner = reached (suc limit) file inner

  -- what an expansion reaches in its file, with so many expansions left
  abbrev pub reached_inside : ℕ → HirFileId → Option Template → Option (List ℕ)
  reached_inside left file None = None
  reached_inside left file (Some inner) = reached left file inner

-- a template is a literal itself
abbrev pub is_direct : Template → Bool
is_direct (template.Str literal) = true
is_direct (template.Macro call) = false
is_direct template.Other = false

-- the token of a literal that is lent
abbrev pub token_of : Option (Bor (List ℕ)) → Option (List ℕ)
token_of = option_map (λ literal. literal.now)

-- an expander is as it was, or at an overflow inside of a macro's file
abbrev pub Keeps : Machine → Machine → Type 0
Keeps old new = (new ≡ old) ⊎ ((is_macro old.current.file_id ≡ true) × (new ≡ overflown old))
