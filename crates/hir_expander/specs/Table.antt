-- A table of macros: their names with what each expands to, in the order in which the names were first defined. The id of a macro is its place.
use Rattle.std.specs.Prelude.{ℕ, Bool, List, nat_eq, Option, slice_get, position}
use Rattle.std.specs.Option.{option_map, option_and_then}
use Rattle.std.specs.Cmp.Lexicographic.{pointwise}
use Rattle.std.specs.Map.{keys_of}
use Rattle.indexmap.specs.IndexMap.{insert_entry}
use Rattle.sym_core.specs.declared.files.MacroCallId.{MacroCallId}
use Rattle.syn_trees.specs.declared.format_call.MacroCallSrc.{MacroCallSrc}
use Rattle.syn_trees.specs.declared.format_call.Template.{Template}
use Rattle.hir_expander.specs.declared.macros.FileMaps.{FileMaps}

-- a macro: its name, and what it expands to, where it expands to anything
abbrev pub Definition : Type 0
Definition = List ℕ × Option Template

-- the most macros that a table can have
abbrev pub max_macros : ℕ
max_macros = 4294967295

-- whether two names are the same text
abbrev pub same_name : List ℕ → List ℕ → Bool
same_name = pointwise nat_eq

-- the table with one definition more: a name that is there keeps its place, and a new one goes last
abbrev pub defined : List ℕ → Option Template → List Definition → List Definition
defined name body table = insert_entry same_name table name body

-- the place of a name
abbrev pub place_of : List Definition → List ℕ → Option ℕ
place_of table name = position (same_name name) (keys_of table)

-- the id of a place
abbrev pub id_of : ℕ → MacroCallId
id_of place = record { raw = place }

-- the id of a call: the place of its name
abbrev pub resolved : List Definition → MacroCallSrc → Option MacroCallId
resolved table call = option_map id_of (option_and_then (place_of table) call.path)

-- what the macro at a place expands to
abbrev pub expanded : List Definition → MacroCallId → Option Template
expanded table id = option_and_then (λ (macro : Definition). macro.1) (slice_get table id.raw)

-- every file has the maps of number 0
abbrev pub no_maps : FileMaps
no_maps = record { span_map = 0; ast_id_map = 0 }
