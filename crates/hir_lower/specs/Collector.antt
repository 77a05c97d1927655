-- A collector is seen as the store that it fills, how many fresh names are bound there, and where the calls stand that it lowers.
use Rattle.std.specs.Prelude.{◌≡◌, ℕ, false, Option}
use Rattle.sym_core.specs.declared.files.HirFileId.{HirFileId}
use Rattle.sym_core.specs.declared.files.MacroCallId.{MacroCallId}
use Rattle.syn_trees.specs.declared.format_call.MacroCallSrc.{MacroCallSrc}
use Rattle.syn_trees.specs.declared.format_call.Template.{Template}
use Rattle.hir_store.specs.declared.lang_item.LangItems.{LangItems}
use Rattle.hir_store.specs.declared.store.ExpressionStore.{ExpressionStore}
use Rattle.hir_build.specs.Frame.{Frame}
use Rattle.hir_expander.specs.Machine.{Machine, is_macro}
use Rattle.format_code.specs.FormatCall.{Surroundings}

pub record Collector : Type 0 where
  pub store : ExpressionStore
  pub fresh : ℕ
  pub file : HirFileId
  pub limit : ℕ
  pub items : LangItems

-- where its calls stand, under these macros
abbrev pub around : (HirFileId → MacroCallSrc → Option MacroCallId) → (MacroCallId → Option Template) → Collector → Surroundings
around resolved expanded collector = record { resolved = resolved; expanded = expanded; file = collector.file; limit = collector.limit; items = collector.items }

-- the frame that its code is built in
abbrev pub frame_of : Collector → Frame
frame_of collector = record { store = collector.store; fresh = collector.fresh; file = collector.file; items = collector.items }

-- it stands where it stood, whatever its store holds now
pub record Stays (old new : Collector) : Type 0 where
  pub file : new.file ≡ old.file
  pub limit : new.limit ≡ old.limit
  pub items : new.items ≡ old.items

-- a builder beside an expander, as a collector
abbrev pub collector_of : Frame → Machine → Collector
collector_of frame machine = record { store = frame.store; fresh = frame.fresh; file = frame.file; limit = machine.limit; items = frame.items }

-- the expander stands where the builder does: in a file that no macro made, outside of all expansions
pub record IsAtRest (frame : Frame) (machine : Machine) : Type 0 where
  pub file : machine.current.file_id ≡ frame.file
  pub outside : is_macro frame.file ≡ false
  pub depth : machine.depth ≡ 0

-- an expander stands in these surroundings
pub record IsAt (resolved : HirFileId → MacroCallSrc → Option MacroCallId) (expanded : MacroCallId → Option Template) (machine : Machine) (around : Surroundings) : Type 0 where
  pub resolved_by : around.resolved ≡ resolved
  pub expanded_by : around.expanded ≡ expanded
  pub file : around.file ≡ machine.current.file_id
  pub limit : around.limit ≡ machine.limit
